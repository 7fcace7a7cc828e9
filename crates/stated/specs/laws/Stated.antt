-- Laws of the statement of a line: its fields, and its numbers, which are below their counts where nothing is wrong. Assumes nothing.
use Rattle.std.specs.Prelude.{◌≡◌, refl, Bool, false, List, [], ◌∷◌, ℕ, suc, length, drop}
use Rattle.std.proofs.Common.{sym, ◌∙◌, arith}
use Rattle.text.specs.Split.{fields}
use Rattle.store.specs.Cell.{Within, cell_of, turn}
use Rattle.store.specs.declared.Statement.TheVariants as stated
use Rattle.rule.specs.declared.RoleUse.{RoleUse}
use Rattle.field.specs.declared.Due.{Due}
use Rattle.field.specs.declared.Due.TheVariants as due
use Rattle.field.specs.declared.Form.{Form}
use Rattle.field.specs.declared.Form.TheVariants as form
use Rattle.field.specs.declared.StatementWord.{StatementWord}
use Rattle.field.specs.declared.StatementWord.TheVariants as statement
use Rattle.field.specs.Due.{is_expr, lineup_of}
use Rattle.field.specs.Names.{Names, counts_of, field_fault}
use Rattle.field.specs.Words.{at, Field, body_of, form_of}
use Rattle.stated.specs.Stated.{statement_of}
use Rattle.field.specs.laws.Words.{body-words}
use Rattle.field.specs.laws.Right.{Right, concept-declared, item-declared, right-first, role-declared, role-use-declared}

-- the fields of a statement after its word
pub statement-body : (l : List ℕ) (w : StatementWord) → form_of (fields l) ≡ form.Statement w → drop 1 (fields l) ≡ body_of (fields l)
statement-body l w e = rw e at (body-words (fields l) (λ u. let z : ◌≡◌ {A = Form} form.Unknown (form.Statement w) = sym u ∙ e in let q : ◌≡◌ {A = ℕ} 0 1 = cc in omega arith))

-- a role under another
pub role-under-is : {a b c d : RoleUse} {t : Bool} → t ≡ turn a.inverse b.inverse → a ≡ c → b ≡ d
    → stated.RoleUnder a.role t b.role ≡ stated.RoleUnder c.role (turn c.inverse d.inverse) d.role
role-under-is e p q = rw (e, p, q)

module _ (n : Names) where
  at-later : (i : ℕ) (fs : List Field) → at i (drop 1 fs) ≡ at (suc i) fs
  at-later i [] = refl
  at-later i (f ∷ fs) = refl

  two-right : (a b : Due) (fs : List Field) → is_expr a ≡ false → is_expr b ≡ false → Right n (a ∷ b ∷ []) fs → (field_fault n a (at 0 fs) ≡ 0) × (field_fault n b (at 1 fs) ≡ 0)
  two-right a b fs e g r =
      let x = right-first n a (b ∷ []) fs e r in
      let y = right-first n b [] (drop 1 fs) g x.1 in
      (x.0, rw (at-later 0 fs) at y.0)

  pub statement-within : (w : StatementWord) (fs : List Field) → Right n (lineup_of (form.Statement w) (length fs)) fs → Within (counts_of n) (cell_of (statement_of n w fs))
  statement-within statement.In fs r = let x = two-right due.Item due.Concept fs refl refl r in (item-declared n _ x.0, concept-declared n _ x.1)
  statement-within statement.Rel fs r =
      let x = right-first n due.Role (due.Item ∷ due.Item ∷ []) fs refl r in
      let y = two-right due.Item due.Item (drop 1 fs) refl refl x.1 in
      (role-declared n _ x.0, item-declared n _ (rw (at-later 0 fs) at y.0), item-declared n _ (rw (at-later 1 fs) at y.1))
  statement-within statement.Same fs r = let x = two-right due.Item due.Item fs refl refl r in (item-declared n _ x.0, item-declared n _ x.1)
  statement-within statement.Under fs r = let x = two-right due.Concept due.Concept fs refl refl r in (concept-declared n _ x.0, concept-declared n _ x.1)
  statement-within statement.RoleUnder fs r = let x = two-right due.RoleUse due.RoleUse fs refl refl r in (role-use-declared n _ x.0, role-use-declared n _ x.1)
