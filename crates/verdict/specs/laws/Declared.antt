-- The statements and the rules of an accepted sheet are made of names that it declares. Assumes nothing.
use Rattle.std.specs.Prelude.{◌≡◌, refl, Bool, true, false, cond, not, ◌||◌, List, [], ◌∷◌, ◌++◌, ℕ, ◌+◌, ltb, length}
use Rattle.std.proofs.Common.{sym, ap, subst, true≢false, ⊎_elim, arith, ltb-false}
use Rattle.std.proofs.lemmas.List.{map-append}
use Rattle.logic.specs.Number.{One}
use Rattle.logic.specs.Number.One.{first, later}
use Rattle.logic.specs.laws.Number.{one-cases, one_none}
use Rattle.text.specs.Split.{fields}
use Rattle.store.specs.declared.Statement.{Statement}
use Rattle.store.specs.Cell.{Cell, Within, cell_of}
use Rattle.closure.specs.Lines.Stated.{stated}
use Rattle.field.specs.declared.Form.{Form}
use Rattle.field.specs.declared.Form.TheVariants as form
use Rattle.field.specs.Names.{counts_of}
use Rattle.field.specs.Words.{Field, body_of, form_of}
use Rattle.field.specs.Due.{none}
use Rattle.line.specs.Fault.{begun, line_fault}
use Rattle.line.proofs.laws.Accepted.{Accepted, line-accepted}
use Rattle.saying.specs.Read.{rule_of}
use Rattle.stated.specs.Stated.{statement_of}
use Rattle.saying.proofs.laws.Judged.{Good, rule-good}
use Rattle.stated.specs.laws.Stated.{statement-within}
use Rattle.sheet.specs.Said.{Said, SheetRule, SheetStatement, StatedIn, line_said, marks_of, nothing, outcome, outcome_from, saying, statements_of}
use Rattle.sheet.specs.Said.Outcome.{accepted}
use Rattle.sheet.specs.laws.Pass.{accepted-start, accepted-step, said_of}

-- what was said is made of declared names
record Declared (s : Said) : Type 0 where
  statements : (z : Statement) → One z (statements_of s.statements) → Within (counts_of s.names) (cell_of z)
  rules : (r : SheetRule) → One r s.rules → Good (counts_of s.names) r.rule

-- one more at the end of a list
each_last : {A : Type 0} {P : A → Type 0} (xs : List A) (y : A) → ((z : A) → One z xs → P z) → P y → (z : A) → One z (xs ++ y ∷ []) → P z
each_last {A} {P} [] y f p z o = ⊎_elim (λ e. subst P (sym e) p) (λ q. absurd (one_none q)) (one-cases o)
each_last {A} {P} (x ∷ xs) y f p z o =
    ⊎_elim (λ e. f z (subst (λ (w : A). One w (x ∷ xs)) (sym e) first)) (λ q. each_last xs y (λ w r. f w (later r)) p z q) (one-cases o)

-- where neither a statement nor a rule was accepted, none was said
module _ (s : Said) (e : begun (marks_of s) ≡ false) where
  both_false : (a b : Bool) → (a || b) ≡ false → (a ≡ false) × (b ≡ false)
  both_false true b q = absurd (true≢false q)
  both_false false b q = (refl, q)

  no-statement : {z : Statement} → ¬ (One z (statements_of s.statements))
  no-statement {z} o = go s.statements (both_false (not (none s.statements)) (ltb 0 (length s.rules)) e).0 o
    where
      go : (ls : List SheetStatement) → not (none ls) ≡ false → ¬ (One z (statements_of ls))
      go [] q p = one_none p
      go (l ∷ ls) q p = true≢false q

  no-rule : {r : SheetRule} → ¬ (One r s.rules)
  no-rule {r} o = go s.rules (both_false (not (none s.statements)) (ltb 0 (length s.rules)) e).1 o
    where
      go : (rs : List SheetRule) → ltb 0 (length rs) ≡ false → ¬ (One r rs)
      go [] q p = one_none p
      go (u ∷ rs) q p = omega (arith, ltb-false 0 (length (u ∷ rs)) q)

-- names that are declared while there is no statement and no rule
fresh : (s y : Said) → begun (marks_of s) ≡ false → y.statements ≡ s.statements → y.rules ≡ s.rules → Declared y
fresh s y e p q = record {
  statements = λ z o. absurd (no-statement s e (subst (λ (ls : List SheetStatement). One z (statements_of ls)) p o));
  rules = λ r o. absurd (no-rule s e (subst (λ (rs : List SheetRule). One r rs) q o));
}

-- so it is after the fields of a line without a fault
saying-declared : (k : ℕ) (s : Said) (f : Form) (fs : List Field) → Accepted s.names (marks_of s) f fs → Declared s → Declared (saying k s f fs)
saying-declared k s form.Concept fs a h = fresh s (saying k s form.Concept fs) a.started refl refl
saying-declared k s form.Role fs a h = fresh s (saying k s form.Role fs) a.started refl refl
saying-declared k s form.Item fs a h = fresh s (saying k s form.Item fs) a.started refl refl
saying-declared k s (form.Statement w) fs a h = record {
  statements = rw map-append (each_last (statements_of s.statements) (statement_of s.names w fs) h.statements (statement-within s.names w fs a.right));
  rules = h.rules;
}
saying-declared k s (form.Rule w) fs a h = record {
  statements = h.statements;
  rules = each_last s.rules (record { line = k; rule = rule_of s.names w fs }) h.rules (rule-good s.names w fs a.right a.nodes);
}
saying-declared k s form.Bare fs a h = h
saying-declared k s form.Unknown fs a h = h

-- after such a line
line-declared : (k : ℕ) (s : Said) (l : List ℕ) → line_fault s.names (marks_of s) l ≡ 0 → Declared s → Declared (line_said k s l)
unfolding line_said
line-declared k s l e h = go (none l) refl
  where
    go : (t : Bool) → none l ≡ t → Declared (cond t s (saying k s (form_of (fields l)) (body_of (fields l))))
    go true q = h
    go false q = saying-declared k s (form_of (fields l)) (body_of (fields l)) (line-accepted s.names (marks_of s) l q e).1 h

-- and after all lines
from-declared : (k : ℕ) (s x : Said) (ls : List (List ℕ)) → outcome_from k s ls ≡ accepted x → Declared s → Declared x
unfolding outcome_from
from-declared k s x [] e h = subst Declared (ap said_of e) h
from-declared k s x (l ∷ ls) e h = let z = accepted-step k s x l ls e in from-declared (k + 1) (line_said k s l) x ls z.1 (line-declared k s l z.0 h)

module _ (W : ℕ) (sheet : List ℕ) {x : Said} (o : outcome W sheet ≡ accepted x) where
  sheet-declared : Declared x
  sheet-declared = let a = accepted-start W sheet x o in from-declared 2 (nothing a.0) x _ a.2 (record { statements = λ z q. absurd (one_none q); rules = λ r q. absurd (one_none q) })

  -- what the statements of an accepted sheet state is within its counts
  pub stated-within : (c : Cell) → StatedIn x c → Within (counts_of x.names) c
  stated-within c (stated {x = z} q) = sheet-declared.statements z q

  -- its rules are well formed, with their numbers below the counts
  pub rules-good : (r : SheetRule) → One r x.rules → Good (counts_of x.names) r.rule
  rules-good = sheet-declared.rules
