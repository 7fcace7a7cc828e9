-- Laws of what is due. Assumes nothing.
use Rattle.std.specs.Prelude.{◌≡◌, refl, Option, Some, None, true, false, cond, List, [], ◌∷◌, ◌++◌, ℕ, zero, suc, ◌+◌, ◌-◌, ◌≤◌, ◌<◌, leb, length, slice_get, drop}
use Rattle.std.proofs.Common.{sym, ◌∙◌, add-one, arith}
use Rattle.std.proofs.Math.Dec.{leb-zero, leb-suc-zero, leb-suc-suc}
use Rattle.field.specs.declared.Due.{Due}
use Rattle.field.specs.declared.Due.TheVariants as due
use Rattle.due.specs.declared.Lead.TheVariants as lead
use Rattle.field.specs.declared.Operator.{Operator}
use Rattle.field.specs.declared.Operator.TheVariants as operator
use Rattle.due.specs.declared.Pending.{Pending}
use Rattle.field.specs.Due.{is_expr, none, wanted}
use Rattle.due.specs.own.Pending.{before, pending, opening, Stepped, Step}

-- ---- what is still due, by its first part

before-expr : (m : ℕ) (ds : List Due) → 0 < m → before None m ds ≡ due.Expr ∷ before None (m - 1) ds
before-expr zero ds h = absurd (omega arith)
before-expr (suc m) ds h = let k : suc m - 1 ≡ m = omega arith in rw k

none-drop : (k : ℕ) (ds : List Due) → none (drop k ds) ≡ leb (length ds) k
none-drop zero [] = sym (leb-zero 0)
none-drop zero (d ∷ ds) = sym (leb-suc-zero (length ds))
none-drop (suc k) [] = sym (leb-zero (suc k))
none-drop (suc k) (d ∷ ds) = none-drop k ds ∙ sym (leb-suc-suc (length ds) k)

get-drop : (k : ℕ) (ds : List Due) → slice_get ds k ≡ slice_get (drop k ds) 0
get-drop zero ds = refl
get-drop (suc k) [] = refl
get-drop (suc k) (d ∷ ds) = get-drop k ds

module _ (l : List Due) (p : Pending) where
  pub pend-expr : p.lead ≡ None → 0 < p.exprs → pending l p ≡ due.Expr ∷ before None (p.exprs - 1) (drop p.own l)
  pend-expr e h = rw e (before-expr p.exprs (drop p.own l) h)

  pub pend-own : p.lead ≡ None → p.exprs ≤ 0 → pending l p ≡ drop p.own l
  pend-own e h = let k : p.exprs ≡ 0 = omega arith in rw (e, k)

  pub pend-role : p.lead ≡ (Some lead.RoleUse) → pending l p ≡ due.RoleUse ∷ before None p.exprs (drop p.own l)
  pend-role e = rw e

  pub pend-least : p.lead ≡ (Some lead.AtLeast) → pending l p ≡ due.AtLeast ∷ before (Some lead.RoleUse) p.exprs (drop p.own l)
  pend-least e = rw e

  pub pend-most : p.lead ≡ (Some lead.AtMost) → pending l p ≡ due.AtMost ∷ before (Some lead.RoleUse) p.exprs (drop p.own l)
  pend-most e = rw e

  pub pend-item : p.lead ≡ (Some lead.Item) → pending l p ≡ due.Item ∷ before None p.exprs (drop p.own l)
  pend-item e = rw e

  pub none-some : {d : Due} {ds : List Due} → pending l p ≡ d ∷ ds → false ≡ none (pending l p)
  none-some q = rw q

  module _ (e : p.lead ≡ None) (h : p.exprs ≤ 0) where
    pub none-own : leb (length l) p.own ≡ none (pending l p)
    none-own = rw (pend-own e h, none-drop)

    pub next-own : slice_get l p.own ≡ slice_get (pending l p) 0
    next-own = rw (pend-own e h) (get-drop p.own l)

  pub next-some : {d : Due} {ds : List Due} → pending l p ≡ d ∷ ds → Some d ≡ slice_get (pending l p) 0
  next-some q = rw q

-- ---- one field more

-- a word of an expression, before m expressions
before-wants : (o : Option Operator) (m own : ℕ) (l : List Due) → pending l (opening o m own) ≡ wanted o ++ before None m (drop own l)
before-wants (Some operator.And) m own l = let k : m + 2 ≡ suc (suc m) = omega arith in rw k
before-wants (Some operator.Or) m own l = let k : m + 2 ≡ suc (suc m) = omega arith in rw k
before-wants (Some operator.Not) m own l = rw add-one
before-wants (Some operator.Some) m own l = rw add-one
before-wants (Some operator.All) m own l = rw add-one
before-wants (Some operator.AtLeast) m own l = rw add-one
before-wants (Some operator.AtMost) m own l = rw add-one
before-wants (Some operator.SelfOf) m own l = refl
before-wants (Some operator.One) m own l = refl
before-wants (Some operator.Top) m own l = refl
before-wants (Some operator.Bot) m own l = refl
before-wants None m own l = refl

opening-bounds : (o : Option Operator) (m own : ℕ) → ((opening o m own).exprs ≤ m + 2) × ((opening o m own).own ≡ own)
opening-bounds (Some operator.And) m own = (omega arith, refl)
opening-bounds (Some operator.Or) m own = (omega arith, refl)
opening-bounds (Some operator.Not) m own = (omega arith, refl)
opening-bounds (Some operator.Some) m own = (omega arith, refl)
opening-bounds (Some operator.All) m own = (omega arith, refl)
opening-bounds (Some operator.AtLeast) m own = (omega arith, refl)
opening-bounds (Some operator.AtMost) m own = (omega arith, refl)
opening-bounds (Some operator.SelfOf) m own = (omega arith, refl)
opening-bounds (Some operator.One) m own = (omega arith, refl)
opening-bounds (Some operator.Top) m own = (omega arith, refl)
opening-bounds (Some operator.Bot) m own = (omega arith, refl)
opening-bounds None m own = (omega arith, refl)

module _ (l : List Due) (p : Pending) (o : Option Operator) (r : Pending) where
  -- a field for which no expression was due
  pub step-plain : {d : Due} → pending l p ≡ d ∷ pending l r → is_expr d ≡ false → r.exprs ≤ p.exprs → r.own ≤ p.own → Step l p o r
  step-plain q e h g = record { due = rw q (rw e); exprs = omega arith; own = omega arith }

  -- one for an expression that was opened before
  pub step-expr : p.lead ≡ None → 0 < p.exprs → r ≡ opening o (p.exprs - 1) p.own → Step l p o r
  step-expr e h q =
      record {
        due = rw (pend-expr l p e h) (rw q (before-wants o (p.exprs - 1) p.own l));
        exprs = rw q (omega (arith, (opening-bounds o (p.exprs - 1) p.own).0));
        own = rw q (omega (arith, (opening-bounds o (p.exprs - 1) p.own).1));
      }

-- one of the line-up's own
module _ (l : List Due) (own : ℕ) (o : Option Operator) (r : Pending) where
  abbrev own_pending : Pending
  own_pending = record { lead = None; exprs = 0; own = own }

  own-due : (es : List Due) → ((d : Due) → slice_get l own ≡ Some d → es ≡ cond (is_expr d) (wanted o) [] ++ drop (own + 1) l) → Stepped (pending l own_pending) o es
  own-due es q = go own l (λ d g. q d g ∙ rw add-one)
    where
      go : (k : ℕ) (ds : List Due) → ((d : Due) → slice_get ds k ≡ Some d → es ≡ cond (is_expr d) (wanted o) [] ++ drop (suc k) ds) → Stepped (drop k ds) o es
      go zero [] f = tt
      go zero (d ∷ ds) f = f d refl
      go (suc k) [] f = tt
      go (suc k) (d ∷ ds) f = go k ds f

  pub step-own-plain : ((d : Due) → slice_get l own ≡ Some d → is_expr d ≡ false) → r ≡ record { lead = None; exprs = 0; own = own + 1 } → Step l own_pending o r
  step-own-plain e q = record { due = own-due (pending l r) (λ d g. rw (e d g, q)); exprs = rw q (omega arith); own = rw q (omega arith) }

  pub step-own-expr : {d : Due} → slice_get l own ≡ Some d → is_expr d ≡ true → r ≡ opening o 0 (own + 1) → Step l own_pending o r
  step-own-expr {d} g e q =
      record {
        due = own-due (pending l r) (λ b h. let z : d ≡ b = cc in rw (← z, e, q) (before-wants o 0 (own + 1) l));
        exprs = rw q (omega (arith, (opening-bounds o 0 (own + 1)).0));
        own = rw q (omega (arith, (opening-bounds o 0 (own + 1)).1));
      }

pub step-from-own : (l : List Due) (p : Pending) (o : Option Operator) (r : Pending) → p.lead ≡ None → p.exprs ≤ 0 → Step l (record { lead = None; exprs = 0; own = p.own }) o r → Step l p o r
step-from-own l p o r e h s = record { due = rw (pend-own l p e h) s.due; exprs = omega (arith, s.exprs); own = s.own }
