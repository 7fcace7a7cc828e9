-- Laws of the walk along the fields of a line. Assumes nothing.
use Rattle.std.specs.Prelude.{◌≡◌, refl, Option, Some, None, Result, Bool, true, false, cond, ℕ, zero, suc, ◌+◌, slice_get}
use Rattle.std.proofs.Math.Path.{sym}
use Rattle.std.proofs.Common.{ap, ◌∙◌, arith, List, [], ◌∷◌}
use Rattle.field.specs.declared.Due.{Due}
use Rattle.field.specs.declared.Operator.{Operator}
use Rattle.field.specs.Due.{fits, is_expr, none, wanted}
use Rattle.field.specs.Names.{Names, field_fault, field_faults, lower_fault, nodes_in, nodes_of}
use Rattle.due.specs.own.Pending.{Stepped}
use Rattle.line.specs.declared.Fault.{Fault}
use Rattle.line.specs.own.Number.{found}
use Rattle.line.specs.own.Walk.{WalkedBy}
use Rattle.field.specs.Words.{Field, operator_of}
use Rattle.field.specs.laws.Names.{lower-none, lower-first, lower-assoc}

-- the walk stands where the es are due and the gs are left; what is before came to the fault a and k nodes
pub record Along (n : Names) (ds es : List Due) (fs gs : List Field) (a k : ℕ) : Type 0 where
  pub fit : fits ds fs ≡ fits es gs
  pub faults : field_faults n ds fs ≡ lower_fault a (field_faults n es gs)
  pub nodes : nodes_in ds fs ≡ k + nodes_in es gs

module _ (n : Names) (ds : List Due) (fs : List Field) where
  pub along-start : Along n ds ds fs fs 0 0
  along-start = record { fit = refl; faults = lower-none 0 (field_faults n ds fs) refl; nodes = omega arith }

  lower-zero : (a : ℕ) → lower_fault a 0 ≡ a
  lower-zero zero = sym (lower-none 0 0 refl)
  lower-zero (suc a) = sym (lower-first (suc a) 0 (λ q. omega arith) refl)

  pub along-stop : (es : List Due) (gs : List Field) (f : Field) (a : Result (Unit {0}) Fault) (k : ℕ) → slice_get es 0 ≡ None → Along n ds es fs (f ∷ gs) (found a) k → WalkedBy n ds fs (record { fits = false; fault = a; nodes = k })
  unfolding fits field_faults nodes_in
  along-stop [] gs f a k e w = record { fit = sym w.fit; fault = sym (w.faults ∙ lower-zero (found a)); nodes = omega (arith, w.nodes) }
  along-stop (d ∷ es) gs f a k e w = absurd (cc)

  pub along-end : (es : List Due) (a : Result (Unit {0}) Fault) (k : ℕ) (b : Bool) → b ≡ none es → Along n ds es fs [] (found a) k → WalkedBy n ds fs (record { fits = b; fault = a; nodes = k })
  unfolding fits field_faults nodes_in
  along-end [] a k b e w = record { fit = e ∙ sym w.fit; fault = sym (w.faults ∙ lower-zero (found a)); nodes = omega (arith, w.nodes) }
  along-end (d ∷ es) a k b e w = record { fit = e ∙ sym w.fit; fault = sym (w.faults ∙ lower-zero (found a)); nodes = omega (arith, w.nodes) }

  -- what is told of the word where an expression is due, and only there
  told-if : {A : Type 0} (b : Bool) (g : Option Operator → A) (z : A) (o w : Option Operator) → o ≡ cond b w None → cond b (g o) z ≡ cond b (g w) z
  told-if true g z o w q = ap g q
  told-if false g z o w q = refl

  pub along-step : (es es' : List Due) (gs : List Field) (f : Field) (d : Due) (o : Option Operator) (a b k m : ℕ) → Stepped es o es' → slice_get es 0 ≡ Some d
      → o ≡ cond (is_expr d) (operator_of f) None → b ≡ lower_fault a (field_fault n d f) → m ≡ cond (is_expr d) (nodes_of o) 0 → Along n ds es fs (f ∷ gs) a k → Along n ds es' fs gs b (k + m)
  unfolding fits field_faults nodes_in
  along-step [] es' gs f d o a b k m s g q p r w = absurd (cc)
  along-step (x ∷ es) es' gs f d o a b k m s g q p r w =
      let h : d ≡ x = cc in
      let v = rw h at q in
      let l = told-if (is_expr x) wanted [] o (operator_of f) v in
      let c = told-if (is_expr x) nodes_of 0 o (operator_of f) v in
      record {
        fit = w.fit ∙ rw (s, l);
        faults = w.faults ∙ rw (s, p, l, h) (sym (lower-assoc a (field_fault n x f) _));
        nodes = w.nodes ∙ rw (s, r, h, l, c) (omega arith);
      }
