-- Laws of the rows of pairs that break a rule. Assumes nothing.
use Rattle.std.specs.Prelude.{◌≡◌, refl, ◌⊎◌, Bool, true, false, List, ℕ, ◌*◌, ◌≤◌, ◌<◌}
use Rattle.std.proofs.Common.{sym, subst, inl, inr, arith}
use Rattle.logic.specs.own.Decides.{Decides}
use Rattle.row.specs.own.Row.{RowHas}
use Rattle.row.specs.own.Pick.{Empty, Marked, Marks, Met, Without, room}
use Rattle.row.specs.laws.Marks.{marks-never}
use Rattle.breach.specs.own.Plan.{Beside}

module _ {n : ℕ} where
  module _ {a b r : List ℕ} {P Q : ℕ → Type 0} (small : n ≤ 64 * room) (f : Marks n a P) (g : Beside n a b Q) where
    -- what both rows mark
    pub marks-met : Met a b r → Marks n r (λ y. P y × Q y)
    marks-met m =
        record {
          sound = λ y h. let z = f.sound y (m.left y h) in (z.0, (z.1, ((g y z.0 (m.left y h)).sound y (m.right y h)).1));
          whole = λ y l h. let k = f.whole y l h.0 in m.has y (omega arith) k ((g y l k).whole y l h.1);
        }

    -- what one marks and the other does not
    pub marks-without : Without a b r → Marks n r (λ y. P y × ¬ (Q y))
    marks-without m =
        record {
          sound = λ y h. let z = f.sound y (m.left y h) in (z.0, (z.1, λ q. m.right y h ((g y z.0 (m.left y h)).whole y z.0 q)));
          whole = λ y l h. let k = f.whole y l h.0 in m.has y (omega arith) k (λ q. h.1 ((g y l k).sound y q).1);
        }

  module _ {x a b : ℕ} {on : Bool} where
    -- the rule names another first item
    pub named-no : {r : List ℕ} → Empty r → ¬ (x ≡ a) → Marks n r (λ y. (x ≡ a) × (y ≡ b) × (on ≡ true))
    named-no e f = marks-never e (λ y l h. f h.0)

    -- the second item that it names is not declared
    pub named-out : {r : List ℕ} → Empty r → n ≤ b → Marks n r (λ y. (x ≡ a) × (y ≡ b) × (on ≡ true))
    named-out e l = record { sound = λ y h. absurd (e.none y h); whole = λ y k h. absurd (omega (arith, h.1)) }

    -- the pair that it names
    pub named-one : {s r : List ℕ} → Empty s → x ≡ a → b < n → Marked on b s r → Marks n r (λ y. (x ≡ a) × (y ≡ b) × (on ≡ true))
    named-one {s} {r} e q l m = record { sound = λ y h. sound y (m.only y h); whole = λ y k h. subst (λ (z : ℕ). RowHas r z) (sym h.1) (m.gets h.2) }
      where
        sound : (y : ℕ) → RowHas s y ⊎ ((on ≡ true) × (y ≡ b)) → (y < n) × ((x ≡ a) × (y ≡ b) × (on ≡ true))
        sound y (inl h) = absurd (e.none y h)
        sound y (inr h) = (omega (arith, h.1), (q, h.1, h.0))

    -- the pair has the property that the flag decides
    pub named-is : {r : List ℕ} {Q : ℕ → Type 0} → Marks n r (λ y. (x ≡ a) × (y ≡ b) × (on ≡ true)) → Decides on (Q b) → Marks n r (λ y. (x ≡ a) × (y ≡ b) × Q y)
    named-is {Q = Q} m d =
        record {
          sound = λ y h. let z = m.sound y h in (z.0, (z.1.0, z.1.1, subst Q (sym z.1.1) (d.holds z.1.2)));
          whole = λ y l h. m.whole y l (h.0, h.1, told on refl (subst Q h.1 h.2));
        }
      where
        told : (t : Bool) → on ≡ t → Q b → on ≡ true
        told true q p = q
        told false q p = absurd (d.fails q p)
