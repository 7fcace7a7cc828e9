-- A rule has few findings: they are in order, each within the declared items. Assumes nothing.
use Rattle.std.proofs.Common.{ap, inl, inr, arith, mul-le-mul_right, suc-mul}
use Rattle.std.specs.Prelude.{List, [], ◌∷◌, ℕ, suc, ◌+◌, ◌*◌, ◌≤◌, ◌<◌, length}
use Rattle.logic.specs.Number.{One}
use Rattle.logic.specs.Number.One.{first, later}
use Rattle.store.specs.declared.Counts.{Counts}
use Rattle.store.specs.Cell.{Cell}
use Rattle.rule.specs.declared.Finding.{Finding}
use Rattle.rule.specs.declared.Rule.{Rule}
use Rattle.rule.specs.Second.{Second}
use Rattle.std.specs.Prelude.{None, Some}
use Rattle.rule.specs.Breaks.{Breaks}
use Rattle.rule.specs.Findings.{Before, Findings, InOrder, SecondBefore}
use Rattle.rule.specs.Findings.InOrder.{more}

-- the place of a second item: none comes first
abbrev rank : Second → ℕ
rank None = 0
rank (Some j) = j.0 + 1

-- the place of a finding among all pairs of an item and a second item or none, of m items
abbrev place : ℕ → Finding → ℕ
place m f = f.item.0 * suc m + rank f.second

rank_rises : (s t : Second) → SecondBefore s t → rank s < rank t
rank_rises None None b = absurd b
rank_rises None (Some j) b = omega arith
rank_rises (Some i) None b = absurd b
rank_rises (Some i) (Some j) b = omega arith

place-rises : (m : ℕ) (f g : Finding) → rank f.second ≤ m → Before f g → place m f < place m g
place-rises m f g h (inl l) = omega (arith, suc-mul f.item.0 (suc m), mul-le-mul_right (suc m) l)
place-rises m f g h (inr q) = omega (arith, ap (λ (x : ℕ). x * suc m) q.0, rank_rises f.second g.second q.1)

-- so many places from l on to below k hold no more findings
rising-few : (m l k : ℕ) (fs : List Finding) → l ≤ k → InOrder fs → ((f : Finding) → One f fs → (l ≤ place m f) × (place m f < k) × (rank f.second ≤ m)) → length fs + l ≤ k
rising-few m l k [] h o w = omega arith
rising-few m l k (f ∷ fs) h (more b o) w =
    let z = w f first in
    let q = rising-few m (place m f + 1) k fs (omega (arith, z.1)) o (λ g p. let y = w g (later p) in (omega (arith, place-rises m f g z.2 (b g p)), y.1, y.2)) in
    omega (arith, z.0)

breaks-few : (C : Cell → Type 0) (n : Counts) (u : Rule) (m x : ℕ) (s : Second) → n.items ≤ m → Breaks C n u x s → (x < m) × (rank s ≤ m)
breaks-few C n u m x None h b = (omega (arith, b.0), omega arith)
breaks-few C n u m x (Some j) h b = (omega (arith, b.0), omega (arith, b.1))

-- among m items at most m times m + 1 of them
pub few-findings : {C : Cell → Type 0} {n : Counts} {k m : ℕ} {u : Rule} {fs : List Finding} → n.items ≤ m → Findings C n k u fs → length fs ≤ m * suc m
few-findings {C} {n} {m = m} {u} {fs} h a = omega (arith, rising-few m 0 (m * suc m) fs (omega arith) a.ordered inside)
  where
    inside : (f : Finding) → One f fs → (0 ≤ place m f) × (place m f < m * suc m) × (rank f.second ≤ m)
    inside f o =
        let z = breaks-few C n u m f.item.0 f.second h (a.sound f o).1 in
        (omega arith, omega (arith, suc-mul f.item.0 (suc m), mul-le-mul_right (suc m) z.0, z.1), z.1)
