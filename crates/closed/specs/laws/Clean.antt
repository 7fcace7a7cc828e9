-- A store's clean words, as the test asks them row by row. Assumes nothing.
use Rattle.std.specs.Prelude.{◌≡◌, Bool, true, false, List, ℕ, ◌+◌, ◌-◌, ◌^◌, ◌<◌, get_or}
use Rattle.std.proofs.Common.{inl, inr, arith}
use Rattle.row.specs.Bit.{Words}
use Rattle.row.specs.laws.Bit.{at_place, has-lt, bits-lt}
use Rattle.store.specs.declared.Counts.{Counts}
use Rattle.store.specs.Cell.{Within}
use Rattle.store.specs.Layout.{Fits, ClosedStore, role_at, role_limit, side}
use Rattle.store.specs.own.Laid.{layout_of}
use Rattle.closed.specs.own.Closed.{Clean, RoleBit}
use Rattle.store.specs.laws.Parts.{Parts, Step, link-place, store-parts}

step-bit : (n : ℕ) (u : Bool) (k o : ℕ) → k ≡ side u + o → o < n → RoleBit n k
step-bit n false k o e l = inl (omega arith)
step-bit n true k o e l = inr (omega arith, omega arith)

-- the words of a closed store are clean
pub store-clean : {W : ℕ} {n : Counts} {s : List ℕ} → Words 64 s → ClosedStore W n s → Clean (layout_of W) n s
store-clean {W} {n} {s} ws m = let p = store-parts m in record {
  same = λ x lx h lh k y. (p.same x h k lx lh (has-lt 64 (ws _) y) (at_place s (omega arith) y)).within;
  under = λ x lx h lh k y. let q = (p.under x k lx (at_place s (omega arith) y)).within in (q.0, omega (arith, q.1));
  role = λ r lr k y. let q = p.role r k lr y in (q.holds.within.0, step-bit n.roles q.sign k q.over q.at q.holds.within.1);
  item = λ x lx h lh k y. let q = (p.item x k lx (at_place s (omega arith) y)).within in (q.0, omega (arith, q.1));
  link = λ r lr x lx h lh k y. (p.link r x h k lr lx lh (has-lt 64 (ws _) y) (at_place s (omega (arith, link-place W r x h)) y)).within;
}

bit-step : (n : Counts) (r k : ℕ) → r < n.roles → RoleBit n.roles k → Step (Within n) r k
bit-step n r k l (inl y) = record { sign = false; over = k; at = omega arith; holds = (l, y) }
bit-step n r k l (inr y) = record { sign = true; over = k - role_limit; at = omega arith; holds = (l, omega arith) }

-- and clean words have only bits of cells within the counts
pub clean-parts : {W : ℕ} {n : Counts} {s : List ℕ} → Clean (layout_of W) n s → Parts W s (Within n)
clean-parts {W} {n} {s} c = record {
  same = λ a h k ha hh hk x. c.same a ha h hh k (at_place s (omega arith) x);
  under = λ a k ha x. let q = c.under a ha 0 (omega arith) k (at_place s (omega arith) x) in (q.0, omega (arith, q.1));
  role = λ r k hr x. let q = c.role r hr k x in bit-step n r k q.0 q.1;
  item = λ a k ha x. let q = c.item a ha 0 (omega arith) k (at_place s (omega arith) x) in (q.0, omega (arith, q.1));
  link = λ r a h k hr ha hh hk x. c.link r hr a ha h hh k (at_place s (omega (arith, link-place W r a h)) x);
}

-- a role's word has no bit above its two halves
pub role-small : {W : ℕ} {n : Counts} {s : List ℕ} → Fits W n → Words 64 s → Clean (layout_of W) n s → (r : ℕ) → r < role_limit → get_or s (role_at W + r) 0 < 2 ^ 32
role-small {n = n} f ws c r l = bits-lt 64 32 (ws _) (λ k x. small k (c.role r l k x).1)
  where
    small : (k : ℕ) → RoleBit n.roles k → k < 32
    small k (inl y) = omega (arith, f.roles)
    small k (inr y) = omega (arith, f.roles)
