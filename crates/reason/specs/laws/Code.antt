-- Laws of statements as numbers. Assumes nothing.
use Rattle.std.specs.Prelude.{◌≡◌, refl, Bool, true, false, ℕ, ◌+◌, ◌*◌, ◌/◌, ◌%◌, ◌≤◌, ◌<◌}
use Rattle.std.proofs.Common.{ap, arith, ne_eqb}
use Rattle.store.specs.declared.Counts.{Counts}
use Rattle.store.specs.declared.Statement.{Statement}
use Rattle.store.specs.Cell.{Cell, Within, cell_of}
use Rattle.store.specs.Cell.Cell.{Same, Under, RoleUnder, In, Link}
use Rattle.store.specs.Layout.{Fits}
use Rattle.store.specs.own.Laid.{widest}
use Rattle.reason.specs.own.Code.{Small, SmallCell, cell_at, cell_by, role_kind}

-- the cell of a number made of parts
pub cell-number : (k n a b r : ℕ) → n < 8 → a < 512 → b < 512 → k ≡ n + 8 * a + 4096 * b + 2097152 * r → cell_at k ≡ cell_by n a b r
unfolding cell_at
cell-number k n a b r hn ha hb e =
    let kind : k % 8 ≡ n = omega arith in
    let rest : k / 8 ≡ a + 512 * (b + 512 * r) = omega arith in
    let one : k / 8 % 512 ≡ a = omega (arith, ap (λ (m : ℕ). m % 512) rest) in
    let last : k / 4096 ≡ b + 512 * r = omega arith in
    let two : k / 4096 % 512 ≡ b = omega (arith, ap (λ (m : ℕ). m % 512) last) in
    let three : k / 2097152 ≡ r = omega arith in
    rw (kind, one, two, three) refl

-- a number of a kind
pub cell-kind : (k n : ℕ) → k % 8 ≡ n → cell_at k ≡ cell_by n (k / 8 % 512) (k / 4096 % 512) (k / 2097152)
unfolding cell_at
cell-kind k n e = ap (λ (m : ℕ). cell_by m (k / 8 % 512) (k / 4096 % 512) (k / 2097152)) e

-- a number of no other kind states a link
pub cell-link : (k : ℕ) → ¬ (k % 8 ≡ 0) → ¬ (k % 8 ≡ 1) → ¬ (k % 8 ≡ 2) → ¬ (k % 8 ≡ 3) → ¬ (k % 8 ≡ 4) → cell_at k ≡ Link (k / 2097152) (k / 8 % 512) (k / 4096 % 512)
unfolding cell_at
cell-link k a b c d e = rw (ne_eqb (k % 8) 0 a, ne_eqb (k % 8) 1 b, ne_eqb (k % 8) 2 c, ne_eqb (k % 8) 3 d, ne_eqb (k % 8) 4 e) refl

-- the numbers of steps from role to role
pub cell-role : {n : ℕ} (u : Bool) (a b r : ℕ) → n ≡ role_kind u → cell_by n a b r ≡ RoleUnder a u b
cell-role true a b r e = rw e refl
cell-role false a b r e = rw e refl

pub role-kind-small : {n : ℕ} (u : Bool) → n ≡ role_kind u → n < 8
role-kind-small true e = omega arith
role-kind-small false e = omega arith

within-cell : {W : ℕ} {n : Counts} (c : Cell) → W ≤ widest → Within n c → Fits W n → SmallCell c
within-cell (Same a b) h w f = (omega (arith, w.0, f.items, h), omega (arith, w.1, f.items, h))
within-cell (Under a b) h w f = (omega (arith, w.0, f.concepts), omega (arith, w.1, f.concepts))
within-cell (RoleUnder r u s) h w f = (omega (arith, w.0, f.roles), omega (arith, w.1, f.roles))
within-cell (In a b) h w f = (omega (arith, w.0, f.items, h), omega (arith, w.1, f.concepts))
within-cell (Link r a b) h w f = (omega (arith, w.0, f.roles), omega (arith, w.1, f.items, h), omega (arith, w.2, f.items, h))

-- a statement within counts that fit in any store has small numbers
pub within-small : {W : ℕ} {n : Counts} (s : Statement) → W ≤ widest → Within n (cell_of s) → Fits W n → Small s
within-small s h w f = within-cell (cell_of s) h w f
