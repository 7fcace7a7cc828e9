-- What the test asks is what a closed store is. Assumes nothing.
use Rattle.std.proofs.Common.{sym, subst}
use Rattle.std.specs.Prelude.{Bool, List, ℕ}
use Rattle.logic.specs.own.Decides.{Decides}
use Rattle.logic.specs.laws.Decides.{decides-iff}
use Rattle.row.specs.Bit.{Words}
use Rattle.store.specs.declared.Counts.{Counts}
use Rattle.store.specs.declared.Layout.{Layout}
use Rattle.store.specs.Layout.{Fits, ClosedStore}
use Rattle.store.specs.own.Laid.{Laid}
use Rattle.closed.specs.own.Closed.{Rules}
use Rattle.store.specs.laws.Laid.{laid-is}
use Rattle.closed.specs.laws.Clean.{store-clean}
use Rattle.closed.specs.laws.Asked.{store-concepts, store-items, store-links, store-roles, store_same}
use Rattle.closed.specs.laws.Passed.{rules-store}

-- a closed store passes
pub asked : {at : Layout} {n : Counts} {s : List ℕ} → Laid at s → Words 64 s → ClosedStore at.width n s → Rules at n s
asked {n = n} {s = s} d ws m = subst (λ (l : Layout). Rules l n s) (sym (laid-is d)) (record {
  clean = store-clean ws m;
  same = store_same ws m;
  concepts = store-concepts ws m;
  roles = store-roles ws m;
  items = store-items ws m;
  links = store-links ws m;
})

-- and what passes is a closed store
pub passed : {at : Layout} {n : Counts} {s : List ℕ} → Laid at s → Fits at.width n → Words 64 s → Rules at n s → ClosedStore at.width n s
passed {n = n} {s = s} d f ws x =
    let r = subst (λ (l : Layout). Rules l n s) (laid-is d) x in
    rules-store f d.long ws r.clean r.same r.concepts r.roles r.items r.links

-- so a test of all that is asked is a test of a closed store
pub decides-closed : {at : Layout} {n : Counts} {s : List ℕ} {r : Bool} → Laid at s → Fits at.width n → Words 64 s → Decides r (Rules at n s) → Decides r (ClosedStore at.width n s)
decides-closed d f ws x = decides-iff (passed d f ws) (asked d ws) x
