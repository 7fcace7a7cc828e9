-- Laws of the row of the items that a role links an item to. Assumes nothing.
use Rattle.std.specs.Prelude.{◌≡◌, Bool, true, false, List, ℕ, ◌≤◌}
use Rattle.std.proofs.Common.{⊎_elim, arith}
use Rattle.row.specs.own.Pick.{Empty, Marks}
use Rattle.row.specs.laws.Marks.{marks-never}
use Rattle.store.specs.declared.Counts.{Counts}
use Rattle.store.specs.Layout.{Holds}
use Rattle.store.specs.own.Look.{LinksJoined}
use Rattle.rule.specs.declared.RoleUse.{RoleUse}
use Rattle.rule.specs.Meaning.{Linked, LinkedWay}

module _ (W : ℕ) (n : Counts) (s : List ℕ) (u : RoleUse) (x : ℕ) where
  -- a role that is not declared links nothing
  pub links-none : {r : List ℕ} → n.roles ≤ u.role.0 → Empty r → Marks n.items r (Linked (Holds W n s) u x)
  links-none l e = marks-never e (λ y k. none u.inverse y)
    where
      none : (v : Bool) (y : ℕ) → ¬ (LinkedWay (Holds W n s) v u.role.0 x y)
      none false y c = omega (arith, c.within)
      none true y c = omega (arith, c.within)

  -- the row of the role's links
  pub links-row : {none r : List ℕ} → u.inverse ≡ false → Empty none → LinksJoined (Holds W n s) n u.role.0 x none r → Marks n.items r (Linked (Holds W n s) u x)
  links-row v e d = rw v (record { sound = λ y h. let c = ⊎_elim (λ z. absurd (e.none y z)) (λ z. z) (d.sound y h) in (c.within.2, c); whole = λ y l c. d.links y c })

  -- the row of its inverse's
  pub links-back : {r : List ℕ} → u.inverse ≡ true → Marks n.items r (LinkedWay (Holds W n s) true u.role.0 x) → Marks n.items r (Linked (Holds W n s) u x)
  links-back v m = rw v m
