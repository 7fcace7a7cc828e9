-- `reason::explain` meets its contract. Assumes nothing.
use Rattle.std.proofs.Common.{refl, arith}
use Rattle.reason.specs.laws.Explain.{aimed-of, fact-reasoned, plain-reasoned, plain-role, plain-same, plain-under, plain-wanted, role-low}
use Rattle.reason.proofs.explain.Goals as goal

pub by_steps-requires : goal.by_steps-requires
by_steps-requires c = let s = rw c.in-Same.is at c.requires in plain-wanted s (plain-same s)

pub by_steps-requires-in-Under : goal.by_steps-requires-in-Under
by_steps-requires-in-Under c = let s = rw c.in-Under.is at c.requires in plain-wanted s (plain-under s)

pub role_place-y-requires : goal.role_place-y-requires
role_place-y-requires c = let s = rw c.in-RoleUnder.is at c.requires in omega (arith, role-low s)

pub by_steps-requires-in-RoleUnder : goal.by_steps-requires-in-RoleUnder
by_steps-requires-in-RoleUnder c = let s = rw c.in-RoleUnder.is at c.requires in plain-wanted s (plain-role c.role_place-y.ensures s)

pub by_fact-requires : goal.by_fact-requires
by_fact-requires c = let s = rw c.in-In.is at c.requires in (aimed-of s refl, s.lent, record { wide = s.wide; clear = s.clear })

pub by_fact-requires-in-Link : goal.by_fact-requires-in-Link
by_fact-requires-in-Link c = let s = rw c.in-Link.is at c.requires in (aimed-of s refl, s.lent, record { wide = s.wide; clear = s.clear })

pub returns-in-Same : goal.returns-in-Same
returns-in-Same c = let s = rw c.in-Same.is at c.requires in rw c.in-Same.is (plain-reasoned s (plain-same s) c.by_steps.ensures)

pub returns-in-Under : goal.returns-in-Under
returns-in-Under c = let s = rw c.in-Under.is at c.requires in rw c.in-Under.is (plain-reasoned s (plain-under s) c.by_steps-in-Under.ensures)

pub returns-in-RoleUnder : goal.returns-in-RoleUnder
returns-in-RoleUnder c = let s = rw c.in-RoleUnder.is at c.requires in rw c.in-RoleUnder.is (plain-reasoned s (plain-role c.role_place-y.ensures s) c.by_steps-in-RoleUnder.ensures)

pub returns-in-In : goal.returns-in-In
returns-in-In c = let s = rw c.in-In.is at c.requires in rw c.in-In.is (fact-reasoned s refl c.by_fact.ensures)

pub returns-in-Link : goal.returns-in-Link
returns-in-Link c = let s = rw c.in-Link.is at c.requires in rw c.in-Link.is (fact-reasoned s refl c.by_fact-in-Link.ensures)
