-- `reason::choose::find` meets its contract: from no statement passed steps lead to the fact. Assumes nothing.
use Rattle.reason.specs.laws.Aim.{Unmet}
use Rattle.reason.proofs.choose.find.Given as goal

abbrev pub invariant-loop-i : goal.invariant-loop-i
invariant-loop-i l = Unmet l.g l.codes l.i
