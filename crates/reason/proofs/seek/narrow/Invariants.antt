-- `reason::seek::narrow` meets its contract: those marked are narrowed to, and the table is made of them. Assumes nothing.
use Rattle.reason.specs.laws.Seek.{Narrowing}
use Rattle.reason.proofs.seek.narrow.Given as goal

abbrev pub invariant-narrowing : goal.invariant-narrowing
invariant-narrowing l = Narrowing l.width l.kind l.nodes l.goal l.codes l.t l.marks l.end

abbrev pub decreases-narrowing : goal.decreases-narrowing
decreases-narrowing l = l.end
