-- `text::part::end_of` meets its contract. Assumes nothing.
use Rattle.std.proofs.Common.{◌≡◌}
use Rattle.text.specs.own.Split.{end_of}
use Rattle.text.proofs.part.end_of.Given as goal

abbrev pub invariant-loop-i : goal.invariant-loop-i
invariant-loop-i l = end_of l.t l.s l.at ≡ end_of l.t l.s l.i
