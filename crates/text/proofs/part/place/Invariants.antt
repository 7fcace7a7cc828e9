-- `text::part::place` meets its contract. Assumes nothing.
use Rattle.std.proofs.Common.{◌≡◌, ◌≤◌, ◌+◌, ◌-◌, length}
use Rattle.text.specs.Bytes.{place}
use Rattle.text.specs.Split.{split}
use Rattle.text.specs.own.Split.{parts_from}
use Rattle.text.proofs.part.place.Given as goal

abbrev pub invariant-loop-at : goal.invariant-loop-at
invariant-loop-at l = (l.k ≤ l.at) × (l.at ≤ length l.words + 1) × (place l.w (split 32 l.words) ≡ l.k + place l.w (parts_from 32 l.words l.at))

abbrev pub decreases-loop-at : goal.decreases-loop-at
decreases-loop-at l = length l.words + 1 - l.at
