-- The loop's invariant: i findings are written, and the search is ready while any is left to write. Assumes nothing.
use Rattle.std.proofs.Common.{◌<◌}
use Rattle.judge.specs.own.Search.{Met, Ready}
use Rattle.listing.specs.own.Listing.{WroteTo}
use Rattle.listing.proofs.write.Given as goal

abbrev pub invariant-loop-i : goal.invariant-loop-i
invariant-loop-i l = WroteTo (Met l.words l.fn.first) l.initial.list l.i l.c l.list × (l.i < l.n → Ready l.words l.c)
