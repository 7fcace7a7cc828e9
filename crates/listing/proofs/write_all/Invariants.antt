-- The loop's invariant: i findings are written, and the trail is ready while any is left to write. Assumes nothing.
use Rattle.std.proofs.Common.{◌<◌}
use Rattle.field.specs.own.Table.{table_of}
use Rattle.trail.specs.own.Trail.{Going, Went}
use Rattle.listing.specs.own.Listing.{WroteTo}
use Rattle.listing.proofs.write_all.Given as goal

abbrev pub invariant-loop-i : goal.invariant-loop-i
invariant-loop-i l = WroteTo (Went l.known.sheet.now (table_of l.known.numbers.now l.known.counts) l.words l.fn.first) l.initial.list l.i l.c l.list × (l.i < l.n → Going l.known.sheet.now (table_of l.known.numbers.now l.known.counts) l.words l.c)
