-- `judge::findings::advance` meets its contract: the next place of the row, or the next row that has one. Assumes nothing.
use Rattle.std.specs.Prelude.{◌*◌, ◌≤◌}
use Rattle.std.proofs.Common.{arith}
use Rattle.row.specs.own.Pick.{room}
use Rattle.store.specs.own.View.{held}
use Rattle.judge.specs.laws.Cursor.{advances-end, advances-row, advances-rows}
use Rattle.judge.proofs.findings.advance.Goals as goal

pub returns-then-view-c : goal.returns-then-view-c
returns-then-view-c c = advances-end c.if-view-c.true

pub returns-then-y-view : goal.returns-then-y-view
returns-then-y-view c = let n = c.args.view.now.counts in
    let C = held c.args.view.now in
    let w : n.items ≤ 64 * room = omega (arith, c.args.view.now.closed.fits.items, c.args.view.now.laid.wide) in
    advances-row C n c.args.c c.if-view-c.false w c.item_row.ensures c.without-rest.ensures c.least-y.ensures c.if-y-view.true

pub returns : goal.returns
returns c = let n = c.args.view.now.counts in
    let C = held c.args.view.now in
    let w : n.items ≤ 64 * room = omega (arith, c.args.view.now.closed.fits.items, c.args.view.now.laid.wide) in
    advances-rows C n c.args.c c.if-view-c.false w c.item_row.ensures c.without-rest.ensures c.least-y.ensures c.if-y-view.false c.seek.ensures
