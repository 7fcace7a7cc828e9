-- `Cursor::expr` and `Cursor::turns` meet their contracts. The measure is 16 times the nodes left, and for `turns` besides the turns left and 1: there are at most 8. Assumes nothing.
use Rattle.std.proofs.Common.{refl, ◌∷◌, [], arith}
use Rattle.body.proofs.Nodes.{roomy_at, written_at}
use Rattle.body.specs.laws.Writing.{not-close, not_done, and_second, and-done, least-few, least-turns, least-stride, least-pairs, least-done, turns-rest, turns-done}
use Rattle.body.proofs.Cursor.+expr_turns.Goals as goal

pub expr-close_not-requires : goal.expr-close_not-requires
expr-close_not-requires t c = not-close _ _ _ _ _ _ _ _ (4 ∷ 0 ∷ 0 ∷ 0 ∷ []) refl (roomy_at _ _ c.if-left-eq0.false c.node_at.ensures c.in-Not.is c.requires) c.open_not.ensures c.expr.ensures

pub expr-expr-requires-in-And-2 : goal.expr-expr-requires-in-And-2
expr-expr-requires-in-And-2 t c = ((let e = c.decreases in let n = c.if-left-eq0.false in omega arith), and_second _ _ _ _ _ _ _ (roomy_at _ _ c.if-left-eq0.false c.node_at.ensures c.in-And.is c.requires) c.expr-in-And.ensures)

pub expr-turns-turned-requires : goal.expr-turns-turned-requires
expr-turns-turned-requires t c = ((let e = c.decreases in let n = c.if-left-eq0.false in omega (arith, least-few _ _ _ _ _ (roomy_at _ _ c.if-left-eq0.false c.node_at.ensures c.in-AtLeast.is c.requires))), least-turns _ _ _ _ _ (roomy_at _ _ c.if-left-eq0.false c.node_at.ensures c.in-AtLeast.is c.requires))

pub expr-word-requires-in-AtLeast : goal.expr-word-requires-in-AtLeast
expr-word-requires-in-AtLeast t c = omega (arith, least-few _ _ _ _ _ (roomy_at _ _ c.if-left-eq0.false c.node_at.ensures c.in-AtLeast.is c.requires))

pub expr-pairs-requires : goal.expr-pairs-requires
expr-pairs-requires t c = least-pairs _ _ _ _ _ _ _ _ _ (roomy_at _ _ c.if-left-eq0.false c.node_at.ensures c.in-AtLeast.is c.requires) c.turns-turned.ensures (least-stride _ _ _ _ _ _ _ _ _ c.if-n-eq0.false c.word-in-AtLeast.ensures c.turns-turned.ensures)

pub expr-returns-in-Not : goal.expr-returns-in-Not
expr-returns-in-Not t c = written_at _ _ c.if-left-eq0.false c.node_at.ensures c.in-Not.is (not_done _ _ _ _ _ _ _ _ _ _ c.open_not.ensures c.expr.ensures c.close_not.ensures)

pub expr-returns-in-And : goal.expr-returns-in-And
expr-returns-in-And t c = written_at _ _ c.if-left-eq0.false c.node_at.ensures c.in-And.is (and-done _ _ _ _ _ _ _ _ _ c.expr-in-And.ensures c.expr-in-And-2.ensures)

pub expr-returns-else-n-eq0 : goal.expr-returns-else-n-eq0
expr-returns-else-n-eq0 t c = written_at _ _ c.if-left-eq0.false c.node_at.ensures c.in-AtLeast.is (least-done _ _ _ _ _ _ _ _ _ _ _ c.turns-turned.ensures (least-stride _ _ _ _ _ _ _ _ _ c.if-n-eq0.false c.word-in-AtLeast.ensures c.turns-turned.ensures) c.pairs.ensures)

pub turns-turns-requires : goal.turns-turns-requires
turns-turns-requires t c = ((let e = c.decreases in let n = c.if-n-eq0.false in omega arith), turns-rest _ _ _ _ _ _ _ c.args.t c.args.self.next c.args.u _ _ c.if-n-eq0.false c.requires c.link-linked.ensures refl refl c.expr.ensures)

pub turns-returns : goal.turns-returns
turns-returns t c = turns-done _ _ _ _ _ _ _ _ _ _ _ _ _ c.if-n-eq0.false c.link-linked.ensures refl refl c.expr.ensures c.turns.ensures
