-- `compile::fill` meets its contract: the arms of two expressions, of a chain and of an expression of an item have laws of their own. Assumes nothing.
use Rattle.query.specs.laws.Filled.{spacious-as, filled-as, sub-left, sub_open, sub-right, sub-close, sub-filled, chain-rest, chain-filled, in_inner, in-close, in-filled}
use Rattle.query.proofs.compile.fill.Goals as goal

pub expr-requires : goal.expr-requires
expr-requires c = sub-left _ _ _ _ _ c.start.ensures (spacious-as _ _ _ _ c.in-Sub.is c.requires)

pub open_not-requires : goal.open_not-requires
open_not-requires c = sub_open _ _ _ _ _ _ _ c.start.ensures (spacious-as _ _ _ _ c.in-Sub.is c.requires) c.expr.ensures

pub expr-requires-in-Sub : goal.expr-requires-in-Sub
expr-requires-in-Sub c = sub-right _ _ _ _ _ _ _ _ _ c.start.ensures (spacious-as _ _ _ _ c.in-Sub.is c.requires) c.expr.ensures c.open_not.ensures

pub close_not-requires : goal.close_not-requires
close_not-requires c = sub-close _ _ _ _ _ _ _ _ _ _ _ c.start.ensures (spacious-as _ _ _ _ c.in-Sub.is c.requires) c.expr.ensures c.open_not.ensures c.expr-in-Sub.ensures

pub unlinked-requires-in-Chain : goal.unlinked-requires-in-Chain
unlinked-requires-in-Chain c = chain-rest _ _ _ _ _ _ _ _ _ _ _ c.start-in-Chain.ensures (spacious-as _ _ _ _ c.in-Chain.is c.requires) c.path.ensures

pub expr-requires-in-In : goal.expr-requires-in-In
expr-requires-in-In c = in_inner _ _ _ _ _ _ _ c.start-in-In.ensures (spacious-as _ _ _ _ c.in-In.is c.requires) c.open_not-in-In.ensures

pub close_not-requires-in-In : goal.close_not-requires-in-In
close_not-requires-in-In c = in-close _ _ _ _ _ _ _ _ _ _ c.start-in-In.ensures (spacious-as _ _ _ _ c.in-In.is c.requires) c.open_not-in-In.ensures c.expr-in-In.ensures

pub returns-in-Sub : goal.returns-in-Sub
returns-in-Sub c = filled-as _ _ _ _ _ c.in-Sub.is (sub-filled _ _ _ _ _ _ _ _ _ _ _ _ _ c.start.ensures c.expr.ensures c.open_not.ensures c.expr-in-Sub.ensures c.close_not.ensures)

pub returns-in-Chain : goal.returns-in-Chain
returns-in-Chain c = filled-as _ _ _ _ _ c.in-Chain.is (chain-filled _ _ _ _ _ _ _ _ _ _ _ _ _ c.start-in-Chain.ensures c.path.ensures c.unlinked-in-Chain.ensures)

pub returns-in-In : goal.returns-in-In
returns-in-In c = filled-as _ _ _ _ _ c.in-In.is (in-filled _ _ _ _ _ _ _ _ _ _ _ _ c.start-in-In.ensures c.term.ensures c.open_not-in-In.ensures c.expr-in-In.ensures c.close_not-in-In.ensures)
