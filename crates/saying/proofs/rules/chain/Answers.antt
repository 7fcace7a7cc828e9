-- `saying::rules::chain` meets its contract. Assumes nothing.
use Rattle.std.proofs.Common.{arith, ◌≡◌, ◌+◌, ◌-◌, drop, length}
use Rattle.field.specs.own.Known.{fields_in, names_in}
use Rattle.stated.specs.laws.Fields.{rest-count}
use Rattle.saying.specs.laws.Rules.{chain_head, chain-some}
use Rattle.saying.proofs.rules.chain.Goals as goal

pub overflow_sub-k : goal.overflow_sub-k
overflow_sub-k c = omega (arith, rest-count c.args.from c.args.fields.now.looked c.saturating_sub-k.ensures, chain-some _ c.requires.1)

pub returns : goal.returns
returns c = let x = c.args in
    let some : c.saturating_sub-k.result - 1 + 1 ≡ length (drop x.from (fields_in x.fields.now)) = omega (arith, rest-count x.from x.fields.now.looked c.saturating_sub-k.ensures, chain-some _ c.requires.1) in
    chain_head (names_in x.known.now) (fields_in x.fields.now) x.from _ _ _ _ _ _ some c.role_use-a.ensures c.role_use-b.ensures c.role_use-c.ensures c.role_use-d.ensures c.role_use-e.ensures
