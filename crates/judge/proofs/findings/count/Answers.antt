-- `judge::findings::count` meets its contract, by whether the rule is broken by pairs. Assumes nothing.
use Rattle.std.proofs.Common.{sym, ◌∙◌}
use Rattle.store.specs.own.View.{held}
use Rattle.judge.specs.laws.Cursor.{count-alone}
use Rattle.judge.proofs.findings.count.Goals as goal

pub returns : goal.returns
returns c = let n = c.args.view.now.counts in
    count-alone (held c.args.view.now) n c.args.plan (sym c.is_pair.ensures ∙ c.if-is_pair.false) c.alone_row.ensures c.ones.ensures.0

pub count_rows-requires : goal.count_rows-requires
count_rows-requires c = sym c.is_pair.ensures ∙ c.if-is_pair.true
