-- `sheet::pass::first` meets its contract. Assumes nothing.
use Rattle.std.proofs.Common.{[], zero-le, arith}
use Rattle.text.specs.laws.Split.{end-le}
use Rattle.sheet.specs.laws.Pass.{accepted-start, passing-start}
use Rattle.sheet.proofs.pass.first.Goals as goal

pub overflow_add-end : goal.overflow_add-end
overflow_add-end c = omega (arith, c.end_of-end.ensures, end-le 10 c.args.known.now.sheet.now 0 zero-le, (accepted-start _ _ _ c.requires.ends).1)

pub next-requires : goal.next-requires
next-requires c = record { all = c.requires.said; before = []; passing = passing-start _ _ _ _ _ c.end_of-end.ensures c.requires.ends c.requires.names }

pub returns : goal.returns
returns c = record { rule = λ W x o n. c.next.ensures.rule x [] (passing-start W _ _ x _ c.end_of-end.ensures o n); inside = c.next.ensures.inside }
