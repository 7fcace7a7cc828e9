-- `sheet::taking::take` meets its contract. Assumes nothing.
use Rattle.std.proofs.Common.{◌≡◌, length, rules}
use Rattle.sheet.specs.laws.Taken.{said-empty, some-line}
use Rattle.sheet.proofs.taking.take.Goals as goal

pub returns-then-is_empty : goal.returns-then-is_empty
returns-then-is_empty c = let e : length c.args.fields.now.line.now ≡ 0 = search rules in λ sheet tk k x st. rw (said-empty k x _ e) st

pub take_form-requires : goal.take_form-requires
take_form-requires c = (c.requires.0, some-line c.args.fields.now.line.now (search rules), c.requires.1)
