-- `sheet::taking::read` meets its contract. Assumes nothing.
use Rattle.std.proofs.Common.{sym, ◌∙◌}
use Rattle.line.specs.laws.Number.{found-none, found-some}
use Rattle.sheet.specs.laws.Quick.{comes-looked, comes-other, comes-takes, plain-came, plain-within}
use Rattle.sheet.proofs.taking.read.Goals as goal

pub add-kept-requires : goal.add-kept-requires
add-kept-requires c = (record { sheet = c.args.sheet.now; numbers = c.args.names.now; said = c.requires.0.said; stands = c.requires.0.stands }, plain-within c.requires.0 _ c.in-Some.ensures, c.requires.1)

pub returns-in-Some : goal.returns-in-Some
returns-in-Some c = rw c.add-kept.ensures.0 (plain-came c.requires.0 _ c.in-Some.ensures c.add-kept.ensures.1)

pub invariant_of-take : goal.invariant_of-take
invariant_of-take c = record { looked = comes-looked c.requires.0 (sym c.line_fault-taken.ensures ∙ found-none _ (sym c.is_err.ensures.value ∙ c.if-is_err.false)) }

pub take-kept-requires : goal.take-kept-requires
take-kept-requires c = (comes-other c.requires.0 (sym c.line_fault-taken.ensures ∙ found-none _ (sym c.is_err.ensures.value ∙ c.if-is_err.false)) (λ z. c.in_default.ensures z), c.requires.1)

pub returns : goal.returns
returns c = record { why = c.line_fault-taken.ensures; taken = λ e. c.take-kept.ensures _ (comes-takes c.requires.0 (sym c.line_fault-taken.ensures ∙ found-none _ (sym c.is_err.ensures.value ∙ c.if-is_err.false))); left = λ q. absurd (q (found-none _ (sym c.is_err.ensures.value ∙ c.if-is_err.false))) }

pub returns-then-is_err : goal.returns-then-is_err
returns-then-is_err c = record { why = c.line_fault-taken.ensures; taken = λ e. absurd (found-some _ (sym c.is_err.ensures.value ∙ c.if-is_err.true) e); left = λ q k x st. st }
