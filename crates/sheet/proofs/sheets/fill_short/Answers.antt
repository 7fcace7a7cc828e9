-- `sheet::sheets::fill_short` meets its contract. Assumes nothing.
use Rattle.std.proofs.Common.{sym, ◌∙◌}
use Rattle.sheet.specs.laws.Sheets.{opens-end, opens-not, read-whole}
use Rattle.sheet.proofs.sheets.fill_short.Goals as goal

pub returns-then-is_ok : goal.returns-then-is_ok
returns-then-is_ok c = λ s. opens-end _ _ s _ _ _ c.read_all-r.ensures (read-whole _ (sym c.is_ok.ensures.value ∙ c.if-is_ok.true)) _ c.begin.ensures

pub returns-else-is_ok : goal.returns-else-is_ok
returns-else-is_ok c = λ s. opens-not _ _ s _ _ _ c.read_all-r.ensures (sym c.is_ok.ensures.value ∙ c.if-is_ok.false)
