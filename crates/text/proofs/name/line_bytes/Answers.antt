-- `text::name::line_bytes` meets its contract. Assumes nothing.
use Rattle.std.proofs.Common.{rules, tests, sym, ◌∙◌}
use Rattle.std.proofs.lemmas.Iterator.{YieldsList-from_slice}
use Rattle.std.proofs.lemmas.Iterator.Search.{all_from_yields_List}
use Rattle.text.specs.Name.{line_byte}
use Rattle.text.specs.laws.Bytes.{every_all}
use Rattle.text.proofs.name.line_bytes.Goals as goal

pub returns : goal.returns
returns c = all_from_yields_List line_byte _ _ _ c.all.ensures.ran (YieldsList-from_slice c.args.s.now cc) (λ x b q k. search (rules, tests)) ∙ sym (every_all line_byte c.args.s.now)
