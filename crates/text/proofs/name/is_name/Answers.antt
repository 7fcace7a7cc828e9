-- `text::name::is_name` meets its contract. Assumes nothing.
use Rattle.std.proofs.Common.{rules, tests, sym, ◌∙◌, ◌≡◌}
use Rattle.std.proofs.lemmas.Iterator.{YieldsList-from_slice}
use Rattle.std.proofs.lemmas.Iterator.Search.{all_from_yields_List}
use Rattle.text.specs.Bytes.{every}
use Rattle.text.specs.Name.{is_name, name_byte}
use Rattle.text.specs.laws.Bytes.{every_all}
use Rattle.text.proofs.name.is_name.Goals as goal

pub returns-then-contains : goal.returns-then-contains
unfolding is_name
returns-then-contains c =
    let e : c.all.result ≡ every name_byte c.args.s.now = all_from_yields_List name_byte _ _ _ c.all.ensures.ran (YieldsList-from_slice c.args.s.now cc) (λ x b q k. search (rules, tests)) ∙ sym (every_all name_byte c.args.s.now) in
    search rules
