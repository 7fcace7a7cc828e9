-- `quick::stated` meets its contract. Assumes nothing.
use Rattle.std.proofs.Common.{sym, ◌∙◌}
use Rattle.quick.specs.laws.Quick.{finds-same, stated-word}
use Rattle.quick.proofs.stated.Goals as goal

pub returns-in-Statement : goal.returns-in-Statement
returns-in-Statement c = let e = sym c.form.ensures ∙ c.in-Statement.is in
    finds-same _ (λ z d. record { word = _; form = e; early = c.if-m-ne0.false; named = d }) (λ z d. stated-word e d) c.named.ensures
