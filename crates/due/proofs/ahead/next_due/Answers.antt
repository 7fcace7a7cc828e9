-- `due::ahead::next_due` meets its contract. Assumes nothing.
use Rattle.std.proofs.Common.{◌≡◌, refl, sym, ◌∙◌, Option, Some, None, List, ℕ, length, get_or, Bor, arith}
use Rattle.std.specs.Prelude.{IfSome, is_some, nat_lt, slice_get}
use Rattle.std.proofs.lemmas.Option.{slice_get_past, slice_get_read}
use Rattle.std.specs.Option.{option_copied}
use Rattle.std.proofs.lemmas.Bool.{ltb-false, ltb-true}
use Rattle.field.specs.declared.Due.{Due}
use Rattle.due.specs.laws.Due.{next-own}
use Rattle.due.proofs.ahead.next_due.Goals as goal

-- what is copied out of a slice is what stands there
copied : (ds : List Due) (k : ℕ) (r : Option (Bor Due)) → is_some r ≡ nat_lt k (length ds) → IfSome r (λ x. x.now ≡ get_or ds k x.now) → option_copied r ≡ slice_get ds k
copied ds k None s i = sym (slice_get_past ds k (ltb-false k (length ds) (sym s)))
copied ds k (Some x) s i = sym (slice_get_read ds (length ds) k x.now refl (ltb-true k (length ds) (sym s)) i)

pub returns-else-p-gt0 : goal.returns-else-p-gt0
returns-else-p-gt0 c = let x = c.args in
    c.copied.ensures ∙ copied x.l.now x.p.own c.get.result c.get.ensures.lookup.0 c.get.ensures.lookup.1 ∙ next-own x.l.now x.p c.in-None.is c.if-p-gt0.false
