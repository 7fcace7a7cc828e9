-- The examples hold. Assumes nothing.
use Rattle.examples.specs.Examples.{Examples}
use Rattle.examples.specs.laws.Store.{same-itself, same-two}
use Rattle.std.specs.Prelude.{refl, ℕ}
use Rattle.text.specs.laws.Dates.{dates}
use Rattle.examples.specs.laws.Queries.{five-items, five-items-room}
use Rattle.examples.specs.laws.Rules.{ref-none, ref-one, two-articles, one-article}

-- all of them, in stores of either size
pub examples : (W : ℕ) → Examples W
examples W = record {
  own-inverse = λ k x y. k.closed.obeys.link-inverse y x;
  inverse-twice = λ k x y. k.closed.obeys.role-trans x y;
  same-itself = same-itself;
  same-two = same-two;
  ref-none = ref-none;
  ref-one = ref-one;
  two-articles = two-articles;
  one-article = one-article;
  five-items = λ b l c. five-items b l c;
  five-items-room = λ b l c. five-items-room b l c;
  seven-items = λ r d t v. refl;
  fifteen-items = λ r d t v. refl;
  dates = (dates.0, dates.1);
  no-dates = (dates.2, dates.3, dates.4, dates.5);
}
