-- Laws of queries of rules as words: the answers are small, and any two results allowed are equal. Assumes nothing.
use Rattle.std.specs.Prelude.{◌≡◌, List, ℕ, ◌≤◌, ℤ}
use Rattle.std.proofs.Common.{sym, ap, ◌∙◌, subst, arith}
use Rattle.store.specs.declared.Counts.{Counts}
use Rattle.store.specs.Layout.{large}
use Rattle.rule.specs.declared.Head.{Head}
use Rattle.rule.specs.declared.Head.TheVariants.{Sub, RoleSub, Chain, Ref, Irr, Dis, In, Rel, NoRel, Same, Differ}
use Rattle.rule.specs.declared.Rule.{Rule}
use Rattle.query.specs.Outcome.{Outcome}
use Rattle.query.specs.declared.Compiled.{Compiled}
use Rattle.std.specs.Prelude.{Ok}
use Rattle.body.specs.Translation.{answers_of}
use Rattle.body.specs.Length.{item_limit}
use Rattle.query.specs.Promise.{Compiles}
use Rattle.query.specs.Promise.Compiles.{refused, compiled}
use Rattle.query.specs.laws.Promise.{compiles-unique}
use Rattle.coded.specs.Promise.{CompileCode, outcome_code}
use Rattle.coded.specs.own.Writing.{SmallOutcome}

-- a query has two answer variables at most
few-answers : (h : Head) → answers_of h ≤ 2
few-answers (Sub c d) = omega arith
few-answers (RoleSub r s) = omega arith
few-answers (Chain k r1 r2 r3 r4 r) = omega arith
few-answers (Ref r) = omega arith
few-answers (Irr r) = omega arith
few-answers (Dis r s) = omega arith
few-answers (In c a) = omega arith
few-answers (Rel r a b) = omega arith
few-answers (NoRel r a b) = omega arith
few-answers (Same a b) = omega arith
few-answers (Differ a b) = omega arith

-- an answer of compiling is small
pub small-outcome : {n : Counts} {u : Rule} {before after : List ℕ} {r : Outcome} → Compiles large n u before after r → SmallOutcome r
small-outcome (refused l e) = tt
small-outcome {u = u} (compiled d e) = (d.short, few-answers u.head)

-- the parts of a small answer
pub small-parts : {r : Outcome} {q : Compiled} → SmallOutcome r → r ≡ Ok q → (q.items ≤ item_limit) × (q.answers ≤ 2)
small-parts s e = subst SmallOutcome e s

-- the promise allows one result
pub compile-unique : {n : Counts} {g before after after' : List ℕ} {r r' : ℤ} → CompileCode n g before after r → CompileCode n g before after' r' → (after ≡ after') × (r ≡ r')
compile-unique x y = let e = compiles-unique x.compiles y.compiles in (e.1, x.code ∙ ap outcome_code e.0 ∙ sym y.code)
