-- Lines, numbers of refusal and concepts of an answer are small, so that one number tells them. Assumes nothing.
use Rattle.std.specs.Prelude.{◌≡◌, refl, Bool, true, false, cond, List, [], ◌∷◌, ◌++◌, ℕ, ◌+◌, ◌≤◌, ◌<◌, length}
use Rattle.std.proofs.Common.{ap, subst, arith, length-append}
use Rattle.text.specs.Split.{fields}
use Rattle.store.specs.declared.Counts.{Counts}
use Rattle.store.specs.Cell.{Cell}
use Rattle.store.specs.Layout.{concept_limit}
use Rattle.rule.specs.declared.Node.{Node}
use Rattle.rule.specs.declared.Node.TheVariants as node
use Rattle.rule.specs.declared.Rule.{Rule}
use Rattle.rule.specs.Expr.{Expr, build, expr_at}
use Rattle.rule.specs.Expr.Expr.{name}
use Rattle.rule.specs.Form.{HeadFits, NodeWithin, node_at}
use Rattle.reason.specs.Part.{Part}
use Rattle.reason.specs.Part.Part.{none as none_part, keep, leave}
use Rattle.field.specs.declared.Due.TheVariants as due
use Rattle.field.specs.declared.Form.{Form}
use Rattle.field.specs.declared.Form.TheVariants as form
use Rattle.sheet.specs.Reading.{refused_as}
use Rattle.field.specs.Due.{none}
use Rattle.line.specs.Fault.{line_fault}
use Rattle.field.specs.Names.{counts_of}
use Rattle.sheet.specs.Promise.{Reads}
use Rattle.sheet.specs.Promise.Reads.{wrong_size, refused as refused_read}
use Rattle.field.specs.Words.{at, Field, body_of, form_of}
use Rattle.saying.specs.Read.{rule_of}
use Rattle.sheet.specs.Said.{Said, SheetRule, SheetStatement, line_said, marks_of, nothing, outcome, outcome_from, saying}
use Rattle.sheet.specs.Said.Outcome.{accepted}
use Rattle.line.proofs.laws.Accepted.{Accepted, line-accepted}
use Rattle.field.specs.laws.Right.{concept-new, right-first}
use Rattle.saying.proofs.laws.Judged.{Good, rule-good}
use Rattle.sheet.specs.laws.Pass.{accepted-start, accepted-step, said_of}
use Rattle.sheet.specs.laws.Refused.{refused-small}
use Rattle.why.specs.Explained.{Explained}
use Rattle.finding.specs.Explained.{FindingExplained}
use Rattle.finding.specs.Finding.{BrokenSub, ExplainsFinding, SubOfNames, concept}
use Rattle.finding.specs.Finding.ExplainsFinding.{refused as refused_finding, not-broken, found as found_finding}
use Rattle.why.specs.Promise.{Explains}
use Rattle.why.specs.Promise.Explains.{refused as refused_cell, not-true, found}
use Rattle.why.specs.Reason.{Reason}
use Rattle.why.specs.laws.Few.{statements-few}
use Rattle.signed.specs.Codes.{SmallExplained, SmallFinding}

-- ---- the lines of a reason

-- a part is not longer than the list
part-few : {A : Type 0} {ps xs : List A} → Part ps xs → length ps ≤ length xs
part-few none_part = omega arith
part-few (keep p) = omega (arith, part-few p)
part-few (leave p) = omega (arith, part-few p)

-- a reason has at most 6,592 lines
pub lines-few : (W : ℕ) (sheet : List ℕ) (x : Said) {n : Counts} {c : Cell} {lines : List SheetStatement} → outcome W sheet ≡ accepted x → Reason n c x.statements lines → length lines ≤ 6592
lines-few W sheet x o r = omega (arith, part-few r.part, statements-few W sheet x o)

-- ---- the line and the number of a refusal

-- a refusal has a line below a million and a number below a hundred, that of the store too
pub reads-small : {sheet s t : List ℕ} {n j : ℕ} → Reads sheet s t (refused_as n j) → (n < 1000000) × (j < 100)
reads-small {sheet} (wrong_size z e) = (omega arith, omega arith)
reads-small {sheet} (refused_read l o h) = let z = refused-small _ sheet o in (omega arith, z.1)

-- ---- the concepts of a rule

-- a rule whose numbers are below some counts, of 32 concepts at most
record Fine (u : Rule) : Type 0 where
  pub counts : Counts
  pub few : counts.concepts ≤ concept_limit
  pub good : Good counts u

-- all the rules are fine
abbrev AllFine : List SheetRule → Type 0
AllFine [] = Unit {0}
AllFine (r ∷ rs) = Fine r.rule × AllFine rs

-- one rule more
fine-last : (rs : List SheetRule) (r : SheetRule) → AllFine rs → Fine r.rule → AllFine (rs ++ r ∷ [])
fine-last [] r a f = (f, tt)
fine-last (q ∷ rs) r a f = (a.0, fine-last rs r a.1 f)

-- each of them
fine-at : (before : List SheetRule) (r : SheetRule) (after : List SheetRule) → AllFine (before ++ r ∷ after) → Fine r.rule
fine-at [] r after a = a.0
fine-at (q ∷ before) r after a = fine-at before r after a.1

-- what the lines so far said: 32 concepts at most, and fine rules
record Sound (s : Said) : Type 0 where
  pub few : length s.names.concepts ≤ concept_limit
  pub rules : AllFine s.rules

-- so it is after the fields of a line without a fault
saying-sound : (k : ℕ) (s : Said) (f : Form) (fs : List Field) → Accepted s.names (marks_of s) f fs → Sound s → Sound (saying k s f fs)
saying-sound k s form.Concept fs a h =
    let z = concept-new s.names (at 0 fs) (right-first s.names due.NewConcept [] fs refl a.right).0 in
    record { few = omega (arith, z.few, length-append s.names.concepts (at 0 fs ∷ [])); rules = h.rules }
saying-sound k s form.Role fs a h = record { few = h.few; rules = h.rules }
saying-sound k s form.Item fs a h = record { few = h.few; rules = h.rules }
saying-sound k s (form.Statement w) fs a h = record { few = h.few; rules = h.rules }
saying-sound k s (form.Rule w) fs a h =
    record { few = h.few; rules = fine-last s.rules (record { line = k; rule = rule_of s.names w fs }) h.rules (record { counts = counts_of s.names; few = h.few; good = rule-good s.names w fs a.right a.nodes }) }
saying-sound k s form.Bare fs a h = h
saying-sound k s form.Unknown fs a h = h

-- after such a line
line-sound : (k : ℕ) (s : Said) (l : List ℕ) → line_fault s.names (marks_of s) l ≡ 0 → Sound s → Sound (line_said k s l)
unfolding line_said
line-sound k s l e h = go (none l) refl
  where
    go : (t : Bool) → none l ≡ t → Sound (cond t s (saying k s (form_of (fields l)) (body_of (fields l))))
    go true q = h
    go false q = saying-sound k s (form_of (fields l)) (body_of (fields l)) (line-accepted s.names (marks_of s) l q e).1 h

-- and after all lines
from-sound : (k : ℕ) (s x : Said) (ls : List (List ℕ)) → outcome_from k s ls ≡ accepted x → Sound s → Sound x
unfolding outcome_from
from-sound k s x [] e h = subst Sound (ap said_of e) h
from-sound k s x (l ∷ ls) e h = let z = accepted-step k s x l ls e in from-sound (k + 1) (line_said k s l) x ls z.1 (line-sound k s l z.0 h)

-- so it is with an accepted sheet
sheet-sound : (W : ℕ) (sheet : List ℕ) (x : Said) → outcome W sheet ≡ accepted x → Sound x
sheet-sound W sheet x o = let a = accepted-start W sheet x o in from-sound 2 (nothing a.0) x _ a.2 (record { few = omega arith; rules = tt })

-- a node that is a name has a number below the count
name-within : (n : Counts) (f : ℕ → Expr) (v : Node) (d : ℕ) → NodeWithin n v → build f v ≡ name (concept d) → d < n.concepts
name-within n f (node.Name c) d w e = let z : c.0 ≡ d = cc in omega (arith, w)
name-within n f node.Top d w e = let z : ◌≡◌ {A = ℕ} 0 1 = cc in absurd (omega arith)
name-within n f (node.Not a) d w e = let z : ◌≡◌ {A = ℕ} 0 1 = cc in absurd (omega arith)
name-within n f (node.And a b) d w e = let z : ◌≡◌ {A = ℕ} 0 1 = cc in absurd (omega arith)
name-within n f (node.AtLeast k u a) d w e = let z : ◌≡◌ {A = ℕ} 0 1 = cc in absurd (omega arith)
name-within n f (node.SelfOf u) d w e = let z : ◌≡◌ {A = ℕ} 0 1 = cc in absurd (omega arith)
name-within n f (node.One a) d w e = let z : ◌≡◌ {A = ℕ} 0 1 = cc in absurd (omega arith)

-- the right concept of a fine rule `sub`
sub_small : {u : Rule} {c d : ℕ} → Fine u → SubOfNames u c d → d < concept_limit
unfolding expr_at
sub_small {u} {c} {d} f s =
    let h : HeadFits u.len u.head = f.good.form.head in
    let g = rw s.head at h in
    omega (arith, f.few, name-within f.counts _ (node_at u.nodes s.right) d (f.good.within.nodes s.right g.1) s.second)

-- the concept of a finding is below 32
pub concept-small : (W : ℕ) (sheet : List ℕ) {x : Said} {n : Counts} {t : List ℕ} {k a c d : ℕ} → outcome W sheet ≡ accepted x → BrokenSub W n x t k a c d → d < concept_limit
concept-small W sheet {x} o b =
    let z = (sheet-sound W sheet x o).rules in
    let r = b.there in
    sub_small (fine-at r.before (record { line = r.line; rule = b.rule }) r.after (subst AllFine r.is z)) b.names

-- ---- the parts of an answer can be told from its number

-- for a cell
pub explained-small : {sheet s t : List ℕ} {c : Cell} {before after : List ℕ} {r : Explained} → Explains sheet s t c before after r → SmallExplained r
explained-small {sheet} (refused_cell a e) = reads-small a
explained-small {sheet} (not-true l o h g e) = (omega arith, omega arith)
explained-small {sheet} (found {x = x} l o h r e) = omega (arith, lines-few _ sheet x o r)

-- for a finding
pub finding-small : {sheet s t : List ℕ} {k a : ℕ} {before after : List ℕ} {r : FindingExplained} → ExplainsFinding sheet s t k a before after r → SmallFinding r
finding-small {sheet} (refused_finding a e) = reads-small a
finding-small {sheet} (not-broken l o h g e) = (omega arith, omega arith)
finding-small {sheet} (found_finding {x = x} l o h b r e) = (omega (arith, lines-few _ sheet x o r), concept-small _ sheet o b)
