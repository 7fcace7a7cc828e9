-- The rules of an accepted sheet mean what its rule lines mean. Assumes nothing.
use Rattle.std.specs.Prelude.{◌≡◌, refl, Bool, true, false, cond, List, [], ◌∷◌, ◌++◌, ℕ, ◌+◌, eqb, leb, drop, length}
use Rattle.std.proofs.Common.{sym, ap, ◌∙◌, append_assoc, append-nil}
use Rattle.std.proofs.lemmas.List.{map-append}
use Rattle.text.specs.Split.{fields, lines}
use Rattle.field.specs.declared.Form.{Form}
use Rattle.field.specs.declared.Form.TheVariants as form
use Rattle.field.specs.declared.RuleWord.{RuleWord}
use Rattle.field.specs.Words.{body_of, form_of}
use Rattle.field.specs.Due.{none}
use Rattle.line.specs.Fault.{begun, header_fault, line_fault, room_by, sheet_limit}
use Rattle.line.proofs.laws.Accepted.{line-accepted}
use Rattle.saying.specs.Read.{rule_of}
use Rattle.saying.specs.Meant.{Meant, meaning_of, meant_by}
use Rattle.saying.proofs.laws.Meant.{rule-meant}
use Rattle.sheet.specs.Meant.{line_means, lines_mean, meanings}
use Rattle.sheet.specs.Said.{Outcome, Said, line_said, marks_of, nothing, outcome, outcome_from, outcome_of, saying}
use Rattle.sheet.specs.Said.Outcome.{accepted, refused}
use Rattle.line.specs.laws.Some.{rule-some}
use Rattle.sheet.specs.laws.Pass.{accepted-step, not-both, rule-said, said_of}
use Rattle.sheet.specs.laws.Settled.{rule-begun, sheet-settled}

-- the rules that a line of another form leaves
other-rules : (k : ℕ) (s : Said) (l : List ℕ) (f : Form) → form_of (fields l) ≡ f → (saying k s f (body_of (fields l))).rules ≡ s.rules → (line_said k s l).rules ≡ s.rules
unfolding line_said
other-rules k s l f e h = rw e (go (none l))
  where
    go : (t : Bool) → (cond t s (saying k s f (body_of (fields l)))).rules ≡ s.rules
    go true = refl
    go false = h

-- one line without a fault, after which the names are those of x if something has begun
module _ (k : ℕ) (x s : Said) (l : List ℕ) (right : line_fault s.names (marks_of s) l ≡ 0) (settled : begun (marks_of (line_said k s l)) ≡ true → x.names ≡ (line_said k s l).names) where
  -- a rule line
  rule-means : (w : RuleWord) → form_of (fields l) ≡ form.Rule w → meanings (line_said k s l).rules ≡ meanings s.rules ++ line_means x.names k (form.Rule w) (body_of (fields l))
  rule-means w e =
      let body = body_of (fields l) in
      let said = rule-said k s l w e in
      let a = rw e at (line-accepted s.names (marks_of s) l (rule-some l w e) right).1 in
      let same : x.names ≡ s.names = settled (rw said (rule-begun k s w body)) ∙ rw said in
      let m : meaning_of (rule_of s.names w body) ≡ meant_by x.names w body = rule-meant s.names w body a.right.fit a.nodes ∙ rw same in
      rw said (map-append _ s.rules _ ∙ ap (λ (q : Meant). meanings s.rules ++ record { line = k; meant = q } ∷ []) m)

  other-means : (f : Form) → form_of (fields l) ≡ f → (saying k s f (body_of (fields l))).rules ≡ s.rules → meanings (line_said k s l).rules ≡ meanings s.rules ++ []
  other-means f e h = ap meanings (other-rules k s l f e h) ∙ sym (append-nil (meanings s.rules))

  line-means : (f : Form) → form_of (fields l) ≡ f → meanings (line_said k s l).rules ≡ meanings s.rules ++ line_means x.names k f (body_of (fields l))
  line-means form.Concept e = other-means form.Concept e refl
  line-means form.Role e = other-means form.Role e refl
  line-means form.Item e = other-means form.Item e refl
  line-means (form.Statement w) e = other-means (form.Statement w) e refl
  line-means (form.Rule w) e = rule-means w e
  line-means form.Bare e = other-means form.Bare e refl
  line-means form.Unknown e = other-means form.Unknown e refl

-- the lines to the end
from-means : (k : ℕ) (s x : Said) (ls : List (List ℕ)) → outcome_from k s ls ≡ accepted x → meanings x.rules ≡ meanings s.rules ++ lines_mean x.names k ls
unfolding outcome_from lines_mean
from-means k s x [] e = ap (λ (o : Outcome). meanings (said_of o).rules) (sym e) ∙ sym (append-nil (meanings s.rules))
from-means k s x (l ∷ ls) e =
    let z = accepted-step k s x l ls e in
    let a = line-means k x s l z.0 (λ b. sheet-settled (k + 1) (line_said k s l) x ls b z.1) (form_of (fields l)) refl in
    from-means (k + 1) (line_said k s l) x ls z.1 ∙ rw (a, append_assoc)

-- the rules of an accepted sheet are those of its rule lines, in their order, with their numbers; line 1 is the header
pub sheet-meant : (W : ℕ) (sheet : List ℕ) (x : Said) → outcome W sheet ≡ accepted x → meanings x.rules ≡ lines_mean x.names 2 (drop 1 (lines sheet))
unfolding outcome
sheet-meant W sheet x e = go (leb (length sheet) sheet_limit) (lines sheet) e
  where
    after : (t : Bool) (l : List ℕ) (ls : List (List ℕ)) → cond t (outcome_from 2 (nothing (room_by l)) ls) (refused 1 (header_fault W l) (nothing 0)) ≡ accepted x → meanings x.rules ≡ lines_mean x.names 2 ls
    after true l ls h = from-means 2 (nothing (room_by l)) x ls h
    after false l ls h = absurd (not-both h)

    go : (t : Bool) (ls : List (List ℕ)) → cond t (outcome_of W ls) (refused 0 9 (nothing 0)) ≡ accepted x → meanings x.rules ≡ lines_mean x.names 2 (drop 1 ls)
    go true [] h = absurd (not-both h)
    go true (l ∷ ls) h = after (eqb (header_fault W l) 0) l ls h
    go false ls h = absurd (not-both h)
