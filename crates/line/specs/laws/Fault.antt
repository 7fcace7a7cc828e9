-- Laws of what is wrong with a line. Assumes nothing.
use Rattle.std.specs.Prelude.{◌≡◌, refl, Bool, true, false, not, List, [], ◌∷◌, ℕ, ◌-◌, ◌≤◌, ◌<◌, ltb, length, drop}
use Rattle.std.proofs.Common.{sym, ap, ◌∙◌, true≢false, arith, length-drop, lt-ltb, le-ltb}
use Rattle.text.specs.Bytes.{every}
use Rattle.text.specs.Name.{line_byte}
use Rattle.text.specs.Split.{fields}
use Rattle.rule.specs.Form.{node_limit}
use Rattle.field.specs.declared.Due.TheVariants as due
use Rattle.field.specs.declared.Form.{Form}
use Rattle.field.specs.declared.Due.{Due}
use Rattle.line.specs.declared.Marks.{Marks}
use Rattle.line.specs.declared.Walked.{Walked}
use Rattle.field.specs.Due.{lineup_of, none}
use Rattle.line.specs.Fault.{ended, fields_fault, form_fault, full, line_fault, line_limit, unknown}
use Rattle.field.specs.Names.{Names, fault, field_fault, lower_fault}
use Rattle.field.specs.own.Line.{words_of}
use Rattle.field.specs.own.Table.{Listed, Placed, concept_name}
use Rattle.field.specs.laws.Names.{concept-name, old-at}
use Rattle.field.specs.laws.Right.{concept-name-good, listed-good}
use Rattle.field.specs.laws.Words.{body-words}
use Rattle.line.specs.own.Number.{found}
use Rattle.line.specs.own.Walk.{WalkedBy}
use Rattle.field.specs.Words.{Field, body_of, form_of, section_of}

-- ---- a name that was found

module _ {f : Field} {names : List Field} {n k : ℕ} (p : Placed f names n k) (h : k < n) where
  -- it is as good as all that are declared
  pub found-good : {good : Field → Bool} → Listed good names → good f ≡ true
  found-good l = listed-good _ names f l (omega (arith, p.place, p.count))

pub concept-found : (n : Names) {f : Field} {c k : ℕ} → Listed concept_name n.concepts → Placed f n.concepts c k → k < c → 0 ≡ field_fault n due.Concept f
concept-found n {f} {c} {k} l p h =
    let g = concept-name-good f (found-good p h l) in
    rw (g.0, lt-ltb k c h) at (old-at f n.concepts c k p) ∙ concept-name n f g.1

-- ---- a line by itself

none-empty : (l : List ℕ) → length l ≡ 0 → none l ≡ true
none-empty [] h = refl
none-empty (b ∷ l) h = absurd (omega arith)

none-some : (l : List ℕ) → (length l ≡ 0 → ⊥) → none l ≡ false
none-some [] h = absurd (h refl)
none-some (b ∷ l) h = refl

module _ (n : Names) (m : Marks) (l : List ℕ) where
  pub line-empty : length l ≡ 0 → 0 ≡ line_fault n m l
  unfolding line_fault
  line-empty h = rw (none-empty l h)

  module _ (h : length l ≡ 0 → ⊥) where
    pub line-long : line_limit < length l → 10 ≡ line_fault n m l
    unfolding line_fault
    line-long g = rw (none-some l h, lt-ltb line_limit (length l) g)

    module _ (g : length l ≤ line_limit) where
      pub line-bytes : not (every line_byte l) ≡ true → 10 ≡ line_fault n m l
      unfolding line_fault
      line-bytes e = rw (none-some l h, le-ltb line_limit (length l) g, e)

      pub line-form : not (every line_byte l) ≡ false → form_fault n m (form_of (fields l)) (body_of (fields l)) ≡ line_fault n m l
      unfolding line_fault
      line-form e = rw (none-some l h, le-ltb line_limit (length l) g, e)

-- ---- by its form

-- the fields after the words of a known form
pub known-body : (fs : List Field) → unknown (section_of (form_of fs)) ≡ false → drop (words_of (form_of fs)) fs ≡ body_of fs
known-body fs e = body-words fs (λ q. true≢false (ap unknown (ap section_of (sym q)) ∙ e))

module _ (n : Names) (m : Marks) (f : Form) (body : List Field) where
  pub form-unknown : unknown (section_of f) ≡ true → 12 ≡ form_fault n m f body
  unfolding form_fault
  form-unknown e = rw e

  pub form-ended : unknown (section_of f) ≡ false → ended m (section_of f) ≡ true → 13 ≡ form_fault n m f body
  unfolding form_fault
  form-ended e g = rw (e, g)

  pub form-fields : unknown (section_of f) ≡ false → ended m (section_of f) ≡ false → fields_fault n m f body ≡ form_fault n m f body
  unfolding form_fault
  form-fields e g = rw (e, g)

-- what the walk along the fields after its words came to, of so many fields
module _ (n : Names) (m : Marks) (f : Form) (fs : List Field) (count from k : ℕ) (l : List Due) (w : Walked) (all : count ≡ length fs) (words : from ≡ words_of f) (after : k ≡ count - from)
    (lined : l ≡ lineup_of f k) (walked : WalkedBy n l (drop from fs) w) where
  abbrev body : List Field
  body = drop (words_of f) fs

  along : WalkedBy n (lineup_of f (length body)) body w
  along = let z : k ≡ length body = after ∙ rw (all, words) (sym (length-drop (words_of f) fs)) in rw (lined, z, words) at walked

  pub fields-wrong : not w.fits ≡ true → 14 ≡ fields_fault n m f body
  unfolding fields_fault
  fields-wrong e = rw (← along.fit, e)

  pub fields-right : not w.fits ≡ false → lower_fault (found w.fault) (fault (full m (section_of f)) 18 (fault (ltb node_limit w.nodes) 21 0)) ≡ fields_fault n m f body
  unfolding fields_fault
  fields-right e = rw (← along.fit, e, ← along.fault, ← along.nodes)
