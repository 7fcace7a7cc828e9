-- Laws of words and of what a line is. Assumes nothing.
use Rattle.std.specs.Prelude.{Option, Some, None}
use Rattle.std.specs.Prelude.{◌≡◌, refl, Bool, true, false, cond, List, [], ◌∷◌, ℕ, suc, ◌≤◌, ◌<◌, eqb, ltb, length, drop}
use Rattle.std.proofs.Common.{sym, ◌∙◌, ap, true≢false, zero-le, arith, le-leb}
use Rattle.std.proofs.Math.Dec.{leb-suc-suc}
use Rattle.text.specs.Bytes.{bytes, every, place, same}
use Rattle.text.specs.Split.{fields}
use Rattle.text.specs.laws.Split.{parts_all}
use Rattle.reader.specs.laws.Field.{fields-next}
use Rattle.field.specs.declared.Form.{Form}
use Rattle.field.specs.declared.Form.TheVariants as form
use Rattle.field.specs.declared.Operator.{Operator}
use Rattle.field.specs.declared.Operator.TheVariants as operator
use Rattle.field.specs.declared.RuleWord.TheVariants as rule
use Rattle.field.specs.declared.StatementWord.TheVariants as statement
use Rattle.field.specs.Names.{declared, reserved}
use Rattle.field.specs.Words.{Field, at, body_of, form_of, is_rule, line_form, line_words, meaning, operator_of, operator_words, rule_form, rule_words, spellings}
use Rattle.field.specs.own.Code.{code_of, is_word, number}
use Rattle.field.specs.own.Line.{words_of}
use Rattle.field.specs.laws.Code.{Bytes, NoneOf, code-tells, numbered, small, smalls, told, word-is, word_none}

-- k is none of the numbers up to j
pub beyond : {j k : ℕ} → j ≤ k → (k ≡ j → ⊥) → suc j ≤ k
beyond h n = omega arith

-- ---- words, by their numbers

-- the number of each word, with what it stands for
abbrev pub operator_codes : List (ℕ × Option Operator)
operator_codes =
    (23359073, Some operator.And) ∷ (94831, Some operator.Or) ∷ (24407918, Some operator.Not) ∷ (5996638067, Some operator.Some) ∷ (23882849, Some operator.All)
    ∷ (104835553486992481, Some operator.AtLeast) ∷ (409514116215905, Some operator.AtMost) ∷ (6013347187, Some operator.SelfOf) ∷ (23424623, Some operator.One)
    ∷ (24145780, Some operator.Top) ∷ (24407906, Some operator.Bot) ∷ []

abbrev pub line_codes : List (ℕ × Form)
line_codes =
    (104832272098553699, form.Concept) ∷ (5996572530, form.Role) ∷ (6130332777, form.Item) ∷ (93801, form.Statement statement.In)
    ∷ (23881074, form.Statement statement.Rel) ∷ (5996634483, form.Statement statement.Same) ∷ (1590838980213, form.Statement statement.Under)
    ∷ (407254778934642, form.Statement statement.RoleUnder) ∷ []

abbrev pub rule_codes : List (ℕ × Form)
rule_codes =
    (23229811, form.Rule rule.Sub) ∷ (5946831730, form.Rule rule.RoleSub) ∷ (1573726021731, form.Rule rule.Chain) ∷ (23487858, form.Rule rule.Ref)
    ∷ (24277609, form.Rule rule.Irr) ∷ (24340836, form.Rule rule.Dis) ∷ (93801, form.Rule rule.In) ∷ (23881074, form.Rule rule.Rel)
    ∷ (1565070094190, form.Rule rule.NoRel) ∷ (5996634483, form.Rule rule.Same) ∷ (407254811961700, form.Rule rule.Differ) ∷ []

operators-numbered : numbered operator_words ≡ operator_codes
unfolding number
operators-numbered = refl

operators-small : smalls operator_words ≡ true
unfolding small every
operators-small = refl

lines-numbered : numbered line_words ≡ line_codes
unfolding number
lines-numbered = refl

lines-small : smalls line_words ≡ true
unfolding small every
lines-small = refl

rules-numbered : numbered rule_words ≡ rule_codes
unfolding number
rules-numbered = refl

rules-small : smalls rule_words ≡ true
unfolding small every
rules-small = refl

-- the field f has the number k
module _ (f : Field) (k : ℕ) (b : Bytes f) (is : k ≡ code_of f) where
  pub operator-is : (j : ℕ) → k ≡ j → told None operator_codes j ≡ operator_of f
  unfolding operator_of
  operator-is = word-is None operator_words operator_codes operators-small operators-numbered f k b is

  pub operator-none : NoneOf operator_codes k → None ≡ operator_of f
  unfolding operator_of
  operator-none = word_none None operator_words operator_codes operators-small operators-numbered f k b is

  pub line-form-is : (j : ℕ) → k ≡ j → told form.Unknown line_codes j ≡ line_form f
  unfolding line_form
  line-form-is = word-is form.Unknown line_words line_codes lines-small lines-numbered f k b is

  pub line-form-none : NoneOf line_codes k → form.Unknown ≡ line_form f
  unfolding line_form
  line-form-none = word_none form.Unknown line_words line_codes lines-small lines-numbered f k b is

  pub rule-form-is : (j : ℕ) → k ≡ j → told form.Unknown rule_codes j ≡ rule_form f
  unfolding rule_form
  rule-form-is = word-is form.Unknown rule_words rule_codes rules-small rules-numbered f k b is

  pub rule-form-none : NoneOf rule_codes k → form.Unknown ≡ rule_form f
  unfolding rule_form
  rule-form-none = word_none form.Unknown rule_words rule_codes rules-small rules-numbered f k b is

  pub rule-is : eqb k 5996574066 ≡ is_rule f
  unfolding small number every
  rule-is = rw is (sym (code-tells f (bytes "rule") b refl))

-- ---- reserved words

abbrev all_words : List (Field × Option Operator) → Bool
all_words [] = true
all_words (p ∷ ps) = cond (is_word p.1) (all_words ps) false

-- a field is one of the words exactly if it stands for one
word-declared : (ps : List (Field × Option Operator)) (f : Field) → all_words ps ≡ true → is_word (meaning None ps f) ≡ declared f (spellings ps)
unfolding place
word-declared [] f e = refl
word-declared (p ∷ ps) f e = go (is_word p.1) refl (same f p.0) (word-declared ps f)
  where
    go : (y : Bool) → is_word p.1 ≡ y → (b : Bool) → (all_words ps ≡ true → is_word (meaning None ps f) ≡ declared f (spellings ps))
        → is_word (cond b p.1 (meaning None ps f)) ≡ ltb (cond b 0 (suc (place f (spellings ps)))) (suc (length (spellings ps)))
    go true q true more = q ∙ sym (le-leb 1 (suc (length (spellings ps))) (omega arith))
    go true q false more = more (rw q at e) ∙ sym (leb-suc-suc (suc (place f (spellings ps))) (length (spellings ps)))
    go false q b more = absurd (true≢false (sym (rw q at e)))

pub word-reserved : (f : Field) → is_word (operator_of f) ≡ reserved f
unfolding operator_of
word-reserved f = word-declared operator_words f refl

pub not-reserved : (f : Field) → None ≡ operator_of f → reserved f ≡ false
not-reserved f e = sym (word-reserved f) ∙ ap is_word (sym e)

-- ---- what a line is, and how many words it begins with

module _ (fs : List Field) where
  pub form-line : 0 < length fs → is_rule (at 0 fs) ≡ false → line_form (at 0 fs) ≡ form_of fs
  form-line = go fs
    where
      go : (gs : List Field) → 0 < length gs → is_rule (at 0 gs) ≡ false → line_form (at 0 gs) ≡ form_of gs
      go [] h e = absurd (omega arith)
      go (w ∷ []) h e = rw e
      go (w ∷ v ∷ gs) h e = rw e

  pub form-rule : 1 < length fs → is_rule (at 0 fs) ≡ true → rule_form (at 1 fs) ≡ form_of fs
  form-rule = go fs
    where
      go : (gs : List Field) → 1 < length gs → is_rule (at 0 gs) ≡ true → rule_form (at 1 gs) ≡ form_of gs
      go [] h e = absurd (omega arith)
      go (w ∷ []) h e = absurd (omega arith)
      go (w ∷ v ∷ gs) h e = rw e

  pub form-bare : 0 < length fs → length fs ≤ 1 → is_rule (at 0 fs) ≡ true → form.Bare ≡ form_of fs
  form-bare = go fs
    where
      go : (gs : List Field) → 0 < length gs → length gs ≤ 1 → is_rule (at 0 gs) ≡ true → form.Bare ≡ form_of gs
      go [] h g e = absurd (omega arith)
      go (w ∷ []) h g e = rw e
      go (w ∷ v ∷ gs) h g e = absurd (omega arith)

-- what all the words of a list stand for
abbrev All : {A : Type 0} → (A → Type 0) → List (Field × A) → Type 0
All P [] = Unit {0}
All P (p ∷ ps) = P p.1 × All P ps

meaning-all : {A : Type 0} (P : A → Type 0) (none : A) (ps : List (Field × A)) (f : Field) → All P ps → P none → P (meaning none ps f)
meaning-all P none [] f a n = n
meaning-all {A = A} P none (p ∷ ps) f a n = go (same f p.0) (meaning-all P none ps f a.1 n)
  where
    go : (b : Bool) → P (meaning none ps f) → P (cond b p.1 (meaning none ps f))
    go true more = a.0
    go false more = more

-- it begins with one word, and a rule with two
line-words : (w : Field) → words_of (line_form w) ≡ 1
unfolding line_form
line-words w = meaning-all (λ (f : Form). words_of f ≡ 1) form.Unknown line_words w (refl, (refl, (refl, (refl, (refl, (refl, (refl, (refl, tt)))))))) refl

rule-words : (w : Field) → (rule_form w ≡ form.Unknown → ⊥) → words_of (rule_form w) ≡ 2
unfolding rule_form
rule-words w =
    meaning-all (λ (f : Form). (f ≡ form.Unknown → ⊥) → words_of f ≡ 2) form.Unknown rule_words w
    ((λ n. refl), ((λ n. refl), ((λ n. refl), ((λ n. refl), ((λ n. refl), ((λ n. refl), ((λ n. refl), ((λ n. refl), ((λ n. refl), ((λ n. refl), ((λ n. refl), tt))))))))))) (λ n. absurd (n refl))

-- the fields after its words
pub body-words : (fs : List Field) → (form_of fs ≡ form.Unknown → ⊥) → drop (words_of (form_of fs)) fs ≡ body_of fs
body-words [] n = absurd (n refl)
body-words (w ∷ []) n = go (is_rule w) refl
  where
    go : (b : Bool) → is_rule w ≡ b → drop (words_of (cond b form.Bare (line_form w))) (w ∷ []) ≡ cond b (drop 1 []) []
    go true e = refl
    go false e = rw (line-words w)
body-words (w ∷ v ∷ fs) n = go (is_rule w) n
  where
    go : (b : Bool) → (cond b (rule_form v) (line_form w) ≡ form.Unknown → ⊥) → drop (words_of (cond b (rule_form v) (line_form w))) (w ∷ v ∷ fs) ≡ cond b (drop 1 (v ∷ fs)) (v ∷ fs)
    go true m = rw (rule-words v m)
    go false m = rw (line-words w)

-- a line has a field
pub fields-some : (line : List ℕ) → 0 < length (fields line)
fields-some line = omega (arith, ap length (sym (parts_all 9 line) ∙ fields-next line 0 zero-le))
