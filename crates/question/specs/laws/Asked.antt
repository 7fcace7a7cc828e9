-- Laws of taking a question apart. Assumes nothing.
use Rattle.std.specs.Prelude.{◌≡◌, refl, Bool, true, false, cond, not, Option, None, List, [], ◌∷◌, ℕ, suc, ◌-◌, ◌≤◌, ◌<◌, eqb, length, get_or}
use Rattle.std.proofs.Common.{sym, ap, ◌∙◌, zero-le, arith, eq-eqb, eqb-true, ne_eqb, take_all}
use Rattle.text.specs.Bytes.{every}
use Rattle.text.specs.Name.{line_byte}
use Rattle.reader.specs.own.Scan.{line_at}
use Rattle.text.specs.own.Split.{end_of, part_of, upto}
use Rattle.reader.specs.own.Field.{field_from}
use Rattle.text.specs.Split.{fields}
use Rattle.text.specs.laws.Choice.{cond_both}
use Rattle.text.specs.laws.Split.{parts_all}
use Rattle.reader.specs.laws.Field.{fields-next}
use Rattle.store.specs.declared.Statement.{Statement}
use Rattle.field.specs.declared.Form.{Form}
use Rattle.field.specs.declared.Form.TheVariants as form
use Rattle.field.specs.declared.StatementWord.{StatementWord}
use Rattle.line.specs.Fault.{line_fault, line_limit}
use Rattle.line.specs.laws.Fault.{line-bytes}
use Rattle.field.specs.Names.{Names}
use Rattle.field.specs.Words.{at, Field, body_of, form_of}
use Rattle.line.proofs.laws.Accepted.{right-short}
use Rattle.question.specs.own.Asked.{Asking, FormAsked}
use Rattle.question.specs.Question.{among_statements, bare}

-- a line with nothing wrong with it asks for the cell that it states, if it is a statement
pub asking-form : (n : Names) (q : List ℕ) (r : Option Statement) → line_fault n among_statements q ≡ 0 → FormAsked n (form_of (fields q)) (body_of (fields q)) r → Asking n q r
asking-form n q r right h = go (form_of (fields q)) refl h
  where
    none : (f : Form) → form_of (fields q) ≡ f → ((w : StatementWord) → f ≡ form.Statement w → ⊥) → r ≡ None → Asking n q r
    none f e not z = rw z (λ c a. not a.word (sym e ∙ a.form))

    go : (f : Form) → form_of (fields q) ≡ f → FormAsked n f (body_of (fields q)) r → Asking n q r
    go form.Concept e z = none form.Concept e (λ w p. cc) z
    go form.Role e z = none form.Role e (λ w p. cc) z
    go form.Item e z = none form.Item e (λ w p. cc) z
    go (form.Statement w) e z = rw z (record { word = w; form = e; right = right; cell = refl })
    go (form.Rule w) e z = none (form.Rule w) e (λ v p. cc) z
    go form.Bare e z = none form.Bare e (λ w p. cc) z
    go form.Unknown e z = none form.Unknown e (λ w p. cc) z

-- a line with something wrong with it asks for no cell
pub asking-wrong : (n : Names) (q : List ℕ) → (line_fault n among_statements q ≡ 0 → ⊥) → Asking n q None
asking-wrong n q wrong = λ c a. wrong a.right

-- one that is too long
pub asking-long : (n : Names) (q : List ℕ) → line_limit < length q → Asking n q None
asking-long n q h = asking-wrong n q (λ e. omega (arith, right-short n among_statements q e))

-- a line feed may not stand in a line
feed : line_byte 10 ≡ false
unfolding line_byte
feed = refl

feed-wrong : (q : List ℕ) → upto 10 q < length q → every line_byte q ≡ false
unfolding every upto
feed-wrong [] h = absurd (omega arith)
feed-wrong (b ∷ q) h = go (eqb b 10) refl h (feed-wrong q)
  where
    go : (e : Bool) → eqb b 10 ≡ e → cond e 0 (suc (upto 10 q)) < suc (length q) → (upto 10 q < length q → every line_byte q ≡ false) → cond (line_byte b) (every line_byte q) false ≡ false
    go true is l more = rw (ap line_byte (eqb-true b 10 is) ∙ feed)
    go false is l more = rw (more (omega arith)) (cond_both (λ (x : Bool). x ≡ false) (line_byte b) refl refl)

-- a question with one in it
pub asking-feed : (n : Names) (q : List ℕ) → end_of 10 q 0 < length q → Asking n q None
unfolding end_of
asking-feed n q h =
    let wrong = ap not (feed-wrong q (omega arith)) in
    asking-wrong n q (λ e. omega (arith, e, line-bytes n among_statements q (λ l. omega arith) (right-short n among_statements q e) wrong))

-- a question without one is a line
pub whole-line : (q : List ℕ) → length q ≤ end_of 10 q 0 → line_at q 0 ≡ q
whole-line q h = take_all (end_of 10 q 0 - 0) q (omega arith)

-- the first field
pub first_field : (q : List ℕ) → field_from q 0 ≡ at 0 (fields q)
first_field q = ap (λ (fs : List Field). at 0 fs) (sym (fields-next q 0 zero-le) ∙ parts_all 9 q)

-- a line feed at the end is taken off
pub bare-cut : (q : List ℕ) → get_or q (length q - 1) 0 ≡ 10 → part_of q 0 (length q - 1) ≡ bare q
unfolding bare
bare-cut q e = rw (eq-eqb _ _ e)

-- and where there is none, nothing is
pub bare-whole : (q : List ℕ) → (get_or q (length q - 1) 0 ≡ 10 → ⊥) → q ≡ bare q
unfolding bare
bare-whole q e = rw (ne_eqb _ _ e)

pub bare-nothing : (q : List ℕ) → length q ≤ 0 → q ≡ bare q
unfolding bare
bare-nothing [] h = refl
bare-nothing (b ∷ q) h = absurd (omega arith)
