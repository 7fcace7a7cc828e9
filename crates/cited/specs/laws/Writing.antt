-- Laws of writing the lines of a reason: which lines are those of statements, and what has been written of them. Assumes nothing.
use Rattle.std.specs.Prelude.{◌≡◌, refl, Bool, true, false, cond, List, [], ◌∷◌, ◌++◌, ℕ, ◌+◌, ◌-◌, ◌*◌, ◌≤◌, ◌<◌, length, get_or, drop}
use Rattle.std.proofs.Common.{sym, ◌∙◌, subst, true≢false, append_assoc, append-nil, zero-le, arith, length-append, length-take, drop-drop, get_or-drop}
use Rattle.std.proofs.Math.Path.{ap}
use Rattle.std.proofs.lemmas.List.{length-map}
use Rattle.row.specs.own.Row.{row_hasb}
use Rattle.reason.specs.own.Picked.{picked, picked_from}
use Rattle.reason.specs.laws.Picked.{picked_more}
use Rattle.reader.specs.own.Scan.{line_at}
use Rattle.text.specs.own.Split.{part_of, end_of, parts_from}
use Rattle.text.specs.Bytes.{place, same}
use Rattle.text.specs.Split.{fields, lines, split}
use Rattle.text.specs.Text.{Wrote}
use Rattle.text.specs.laws.Split.{end-le, parts_all, parts_next, parts_none}
use Rattle.text.specs.laws.Text.{wrote_none, wrote_then}
use Rattle.field.specs.declared.Form.{Form}
use Rattle.field.specs.declared.Form.TheVariants as form
use Rattle.line.specs.Fault.{line_fault, line_limit, sheet_limit}
use Rattle.sheet.specs.Said.{Outcome, Said, SheetStatement, line_said, marks_of, nothing, outcome, outcome_from, saying}
use Rattle.sheet.specs.Said.Outcome.{accepted}
use Rattle.field.specs.Words.{Field, body_of, form_of, line_form}
use Rattle.line.proofs.laws.Accepted.{right-short}
use Rattle.sheet.specs.laws.Pass.{accepted-start, accepted-step, said_of}
use Rattle.why.specs.Listed.{lines_of}
use Rattle.why.specs.laws.Listed.{lines_more}
use Rattle.cited.specs.declared.Printed.{Printed}
use Rattle.cited.specs.Text.{lines_text, numbered_text}
use Rattle.cited.specs.own.Writing.{Accepted, PutIf, statement_form}

-- ---- one line

-- an empty line is no statement
empty-line : statement_form (form_of (fields [])) ≡ false
unfolding split line_form same place
empty-line = refl

-- the line of a statement has a byte
statement-long : (l : List ℕ) → statement_form (form_of (fields l)) ≡ true → 1 ≤ length l
statement-long [] e = absurd (true≢false (sym e ∙ empty-line))
statement-long (b ∷ l) e = omega arith

-- a line that is none leaves the lines of statements; one that is one adds its number
saying-lines : (k : ℕ) (s : Said) (f : Form) (fs : List Field) → lines_of (saying k s f fs).statements ≡ lines_of s.statements ++ cond (statement_form f) (k ∷ []) []
saying-lines k s form.Concept fs = sym (append-nil (lines_of s.statements))
saying-lines k s form.Role fs = sym (append-nil (lines_of s.statements))
saying-lines k s form.Item fs = sym (append-nil (lines_of s.statements))
saying-lines k s (form.Statement w) fs = lines_more s.statements _
saying-lines k s (form.Rule w) fs = sym (append-nil (lines_of s.statements))
saying-lines k s form.Bare fs = sym (append-nil (lines_of s.statements))
saying-lines k s form.Unknown fs = sym (append-nil (lines_of s.statements))

line-lines : (k : ℕ) (s : Said) (l : List ℕ) → lines_of (line_said k s l).statements ≡ lines_of s.statements ++ cond (statement_form (form_of (fields l))) (k ∷ []) []
unfolding line_said
line-lines k s [] = rw empty-line (sym (append-nil (lines_of s.statements)))
line-lines k s (b ∷ l) = saying-lines k s (form_of (fields (b ∷ l))) (body_of (fields (b ∷ l)))

-- what was said is the first part of all that is said
lines_rest : (k : ℕ) (s x : Said) (ls : List (List ℕ)) → outcome_from k s ls ≡ accepted x → (rest : List ℕ) × (lines_of x.statements ≡ lines_of s.statements ++ rest)
unfolding outcome_from
lines_rest k s x [] e = ([], ap (λ (o : Outcome). lines_of (said_of o).statements) (sym e) ∙ sym (append-nil (lines_of s.statements)))
lines_rest k s x (l ∷ ls) e =
    let z = accepted-step k s x l ls e in
    let a = lines_rest (k + 1) (line_said k s l) x ls z.1 in
    let c = cond (statement_form (form_of (fields l))) (k ∷ []) [] in
    (c ++ a.0, a.1 ∙ ap (λ (rs : List ℕ). rs ++ a.0) (line-lines k s l) ∙ append_assoc (lines_of s.statements) c a.0)

-- ---- the lines of an accepted sheet, one after the other

-- the lines from a place on, the first of which has the number k, come after the statements in the lines `done`
pub record Standing (sheet : List ℕ) (x : Said) (done : List ℕ) (at k : ℕ) : Type 0 where
  pub said : Said
  pub statements : lines_of said.statements ≡ done
  pub rest : outcome_from k said (parts_from 10 sheet at) ≡ accepted x
  pub left : drop (k - 1) (lines sheet) ≡ parts_from 10 sheet at
  pub first : 1 ≤ k
  pub short : length sheet ≤ sheet_limit
  pub inside : at ≤ length sheet + 1

pub standing-start : (W : ℕ) (sheet : List ℕ) (x : Said) (e : ℕ) → e ≡ end_of 10 sheet 0 → outcome W sheet ≡ accepted x → Standing sheet x [] (e + 1) 2
standing-start W sheet x e ends o =
    let z = accepted-start W sheet x o in
    let parted : lines sheet ≡ part_of sheet 0 (end_of 10 sheet 0 - 0) ∷ parts_from 10 sheet (end_of 10 sheet 0 + 1) = sym (parts_all 10 sheet) ∙ parts_next 10 sheet 0 zero-le in
    record { said = nothing z.0; statements = refl; rest = rw ends z.2; left = rw (parted, ends); first = omega arith; short = z.1; inside = omega (arith, ends, end-le 10 sheet 0 zero-le) }

module _ {sheet : List ℕ} {x : Said} {done : List ℕ} {at k : ℕ} (p : Standing sheet x done at k) where
  -- no line is left: all statements are done
  standing-end : length sheet < at → lines_of x.statements ≡ done
  unfolding outcome_from
  standing-end g =
      let e : accepted p.said ≡ accepted x = rw (parts_none 10 sheet at g) at p.rest in
      ap (λ (o : Outcome). lines_of (said_of o).statements) (sym e) ∙ p.statements

  -- a line, and its end
  module _ (e : ℕ) (l : List ℕ) (g : at ≤ length sheet) (ends : e ≡ end_of 10 sheet at) (is : l ≡ line_at sheet at) where
    parted : parts_from 10 sheet at ≡ l ∷ parts_from 10 sheet (e + 1)
    parted = parts_next 10 sheet at g ∙ rw (is, ends)

    -- it has nothing wrong with it, and the lines after it are accepted
    stepped : (line_fault p.said.names (marks_of p.said) l ≡ 0) × (outcome_from (k + 1) (line_said k p.said l) (parts_from 10 sheet (e + 1)) ≡ accepted x)
    stepped = accepted-step k p.said x l (parts_from 10 sheet (e + 1)) (rw parted at p.rest)

    standing-short : length l ≤ line_limit
    standing-short = right-short p.said.names (marks_of p.said) l stepped.0

    -- it is the line with the number k
    standing-line : get_or (lines sheet) (k - 1) [] ≡ l
    standing-line =
        let z : k - 1 + 0 ≡ k - 1 = omega arith in
        ap (λ (i : ℕ). get_or (lines sheet) i []) (sym z) ∙ sym (get_or-drop (k - 1) (lines sheet) 0 []) ∙ ap (λ (ls : List (List ℕ)). get_or ls 0 []) (p.left ∙ parted)

    standing-next : Standing sheet x (done ++ cond (statement_form (form_of (fields l))) (k ∷ []) []) (e + 1) (k + 1)
    standing-next =
        record {
          said = line_said k p.said l;
          statements = line-lines k p.said l ∙ ap (λ (rs : List ℕ). rs ++ cond (statement_form (form_of (fields l))) (k ∷ []) []) p.statements;
          rest = stepped.1;
          left = (let z : k + 1 - 1 ≡ k - 1 + 1 = omega (arith, p.first) in ap (λ (i : ℕ). drop i (lines sheet)) z ∙ sym (drop-drop 1 (k - 1) (lines sheet)) ∙ ap (drop 1) (p.left ∙ parted));
          first = omega arith;
          short = p.short;
          inside = omega (arith, ends, end-le 10 sheet at g);
        }

    -- a statement of the line is one of the sheet's
    standing-few : statement_form (form_of (fields l)) ≡ true → length done < length x.statements
    standing-few s =
        let z = standing-next in
        let r = lines_rest (k + 1) z.said x (parts_from 10 sheet (e + 1)) z.rest in
        let one : lines_of z.said.statements ≡ done ++ k ∷ [] = z.statements ∙ ap (λ (b : Bool). done ++ cond b (k ∷ []) []) s in
        let more : lines_of x.statements ≡ (done ++ k ∷ []) ++ r.0 = r.1 ∙ ap (λ (rs : List ℕ). rs ++ r.0) one in
        omega (arith, ap length more, length-append (done ++ k ∷ []) r.0, length-append done (k ∷ []), length-map x.statements (λ (q : SheetStatement). q.line))

-- ---- what is written

-- the statements in the lines `done` are passed, n of them, and those of them that are marked are written and counted
pub record Written (sheet : List ℕ) (x : Said) (marks room exit : List ℕ) (p : Printed) (n at k : ℕ) : Type 0 where
  pub done : List ℕ
  pub standing : Standing sheet x done at k
  pub count : n ≡ length done
  pub wrote : Wrote room 0 (lines_text sheet (picked marks done)) exit p.at
  pub total : p.total ≡ length (picked marks done)

pub written_start : {sheet : List ℕ} {x : Said} {marks room : List ℕ} {at k : ℕ} → Standing sheet x [] at k → Written sheet x marks room room (record { at = 0; total = 0 }) 0 at k
unfolding lines_text picked_from
written_start {room = room} s = record { done = []; standing = s; count = refl; wrote = wrote_none room 0; total = refl }

texts-append : (sheet ks js : List ℕ) → lines_text sheet (ks ++ js) ≡ lines_text sheet ks ++ lines_text sheet js
unfolding lines_text
texts-append sheet [] js = refl
texts-append sheet (k ∷ ks) js =
    ap (λ (t : List ℕ). numbered_text k (get_or (lines sheet) (k - 1) []) ++ t) (texts-append sheet ks js) ∙ sym (append_assoc (numbered_text k (get_or (lines sheet) (k - 1) [])) (lines_text sheet ks) (lines_text sheet js))

-- the text of one line, or of none
text-one : (sheet : List ℕ) (k : ℕ) (l : List ℕ) (b : Bool) → get_or (lines sheet) (k - 1) [] ≡ l → lines_text sheet (cond b (k ∷ []) []) ≡ cond b (numbered_text k l) []
unfolding lines_text
text-one sheet k l true e = append-nil (numbered_text k (get_or (lines sheet) (k - 1) [])) ∙ ap (numbered_text k) e
text-one sheet k l false e = refl

-- the lines picked after one line more
picked-line : (marks done : List ℕ) (k n : ℕ) (b : Bool) → n ≡ length done → picked marks (done ++ cond b (k ∷ []) []) ≡ picked marks done ++ cond (cond b (row_hasb marks n) false) (k ∷ []) []
picked-line marks done k n true e = picked_more (row_hasb marks) done k (row_hasb marks n) (ap (row_hasb marks) (sym e))
picked-line marks done k n false e = ap (picked marks) (append-nil done) ∙ sym (append-nil (picked marks done))

one-length : (k : ℕ) (b : Bool) → length (cond b (k ∷ []) []) ≡ cond b 1 0
one-length k true = refl
one-length k false = refl

module _ {sheet : List ℕ} {x : Said} {marks room mid : List ℕ} {p : Printed} {n at k : ℕ} (w : Written sheet x marks room mid p n at k) (e : ℕ) (l : List ℕ) (g : at ≤ length sheet) (ends : e ≡ end_of 10 sheet at) (is : l ≡ line_at sheet at) where
  -- the line is not too long
  pub written-short : length l ≤ line_limit
  written-short = standing-short w.standing e l g ends is

  -- a statement that is met is one of the sheet's
  pub written-few : statement_form (form_of (fields l)) ≡ true → n < length x.statements
  written-few s = omega (arith, standing-few w.standing e l g ends is s, w.count)

  -- one line more
  pub written_next : {exit : List ℕ} {q : Printed} {b : Bool} (m : ℕ) → b ≡ cond (statement_form (form_of (fields l))) (row_hasb marks n) false → PutIf b p k l mid exit q → m ≡ n + cond (statement_form (form_of (fields l))) 1 0
      → Written sheet x marks room exit q m (e + 1) (k + 1)
  written_next {exit} {q} {b} m on z count =
      let s = statement_form (form_of (fields l)) in
      let more = w.done ++ cond s (k ∷ []) [] in
      let p' : picked marks more ≡ picked marks w.done ++ cond b (k ∷ []) [] = picked-line marks w.done k n s w.count ∙ ap (λ (c : Bool). picked marks w.done ++ cond c (k ∷ []) []) (sym on) in
      let t : lines_text sheet (picked marks more) ≡ lines_text sheet (picked marks w.done) ++ cond b (numbered_text k l) [] =
      ap (lines_text sheet) p' ∙ texts-append sheet (picked marks w.done) (cond b (k ∷ []) []) ∙ ap (λ (u : List ℕ). lines_text sheet (picked marks w.done) ++ u) (text-one sheet k l b (standing-line w.standing e l g ends is)) in
      record {
        done = more;
        standing = standing-next w.standing e l g ends is;
        count = count ∙ omega (arith, w.count, length-append w.done (cond s (k ∷ []) []), one-length k s);
        wrote = subst (λ (u : List ℕ). Wrote room 0 u exit q.at) (sym t) (wrote_then w.wrote z.wrote);
        total = z.total ∙ omega (arith, w.total, ap length p', length-append (picked marks w.done) (cond b (k ∷ []) []), one-length k b);
      }

-- all lines are passed
pub written-end : {sheet : List ℕ} {x : Said} {marks room exit : List ℕ} {p : Printed} {n at k : ℕ} → length sheet < at → Written sheet x marks room exit p n at k
    → Wrote room 0 (lines_text sheet (picked marks (lines_of x.statements))) exit p.at × (p.total ≡ length (picked marks (lines_of x.statements)))
written-end {sheet} {x} {marks} {room} {exit} {p} g w =
    let e = standing-end w.standing g in
    (subst (λ (ks : List ℕ). Wrote room 0 (lines_text sheet (picked marks ks)) exit p.at) (sym e) w.wrote, subst (λ (ks : List ℕ). p.total ≡ length (picked marks ks)) (sym e) w.total)

-- ---- how far the room is written

pub sheet-short : {sheet : List ℕ} → Accepted sheet → length sheet ≤ sheet_limit
sheet-short {sheet} a = (accepted-start a.width sheet a.said a.ends).1

-- one more at most
pub one_at_most : (b : Bool) → cond b 1 0 ≤ 1
one_at_most true = omega arith
one_at_most false = omega arith

-- the bytes of a part
pub part_length : (sheet : List ℕ) (at e : ℕ) → length (part_of sheet at (e - at)) ≤ e - at
part_length sheet at e = omega (arith, length-take (e - at) (drop at sheet))

-- a line of a statement has a byte, so that no more than fifteen bytes are written for each that is read
pub room-grows : {l mid exit : List ℕ} (h : Bool) {b : Bool} {p q : Printed} {k at e : ℕ} → b ≡ cond (statement_form (form_of (fields l))) h false → PutIf b p k l mid exit q → length l ≤ e - at → at ≤ e
    → p.at ≤ 15 * at → q.at ≤ 15 * (e + 1)
room-grows {l} h {b} {p} {q} {at = at} {e = e} on z long g r = go b (statement_form (form_of (fields l))) refl on z.short
  where
    go : (d s : Bool) → statement_form (form_of (fields l)) ≡ s → d ≡ cond s h false → q.at ≤ p.at + cond d (length l + 27) 0 → q.at ≤ 15 * (e + 1)
    go true true c o m = omega (arith, statement-long l c, long, g, r, m)
    go true false c o m = absurd (true≢false o)
    go false s c o m = omega (arith, m, r, g)
