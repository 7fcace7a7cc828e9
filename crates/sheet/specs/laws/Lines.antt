-- Laws of the lines of a sheet, one after the other. Assumes nothing.
use Rattle.std.specs.Prelude.{◌≡◌, refl, Bool, true, false, cond, Ok, Err, List, [], ◌∷◌, ℕ, ◌+◌, ◌≤◌, ◌<◌, eqb, length, replicate}
use Rattle.std.proofs.Common.{sym, ap, ◌∙◌, arith, eq-eqb, eqb-true, ne_eqb}
use Rattle.text.specs.Bytes.{every}
use Rattle.text.specs.Name.{line_byte}
use Rattle.reader.specs.own.Scan.{line_at}
use Rattle.text.specs.own.Split.{end_of, parts_from}
use Rattle.text.specs.laws.Split.{end_ge, end-le, parts_next, parts_none}
use Rattle.sheet.specs.declared.Kept.{Kept}
use Rattle.sheet.specs.declared.Refused.{Refused}
use Rattle.sheet.specs.declared.Start.{Start}
use Rattle.line.specs.declared.Marks.{Marks}
use Rattle.line.specs.Fault.{line_fault, line_limit, sheet_limit}
use Rattle.sheet.specs.Reading.{refusal_as}
use Rattle.sheet.specs.Said.{Outcome, Said, SheetRule, line_said, marks_of, nothing, outcome_from}
use Rattle.sheet.specs.own.Stands.{Beginning, Came, Comes, Ends, Stands, blank_kept}
use Rattle.store.specs.Layout.{item_limit, size}
use Rattle.field.specs.own.Line.{Looked}
use Rattle.field.specs.own.Table.{number_count, room_of, table_of}
use Rattle.sheet.specs.laws.Sheets.{blank_stands}

-- the reading stands at a place of the sheet, at line n, where the outcome of all is o, with the numbers and the words; the rules begin at b or later
pub record Reads (W : ℕ) (sheet : List ℕ) (o : Outcome) (at n : ℕ) (k : Kept) (numbers s : List ℕ) (b : Start) : Type 0 where
  pub said : Said
  pub stands : Stands W sheet (table_of numbers k.counts) k.marks s said
  pub left : o ≡ outcome_from n said (parts_from 10 sheet at)
  pub inside : at ≤ length sheet + 1
  pub near : n ≤ at + 2
  pub later : 2 ≤ n
  pub begins : Beginning sheet o b

-- before the first line that is read, in a sheet that has room for so many items
pub reads-start : (W : ℕ) (sheet numbers : List ℕ) (room from : ℕ) → from ≤ length sheet + 1 → number_count W ≤ length numbers → room_of numbers ≡ room → room ≤ item_limit W
    → Reads W sheet (outcome_from 2 (nothing room) (parts_from 10 sheet from)) from 2 blank_kept numbers (replicate (size W) 0) (record { at = from; line = 2 })
reads-start W sheet numbers room from g h e f =
    record {
      said = nothing room;
      stands = blank_stands W sheet numbers room h e f;
      left = refl;
      inside = g;
      near = omega arith;
      later = omega arith;
      begins = record { said = nothing room; rules = refl; rest = refl; inside = g; near = omega arith };
    }

no-rules : (x : Said) → (marks_of x).rules ≡ 0 → x.rules ≡ []
no-rules x e = go x.rules e
  where
    go : (rs : List SheetRule) → length rs ≡ 0 → rs ≡ []
    go [] q = refl
    go (r ∷ rs) q = absurd (omega arith)

module _ {W : ℕ} {sheet : List ℕ} {o : Outcome} {at n : ℕ} {k : Kept} {numbers s : List ℕ} {b : Start} (h : length sheet ≤ sheet_limit) (r : Reads W sheet o at n k numbers s b) where
  -- no line is left
  pub reads_end : length sheet < at → Ends W sheet o numbers s (record { read = Ok tt; kept = k; start = b })
  unfolding outcome_from
  reads_end g =
      record { said = r.said; stands = r.stands; ends = r.left ∙ rw (parts_none 10 sheet at g); near = λ q z. absurd (cc); start = λ u z. r.begins }

  -- a line comes
  pub reads-comes : (line : List ℕ) {good : Bool} {ends : List ℕ} → at ≤ length sheet → line ≡ line_at sheet at → good ≡ every line_byte line → (length line ≤ line_limit → Looked line ends)
      → Comes W sheet (table_of numbers k.counts) k.marks s at line good ends
  reads-comes line g is good look = record { said = r.said; stands = r.stands; is = is; inside = g; short = h; bytes = good; looked = look }

  -- a line, its end and its number of refusal
  module _ (e : ℕ) (line : List ℕ) (why : ℕ) (g : at ≤ length sheet) (ends : e ≡ end_of 10 sheet at) (is : line ≡ line_at sheet at) {k' : Kept} {numbers' s' : List ℕ}
      (came : Came W sheet (table_of numbers k.counts) k.marks s line why (table_of numbers' k'.counts) k'.marks s') where
    parted : o ≡ outcome_from n r.said (line ∷ parts_from 10 sheet (e + 1))
    parted = r.left ∙ rw (parts_next 10 sheet at g, is, ends)

    judged : why ≡ line_fault r.said.names (marks_of r.said) line
    judged = came.why ∙ rw (r.stands.names, r.stands.marks)

    pub reads_on : why ≡ 0 → {b' : Start} → b' ≡ cond (eqb k'.marks.rules 0) (record { at = e + 1; line = n + 1 }) b → Reads W sheet o (e + 1) (n + 1) k' numbers' s' b'
    unfolding outcome_from
    reads_on z first =
        record { said = said; stands = stands; left = left; inside = inside; near = near; later = omega (arith, r.later); begins = rw first (go (eqb k'.marks.rules 0) refl) }
      where
        said : Said
        said = line_said n r.said line

        stands : Stands W sheet (table_of numbers' k'.counts) k'.marks s' said
        stands = came.taken z n r.said r.stands

        left : o ≡ outcome_from (n + 1) said (parts_from 10 sheet (e + 1))
        left = parted ∙ rw (eq-eqb _ _ (sym judged ∙ z))

        inside : e + 1 ≤ length sheet + 1
        inside = omega (arith, ends, end-le 10 sheet at g)

        near : n + 1 ≤ e + 1 + 2
        near = omega (arith, r.near, ends, end_ge 10 sheet at)

        go : (c : Bool) → eqb k'.marks.rules 0 ≡ c → Beginning sheet o (cond c (record { at = e + 1; line = n + 1 }) b)
        go true q = record { said = said; rules = no-rules said (ap (λ (m : Marks). m.rules) stands.marks ∙ eqb-true _ _ q); rest = sym left; inside = inside; near = near }
        go false q = r.begins

    pub reads-stop : (why ≡ 0 → ⊥) → Ends W sheet o numbers' s' (record { read = Err (refusal_as n why); kept = k'; start = b })
    unfolding outcome_from
    reads-stop z =
        record {
          said = r.said;
          stands = came.left z n r.said r.stands;
          ends = parted ∙ rw (← judged, ne_eqb why 0 z);
          near = λ q f. let e1 : refusal_as n why ≡ q = cc in let l = ap (λ (p : Refused). p.line) e1 in (omega (arith, r.later, l), omega (arith, r.near, g, h, l));
          start = λ u f. absurd (cc);
        }
