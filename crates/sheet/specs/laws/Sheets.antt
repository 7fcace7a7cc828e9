-- Laws of a whole sheet. Assumes nothing.
use Rattle.std.specs.Prelude.{◌≡◌, refl, true, false, Result, Ok, Err, is_ok, List, ◌∷◌, length, replicate}
use Rattle.std.proofs.Common.{sym, ap, ◌∙◌, subst, eq-eqb, le-leb, ne_eqb, ext_get_or, ℕ, zero, suc, ◌+◌, ◌-◌, ◌≤◌, ◌<◌, zero-le, arith}
use Rattle.std.proofs.lemmas.Bool.{lt-leb}
use Rattle.std.proofs.lemmas.List.{get_or-replicate, length-replicate}
use Rattle.row.specs.own.Change.{Zeroed}
use Rattle.text.specs.own.Split.{part_of, end_of, parts_from}
use Rattle.text.specs.laws.Split.{parts_all, parts_next}
use Rattle.store.specs.Layout.{item_limit, size}
use Rattle.sheet.specs.declared.Ended.{Ended}
use Rattle.sheet.specs.declared.Refused.{Refused}
use Rattle.sheet.specs.declared.Start.{Start}
use Rattle.line.specs.declared.Marks.{Marks}
use Rattle.line.specs.Fault.{begun, header_fault, room_by, sheet_limit}
use Rattle.sheet.specs.Promise.{Leaves, Stopped}
use Rattle.sheet.specs.Reading.{refusal_as}
use Rattle.sheet.specs.Said.{Said, marks_of, nothing, outcome, outcome_from, outcome_of}
use Rattle.sheet.specs.Said.Outcome.{refused}
use Rattle.sheet.specs.own.Stands.{Begins, Ends, Opens, Stands, blank_kept, kept_table, too_long}
use Rattle.field.specs.own.Table.{items_from, number_count, room_of, table_of}
use Rattle.field.specs.laws.Declared.{no_names, none-tidy}
use Rattle.field.specs.laws.Table.{counts_of-names_of}
use Rattle.sheet.specs.laws.Stands.{begun-keeps}

-- ---- how it begins

-- words that were all made 0
pub zeroed-all : (s t : List ℕ) → Zeroed s t → t ≡ replicate (length s) 0
zeroed-all s t z =
    ext_get_or 0 t (replicate (length s) 0) (z.mapped.len ∙ sym (length-replicate (length s) 0))
    (λ i h. let g : i < length s = omega (arith, z.mapped.len) in z.mapped.inside i zero-le g ∙ sym (get_or-replicate (length s) i 0 0 g))

-- before the first line: numbers without names, which have room for so many items
pub blank_stands : (W : ℕ) (sheet numbers : List ℕ) (room : ℕ) → number_count W ≤ length numbers → room_of numbers ≡ room → room ≤ item_limit W
    → Stands W sheet (table_of numbers blank_kept.counts) blank_kept.marks (replicate (size W) 0) (nothing room)
blank_stands W sheet numbers room h e f =
    record {
      names = ap no_names (sym e);
      marks = refl;
      tidy = none-tidy sheet numbers (omega arith);
      few = omega arith;
      long = length-replicate {A = ℕ} (size W) 0;
      items = omega arith;
      room = omega (arith, e);
      places = h;
      store = refl;
    }

-- a sheet that is too long
pub opens-long : (W : ℕ) (sheet s numbers : List ℕ) → items_from ≤ length numbers → room_of numbers ≡ 0 → sheet_limit < length sheet → Opens W sheet s numbers s too_long
unfolding outcome
opens-long W sheet s numbers l e h =
    record { said = nothing 0; names = ap no_names (sym e); marks = refl; tidy = none-tidy sheet numbers l; ends = rw (lt-leb _ _ h); leaves = refl; near = λ q z. let g : refusal_as 0 9 ≡ q = cc in omega (arith, ap (λ (r : Refused). r.line) g); start = λ u z. absurd (cc) }

-- ---- line 1

module _ (W : ℕ) (sheet : List ℕ) (e why : ℕ) (h : length sheet ≤ sheet_limit) (end : e ≡ end_of 10 sheet 0) (fault : why ≡ header_fault W (part_of sheet 0 e)) where
  lines-all : outcome W sheet ≡ outcome_of W (part_of sheet 0 e ∷ parts_from 10 sheet (e + 1))
  unfolding outcome
  lines-all =
      let z : end_of 10 sheet 0 ≡ end_of 10 sheet 0 - 0 = omega arith in
      let q = parts_next 10 sheet 0 zero-le in
      rw (le-leb _ _ h, ← parts_all, q, end, ← z)

  pub header-on : why ≡ 0 → outcome W sheet ≡ outcome_from 2 (nothing (room_by (part_of sheet 0 e))) (parts_from 10 sheet (e + 1))
  header-on z = lines-all ∙ rw (eq-eqb _ _ (sym fault ∙ z))

  pub header-stop : (why ≡ 0 → ⊥) → outcome W sheet ≡ refused 1 why (nothing 0)
  header-stop z = lines-all ∙ rw (← fault, ne_eqb _ _ z)

-- a faulty line 1
pub ends-header : (W : ℕ) (sheet numbers s : List ℕ) (why : ℕ) (b : Start) → Stands W sheet (table_of numbers blank_kept.counts) blank_kept.marks s (nothing 0) → outcome W sheet ≡ refused 1 why (nothing 0)
    → Ends W sheet (outcome W sheet) numbers s (record { read = Err (refusal_as 1 why); kept = blank_kept; start = b })
ends-header W sheet numbers s why b st e =
    record { said = nothing 0; stands = st; ends = e; near = λ q f. let g : refusal_as 1 why ≡ q = cc in (omega (arith, ap (λ (r : Refused). r.line) g), omega (arith, ap (λ (r : Refused). r.line) g)); start = λ u f. absurd (cc) }

-- ---- how it ends

-- read to its end
pub read-whole : (r : Result (Unit {0}) Refused) → is_ok r ≡ true → r ≡ Ok tt
read-whole (Ok u) e = refl
read-whole (Err q) e = absurd (cc)

leaves-line : (W n k : ℕ) (x : Said) (s t : List ℕ) → 1 ≤ n → Stopped W (begun (marks_of x)) x t → Leaves W (refused n k x) s t
leaves-line W zero k x s t h st = absurd (omega arith)
leaves-line W (suc n) k x s t h st = st

module _ (W : ℕ) (sheet s numbers t : List ℕ) (r : Ended) (e : Ends W sheet (outcome W sheet) numbers t r) where
  -- at a faulty line
  pub opens-stop : {q : Refused} → r.read ≡ Err q → Opens W sheet s numbers t r
  opens-stop {q} z =
      record {
        said = e.said;
        names = e.stands.names;
        marks = e.stands.marks;
        tidy = e.stands.tidy;
        ends = e.ends;
        leaves = rw z (leaves-line W q.line q.why e.said s t (e.near q z).0 (subst (λ (m : Marks). Stopped W (begun m) e.said t) (sym e.stands.marks) e.stands.store));
        near = λ q f. (e.near q f).1;
        start = e.start;
      }

  -- the same, by what the reading gave
  pub opens-not : is_ok r.read ≡ false → Opens W sheet s numbers t r
  opens-not f = go r.read refl f
    where
      go : (x : Result (Unit {0}) Refused) → r.read ≡ x → is_ok x ≡ false → Opens W sheet s numbers t r
      go (Ok u) z g = absurd (cc)
      go (Err q) z g = opens-stop z

  -- without one: the store is fresh at the latest now
  pub opens-end : {v : Unit {0}} → r.read ≡ Ok v → (u : List ℕ) → Begins W (begun r.kept.marks) r.kept.counts t u → Opens W sheet s numbers u r
  opens-end z u b =
      record {
        said = e.said;
        names = e.stands.names;
        marks = e.stands.marks;
        tidy = e.stands.tidy;
        ends = e.ends;
        leaves = rw z (rw (e.stands.names, counts_of-names_of sheet (kept_table numbers r) e.stands.tidy) (begun-keeps e.stands b));
        near = λ q f. (e.near q f).1;
        start = e.start;
      }
