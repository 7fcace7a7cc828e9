-- Marks joined with others. Assumes nothing.
use Rattle.std.specs.Prelude.{◌≡◌, refl, ◌⊎◌, true, List, ℕ, ◌+◌, ◌/◌, ◌%◌, ◌<◌, get_or}
use Rattle.std.proofs.Common.{sym, ap, ◌∙◌, inl, inr, ⊎_elim, arith}
use Rattle.std.proofs.Math.Decide.{dec_lt}
use Rattle.std.specs.Int.Bits.{bit_or}
use Rattle.std.proofs.Math.ListN.{get_or-eq_default}
use Rattle.row.specs.own.Change.{Mapped, row_or}
use Rattle.row.specs.own.Pick.{Marked}
use Rattle.row.specs.own.Row.{RowHas}
use Rattle.row.specs.laws.Bit.{has-hasb, has-or, hasb-has, moved, or_left, or_right, zero-none}
use Rattle.row.specs.laws.Rows.{row_or-on}
use Rattle.reason.specs.own.Aim.{Joinable, Joined}
use Rattle.reason.specs.own.Picked.{mark_words}

module _ {marks more middle after : List ℕ} {n : ℕ} (w : Joinable marks more n) (o : Mapped (row_or 0 more true) 0 (0 + mark_words) marks middle) (k : Marked true n middle after) where
  word : (h : ℕ) → h < mark_words → get_or middle h 0 ≡ bit_or (get_or marks h 0) (get_or more h 0)
  word h l = o.inside h (omega arith) (omega arith) ∙ ap (λ (i : ℕ). row_or 0 more true i (get_or marks h 0)) (let q : h ≡ 0 + h = omega arith in q) ∙ sym (row_or-on 0 more h (get_or marks h 0) refl)

  -- each bit of the words joined is one of theirs
  either : (j : ℕ) → RowHas middle j → RowHas marks j ⊎ RowHas more j
  either j h = by (dec_lt (j / 64) mark_words)
    where
      by : Dec (j / 64 < mark_words) → RowHas marks j ⊎ RowHas more j
      by (yes l) = has-or (get_or marks (j / 64) 0) (get_or more (j / 64) 0) (j % 64) (moved (word (j / 64) l) h)
      by (no l) = inl (moved (o.above (j / 64) (omega arith)) h)

  first : (j : ℕ) → RowHas marks j → RowHas middle j
  first j h = by (dec_lt (j / 64) mark_words)
    where
      by : Dec (j / 64 < mark_words) → RowHas middle j
      by (yes l) = moved (sym (word (j / 64) l)) (or_left (get_or marks (j / 64) 0) (get_or more (j / 64) 0) (j % 64) h)
      by (no l) = moved (sym (o.above (j / 64) (omega arith))) h

  second : (j : ℕ) → RowHas more j → RowHas middle j
  second j h = by (dec_lt (j / 64) mark_words)
    where
      by : Dec (j / 64 < mark_words) → RowHas middle j
      by (yes l) = moved (sym (word (j / 64) l)) (or_right (get_or marks (j / 64) 0) (get_or more (j / 64) 0) (j % 64) h)
      by (no l) = absurd (zero-none (moved (get_or-eq_default more 0 {n = j / 64} (omega (arith, w.more-wide))) h))

  pub joined_by : Joined marks more n after
  joined_by = record {
    wide = k.len ∙ o.len ∙ w.wide;
    joins = record {
      left = λ j e. has-hasb (k.keeps j (first j (hasb-has (get_or marks (j / 64) 0) (j % 64) e)));
      right = λ j e. has-hasb (k.keeps j (second j (hasb-has (get_or more (j / 64) 0) (j % 64) e)));
      this = has-hasb (k.gets refl);
      only = λ j e. ⊎_elim (λ h. ⊎_elim (λ x. inl (has-hasb x)) (λ x. inr (inl (has-hasb x))) (either j h)) (λ x. inr (inr x.1)) (k.only j (hasb-has (get_or after (j / 64) 0) (j % 64) e));
    };
  }
