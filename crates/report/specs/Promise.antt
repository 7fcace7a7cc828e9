-- What is printed for a sheet, with a store of its own or a lent one, and what the lent store becomes.
use Rattle.std.specs.Prelude.{◌≡◌, cond, List, ℕ, ltb, length}
use Rattle.store.specs.Layout.{size, small, width_of}
use Rattle.sheet.specs.Reading.{Reading}
use Rattle.sheet.specs.Promise.{Prints, Reads, refused_text}
use Rattle.text.specs.Text.{Wrote}

-- no text has more bytes: 200 lines of findings, of 64 bytes at the most, and the last one, which has a digit more with the larger store; or the line of a refused sheet
abbrev pub text_limit : ℕ → ℕ
text_limit W = cond (ltb small W) 12815 12814

-- the text that is printed for the sheet with a store of row width W was written at the start of the room, as far as it reaches, and r is its length
pub record Pages (W : ℕ) (sheet room exit : List ℕ) (r : ℕ) : Type 0 where
  pub text : List ℕ
  pub prints : Prints W sheet text
  pub wrote : Wrote room 0 text exit r

-- the text for a sheet and the store s: what is printed for the sheet; where s has another length than a store, that this is refused by 1
pub data PrintsIn (sheet s : List ℕ) : List ℕ → Type 0 where
  wrong_size : ¬ (length s ≡ size (width_of s)) → PrintsIn sheet s (refused_text 0 1)
  printed : {text : List ℕ} → length s ≡ size (width_of s) → Prints (width_of s) sheet text → PrintsIn sheet s text

-- the store s became t, as reading the sheet into it leaves it
pub record ReadInto (sheet s t : List ℕ) : Type 0 where
  pub answer : Reading
  pub reads : Reads sheet s t answer

-- the sheet was read into the store s, which became t, and the text for it was written at the start of the room, as far as it reaches; r is its length
pub record PagesIn (sheet s t room exit : List ℕ) (r : ℕ) : Type 0 where
  pub text : List ℕ
  pub prints : PrintsIn sheet s text
  pub left : ReadInto sheet s t
  pub wrote : Wrote room 0 text exit r
