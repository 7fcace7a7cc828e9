-- No text has more than 12,814 bytes: 200 findings of 64, and the total. Assumes nothing.
use mathlib.Core.List.{List, [], ◌∷◌, ◌++◌}
use Rattle.std.specs.Prelude.{◌≡◌, refl, ◌⊎◌, ℕ, suc, ◌+◌, ◌*◌, ◌<◌, ◌≤◌, ◌^◌, get_or, take}
use Rattle.std.proofs.Common.{inl, inr, mul-le-mul_left, length-take}
use native.Mathlib.Omega.{arith}
use Rattle.std.proofs.Math.ListN.{length, length-append}
use Rattle.text.specs.Text.{decimal}
use Rattle.text.specs.Name.{name_limit}
use Rattle.text.specs.laws.Text.{decimal-digits}
use Rattle.store.specs.Layout.{large, small, width_of}
use Rattle.store.specs.laws.Width.{width_two}
use Rattle.rule.specs.declared.Finding.{Finding}
use Rattle.rule.specs.Second.{Second}
use Rattle.std.specs.Prelude.{None, Some}
use Rattle.field.specs.Names.{Names, counts_of}
use Rattle.line.specs.Fault.{rule_limit, sheet_limit}
use Rattle.sheet.specs.Promise.{FindingsIn, Held, Prints, finding_text, findings_text, print_limit, refused_text, second_text, total_text}
use Rattle.sheet.specs.Promise.Prints.{refused, accepted}
use Rattle.sheet.specs.Said.{Said, line_of, outcome}
use Rattle.sheet.specs.Said.Outcome.{accepted as accepted_sheet}
use Rattle.sheet.specs.laws.Few.{few-from}
use Rattle.sheet.specs.laws.Refused.{refused-small}
use Rattle.sheet.specs.laws.Slight.{Slight, sheet-slight}
use Rattle.report.specs.Promise.{Pages, PagesIn, PrintsIn, text_limit}
use Rattle.report.specs.Promise.PrintsIn.{wrong_size, printed}

-- the second item: a tab and a name
second_short : (n : Names) (y : Second) → ((i : ℕ) → length (get_or n.items i []) ≤ name_limit) → length (second_text n y) ≤ 25
second_short n None h = omega arith
second_short n (Some j) h = let z = h j.0 in omega arith

-- a line: a word of 7 bytes, a number of 5 digits, two names of 24 bytes, a tab before each, a line feed
module _ (x : Said) (s : Slight (sheet_limit + 3) x) where
  finding-short : (f : Finding) → length (finding_text x f) ≤ 64
  unfolding finding_text
  finding-short f =
      let l : length (decimal (line_of x f.rule)) ≤ 5 = decimal-digits 4 (line_of x f.rule) (let z = s.lines f.rule in omega arith) in
      let a = s.names f.item.0 in
      let b = second_short x.names f.second s.names in
      simp length-append (omega arith)

  findings-short : (fs : List Finding) → length (findings_text x fs) ≤ 64 * length fs
  unfolding findings_text
  findings-short [] = omega arith
  findings-short (f ∷ fs) = let a = finding-short f in let b = findings-short fs in rw length-append (omega arith)

-- the last line: a word of 5 bytes, a tab, a number of so many digits, a line feed
total-short : (d n : ℕ) → n < 10 ^ suc d → length (total_text n) ≤ 8 + d
unfolding total_text
total-short d n h = let l : length (decimal n) ≤ suc d = decimal-digits d n h in simp length-append (omega arith)

-- the text of an accepted sheet with at most m items, and a total of so many digits
text-short : (W : ℕ) (sheet : List ℕ) {t : List ℕ} {x : Said} {fs : List Finding} (m d : ℕ) → outcome W sheet ≡ accepted_sheet x → Held W x t → FindingsIn W x t fs → (counts_of x.names).items ≤ m → m * suc m * rule_limit < 10 ^ suc d
    → length (findings_text x (take print_limit fs) ++ total_text (length fs)) ≤ 12808 + d
text-short W sheet {x = x} {fs = fs} m d o held found few more =
    let s = sheet-slight W sheet o in
    let a = findings-short x s (take print_limit fs) in
    let b = total-short d (length fs) (omega (arith, few-from few found, mul-le-mul_left (m * suc m) s.few, more)) in
    let c = length-take print_limit fs in
    rw length-append (omega arith)

-- the most bytes of a text, by the width
pub limit-small : {W : ℕ} → W ≡ small → text_limit W ≡ 12814
limit-small e = rw e refl

pub limit-large : {W : ℕ} → W ≡ large → text_limit W ≡ 12815
limit-large e = rw e refl

-- no store has longer texts than the larger
pub text-most : (s : List ℕ) → text_limit (width_of s) ≤ text_limit large
text-most s = go (width_two s)
  where
    go : (width_of s ≡ large) ⊎ (width_of s ≡ small) → text_limit (width_of s) ≤ text_limit large
    go (inl e) = omega (arith, limit-large e)
    go (inr e) = omega (arith, limit-small e)

-- ---- any text

-- a line of a refusal: a word of 7 bytes, numbers of 5 digits and of 2, a tab before each, a line feed
refused-short : (n k : ℕ) → n < 100000 → k < 100 → length (refused_text n k) ≤ 17
unfolding refused_text
refused-short n k h g =
    let a : length (decimal n) ≤ 5 = decimal-digits 4 n (omega arith) in
    let b : length (decimal k) ≤ 2 = decimal-digits 1 k (omega arith) in
    simp length-append (omega arith)

-- the text that is printed for a sheet, with a store of either size
pub prints-short : (W : ℕ) (sheet : List ℕ) {text : List ℕ} → (W ≡ large) ⊎ (W ≡ small) → Prints W sheet text → length text ≤ text_limit W
prints-short W sheet (inl e) (refused {n = n} {k = k} o) = let z = refused-small W sheet o in let b = refused-short n k z.0 z.1 in omega (arith, limit-large e)
prints-short W sheet (inr e) (refused {n = n} {k = k} o) = let z = refused-small W sheet o in let b = refused-short n k z.0 z.1 in omega (arith, limit-small e)
prints-short W sheet (inl e) (accepted o w held found) = let b = text-short W sheet 512 7 o held found (omega (arith, held.store.fits.items, e)) (omega arith) in omega (arith, limit-large e)
prints-short W sheet (inr e) (accepted o w held found) = let b = text-short W sheet 128 6 o held found (omega (arith, held.store.fits.items, e)) (omega arith) in omega (arith, limit-small e)

-- and in a lent store
pub prints-in-short : (sheet s : List ℕ) {text : List ℕ} → PrintsIn sheet s text → length text ≤ text_limit (width_of s)
prints-in-short sheet s (wrong_size z) = some (width_two s)
  where
    some : (width_of s ≡ large) ⊎ (width_of s ≡ small) → length (refused_text 0 1) ≤ text_limit (width_of s)
    some (inl e) = let b = refused-short 0 1 (omega arith) (omega arith) in omega (arith, limit-large e)
    some (inr e) = let b = refused-short 0 1 (omega arith) (omega arith) in omega (arith, limit-small e)
prints-in-short sheet s (printed l p) = prints-short (width_of s) sheet (width_two s) p

-- so is the number of its bytes
pub pages-short : {sheet room exit : List ℕ} {r : ℕ} → Pages small sheet room exit r → r ≤ text_limit small
pages-short {sheet} p = omega (arith, p.wrote.next, prints-short small sheet (inr refl) p.prints)

pub pages-in-short : {sheet s t room exit : List ℕ} {r : ℕ} → PagesIn sheet s t room exit r → r ≤ text_limit (width_of s)
pages-in-short {sheet} {s} p = omega (arith, p.wrote.next, prints-in-short sheet s p.prints)
