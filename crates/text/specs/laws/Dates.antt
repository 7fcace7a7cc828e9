-- Dates: document 01's examples, the ends of the months, and that every date was one in document 01 too. Assumes nothing.
use Rattle.std.specs.Prelude.{◌≡◌, refl, Bool, true, false, cond, List, [], ◌∷◌, map, ℕ, ◌≤◌, ◌<◌, leb, ltb, eqb, length, get_or}
use Rattle.std.proofs.Common.{sym, ◌∙◌, arith, le-leb, leb-true, lt-ltb}
use Prim.Native.String.{String}
use Rattle.std.proofs.lemmas.Bool.{lt-leb}
use Rattle.std.proofs.Math.ListN.{get_or-eq_default}
use Rattle.text.specs.Bytes.{between, bytes, every, lower, same, place}
use Rattle.text.specs.Split.{split}
use Rattle.text.specs.Date.{date_shaped, dated, days, days_in, digit, month, two_digits}
use Rattle.text.specs.laws.Choice.{cond_both, cond-true, le-cases}
use Rattle.text.specs.laws.Bytes.{between-bounds, every-at}

-- 3-Mar, 03-MAR are date-shaped; MAR-03, 32-Mar, 0-Mar, 003-Mar are not
pub dates : (date_shaped (bytes "3-Mar") ≡ true) × (date_shaped (bytes "03-MAR") ≡ true) × (date_shaped (bytes "MAR-03") ≡ false)
    × (date_shaped (bytes "32-Mar") ≡ false) × (date_shaped (bytes "0-Mar") ≡ false) × (date_shaped (bytes "003-Mar") ≡ false)
unfolding date_shaped dated days_in digit two_digits lower same place split
dates = (refl, refl, refl, refl, refl, refl)

-- which of some texts are date-shaped
abbrev shaped : List String → List Bool
shaped = map (λ s. date_shaped (bytes s))

-- the last day of each month is a date, and the day after it is none: 30-FEB is a name
pub last-days : (shaped ("31-jan" ∷ "29-FEB" ∷ "31-Mar" ∷ "30-apr" ∷ "31-MAY" ∷ "30-Jun" ∷ "31-jul" ∷ "31-AUG" ∷ "30-Sep" ∷ "31-oct" ∷ "30-NOV" ∷ "31-Dec" ∷ [])
    ≡ (true ∷ true ∷ true ∷ true ∷ true ∷ true ∷ true ∷ true ∷ true ∷ true ∷ true ∷ true ∷ []))
    × (shaped ("32-jan" ∷ "30-FEB" ∷ "32-Mar" ∷ "31-apr" ∷ "32-MAY" ∷ "31-Jun" ∷ "32-jul" ∷ "32-AUG" ∷ "31-Sep" ∷ "32-oct" ∷ "31-NOV" ∷ "32-Dec" ∷ [])
    ≡ (false ∷ false ∷ false ∷ false ∷ false ∷ false ∷ false ∷ false ∷ false ∷ false ∷ false ∷ false ∷ []))
unfolding date_shaped dated days_in digit two_digits lower same place split
last-days = (refl, refl)

-- past the last month there are no days
pub no-days : (m : ℕ) → 12 ≤ m → 0 ≡ days_in m
unfolding days_in
no-days m h = sym (get_or-eq_default days 0 {n = m} h)

-- no month has more than 31 days
few-days : (m : ℕ) → days_in m ≤ 31
unfolding days_in every
few-days m = leb-true (days_in m) 31 (every-at (λ x. leb x 31) days m refl refl)

-- a day past the 31st is no date
pub day-past : (day hyphen m : ℕ) → 31 < day → false ≡ dated day hyphen m
unfolding dated
day-past day hyphen m h =
    cond_both (λ (x : Bool). false ≡ x) (eqb hyphen 45)
    (cond_both (λ (x : Bool). false ≡ x) (leb 1 day) (sym (lt-leb day (days_in m) (omega (arith, h, few-days m)))) refl)
    refl

-- ---- every date was one in document 01

-- a day's value, a hyphen and a month's place as document 01 had them: 31 days in every month
abbrev pub dated_before : ℕ → ℕ → ℕ → Bool
dated_before day hyphen m = cond (between 1 day 31) (cond (eqb hyphen 45) (ltb m 12) false) false

-- date-shaped, by any test of the day's value, the hyphen and the month's place
abbrev pub shaped_by : (ℕ → ℕ → ℕ → Bool) → List ℕ → Bool
shaped_by test s =
    cond (eqb (length s) 5) (test (digit (get_or s 0 0)) (get_or s 1 0) (month (get_or s 2 0) (get_or s 3 0) (get_or s 4 0)))
    (cond (eqb (length s) 6) (test (two_digits (get_or s 0 0) (get_or s 1 0)) (get_or s 2 0) (month (get_or s 3 0) (get_or s 4 0) (get_or s 5 0)))
    false)

-- by the test of today it is what is date-shaped today
pub shaped-now : (s : List ℕ) → shaped_by dated s ≡ date_shaped s
unfolding date_shaped
shaped-now s = refl

-- what makes a date made one in document 01
dated-before : (day hyphen m : ℕ) → dated day hyphen m ≡ true → dated_before day hyphen m ≡ true
unfolding dated
dated-before day hyphen m e =
    let (h, b) = cond-true (eqb hyphen 45) (between 1 day (days_in m)) e in
    let (low, high) = between-bounds 1 day (days_in m) b in
    let place : m < 12 = le-cases 12 m (λ past. absurd (omega (arith, low, high, no-days m past))) (λ before. before) in
    rw (le-leb 1 day low, le-leb day 31 (omega (arith, high, few-days m)), h, lt-ltb m 12 place)

-- what is date-shaped was so in document 01
shaped-before : (s : List ℕ) → date_shaped s ≡ true → shaped_by dated_before s ≡ true
unfolding date_shaped
shaped-before s = go (eqb (length s) 5) (eqb (length s) 6) (dated-before _ _ _) (dated-before _ _ _)
  where
    go : (five six : Bool) {a b c d : Bool} → (a ≡ true → c ≡ true) → (b ≡ true → d ≡ true)
        → cond five a (cond six b false) ≡ true → cond five c (cond six d false) ≡ true
    go true six f g e = f e
    go false true f g e = g e
    go false false f g e = e

-- what was no date in document 01 is none
pub no-date-before : (s : List ℕ) → shaped_by dated_before s ≡ false → date_shaped s ≡ false
no-date-before s = go (date_shaped s) (shaped-before s)
  where
    go : (now : Bool) {before : Bool} → (now ≡ true → before ≡ true) → before ≡ false → now ≡ false
    go true f e = sym (f refl) ∙ e
    go false f e = refl
