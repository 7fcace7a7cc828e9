-- Laws of the written list. Assumes nothing.
use Rattle.std.specs.Prelude.{◌≡◌, refl, List, [], ◌∷◌, ◌++◌, ℕ, suc, ◌≤◌, ◌<◌, length, set, take, drop}
use Rattle.std.proofs.Common.{sym, ap, ◌∙◌, arith, length-append, length-drop, drop-cons}
use Rattle.std.proofs.Math.Seq.{append_snoc}
use Rattle.std.proofs.lemmas.List.{set_at}
use Rattle.rule.specs.declared.Finding.{Finding}
use Rattle.judge.specs.laws.Search.{met-more}
use Rattle.listing.specs.own.Listing.{WroteTo, Written}

module _ {C : Type 0} {Met : List Finding → C → Type 0} where
  -- nothing is written yet
  pub wrote-start : {first : C} {l : List Finding} → Met [] first → WroteTo Met l 0 first l
  wrote-start s = record { found = []; met = s; count = refl; list = refl }

  -- one more finding is written
  pub wrote-more : {l : List Finding} {i : ℕ} {c d : C} {m : List Finding} {f : Finding} → i < length l → WroteTo Met l i c m → ((fs : List Finding) → Met fs c → Met (fs ++ f ∷ []) d)
      → WroteTo Met l (suc i) d (set m i f)
  wrote-more {l = l} {i = i} {f = f} h w t = record {
    found = w.found ++ f ∷ [];
    met = t w.found w.met;
    count = met-more w.found f ∙ ap suc w.count;
    list = ap (λ (m : List Finding). set m i f) (w.list ∙ ap (λ (r : List Finding). w.found ++ r) (drop-cons l i f h))
        ∙ set_at w.found _ (drop (suc i) l) f i w.count ∙ sym (append_snoc w.found f (drop (suc i) l));
  }

  -- the list stays as long as it was
  pub wrote-length : {l : List Finding} {n : ℕ} {d : C} {m : List Finding} → n ≤ length l → WroteTo Met l n d m → length m ≡ length l
  wrote-length {l = l} {n = n} h w = omega (arith, ap length w.list, length-append w.found (drop n l), length-drop n l, w.count)

  -- where none was to be written, the list is as it was
  pub written_none : {l m : List Finding} {n : ℕ} → n ≡ 0 → Written Met n l m → m ≡ l
  written_none {l} {m} {n} z w = w.wrote.list ∙ go w.wrote.found (w.wrote.count ∙ z)
    where
      go : (ms : List Finding) → length ms ≡ 0 → ms ++ drop n l ≡ l
      go [] q = ap (λ (i : ℕ). drop i l) z
      go (g ∷ ms) q = absurd (omega arith)

  -- where the findings met are the first of all, the list begins with the first n and goes on as it was
  pub written-first : {l m : List Finding} {n : ℕ} (fs : List Finding) → ((ms : List Finding) (d : C) → Met ms d → length ms ≤ length fs → take (length ms) fs ≡ ms) → n ≤ length fs → Written Met n l m
      → m ≡ take n fs ++ drop n l
  written-first {l} {m} {n} fs t h w =
      let few : length w.wrote.found ≤ length fs = omega (arith, w.wrote.count) in
      let first-ones : take n fs ≡ w.wrote.found = ap (λ (i : ℕ). take i fs) (sym w.wrote.count) ∙ t w.wrote.found w.last w.wrote.met few in
      w.wrote.list ∙ ap (λ (ms : List Finding). ms ++ drop n l) (sym first-ones)
