-- Laws of a question for a finding. Assumes nothing.
use Rattle.std.specs.Prelude.{◌≡◌, refl, Bool, true, false, Option, Some, None, List, [], ◌∷◌, ◌++◌, map, ℕ, suc, ◌+◌, ◌<◌, length, get_or}
use Rattle.std.proofs.Common.{sym, ap, ◌∙◌, subst, true≢false, arith, length-append}
use Rattle.std.proofs.Math.Decide.{dec_lt}
use Rattle.store.specs.declared.Counts.{Counts}
use Rattle.text.specs.Bytes.{bytes, same}
use Rattle.text.specs.own.Split.{parts_from}
use Rattle.reader.specs.own.Field.{field_from, past_field}
use Rattle.text.specs.Split.{fields}
use Rattle.text.specs.Text.{decimal}
use Rattle.text.specs.laws.Bytes.{same-all, same_true}
use Rattle.text.specs.laws.Split.{parts_all}
use Rattle.reader.specs.laws.Field.{fields-next, fields-none}
use Rattle.sheet.specs.declared.RuleLine.{RuleLine}
use Rattle.field.specs.Names.{Names}
use Rattle.field.specs.Words.{at, Field}
use Rattle.stated.specs.Stated.{item_of}
use Rattle.sheet.specs.Said.{Said, SheetRule, line_of, outcome}
use Rattle.sheet.specs.Said.Outcome.{accepted}
use Rattle.field.specs.own.Table.{Table, names_of}
use Rattle.sheet.specs.own.Pass.{found_rule}
use Rattle.sheet.specs.laws.Count.{Turn, turn-rules}
use Rattle.finding.specs.declared.Sides.{Sides}
use Rattle.finding.specs.Finding.{BrokenSub}
use Rattle.finding.specs.own.Sides.{BrokenIf}
use Rattle.answer.specs.declared.FindingAsked.{FindingAsked}
use Rattle.answer.specs.own.Asked.{BreakingIf, BrokenIn, FindingIf, FindingIn, SidesIf}
use Rattle.question.specs.laws.Asked.{first_field}
use Rattle.question.specs.Question.{about_finding}

-- the fields of a line that has three
three-fields : (q : List ℕ) → length (fields q) ≡ 3 → fields q ≡ field_from q 0 ∷ field_from q (past_field q 0) ∷ field_from q (past_field q (past_field q 0)) ∷ []
three-fields q e = sym (parts_all 9 q) ∙ go
  where
    parts : ℕ → List Field
    parts at = parts_from 9 q at

    -- where parts are left there is a next one
    next : (at n : ℕ) → length (parts at) ≡ suc n → parts at ≡ field_from q at ∷ parts (past_field q at)
    next at n l = by (dec_lt (length q) at)
      where
        by : Dec (length q < at) → parts at ≡ field_from q at ∷ parts (past_field q at)
        by (yes h) = absurd (omega (arith, l, ap length (fields-none q at h)))
        by (no h) = fields-next q at (omega arith)

    fewer : (at n : ℕ) → length (parts at) ≡ suc n → length (parts (past_field q at)) ≡ n
    fewer at n l = omega (arith, l, ap length (next at n l))

    none : (fs : List Field) → length fs ≡ 0 → fs ≡ []
    none [] l = refl
    none (f ∷ fs) l = absurd (omega arith)

    go : parts 0 ≡ field_from q 0 ∷ field_from q (past_field q 0) ∷ field_from q (past_field q (past_field q 0)) ∷ []
    go =
        let a : length (parts 0) ≡ 3 = ap length (parts_all 9 q) ∙ e in
        let b = fewer 0 2 a in
        let c = fewer (past_field q 0) 1 b in
        let d = fewer (past_field q (past_field q 0)) 0 c in
        next 0 2 a ∙ ap (◌∷◌ (field_from q 0)) (next (past_field q 0) 1 b ∙ ap (◌∷◌ (field_from q (past_field q 0))) (next (past_field q (past_field q 0)) 0 c ∙ ap (◌∷◌ (field_from q (past_field q (past_field q 0)))) (none _ d)))

-- the field with the number of a line, and the field with a name
abbrev pub line_field : List ℕ → Field
line_field q = field_from q (past_field q 0)

abbrev pub name_field : List ℕ → Field
name_field q = field_from q (past_field q (past_field q 0))

-- the finding of the item a, by the names of the rule's sides
abbrev pub asked_by : ℕ → Option Sides → Option FindingAsked
asked_by a (Some t) = Some (record { item = a; left = t.left; right = t.right })
asked_by a None = None

module _ (W : ℕ) (n : Counts) (x : Said) (s q : List ℕ) where
  -- a line that has not three fields asks for no finding
  pub finding-short : (length (fields q) ≡ 3 → ⊥) → FindingIf W n x s q None
  finding-short l = λ a c d z. l (ap length z.asks.is)

  -- a line that has asks for the finding of the rule and the item that it names
  module _ (names : Names) (about : about_finding q ≡ true) (l : length (fields q) ≡ 3) (same_names : x.names ≡ names) where
    first-is : field_from q 0 ≡ bytes "finding"
    unfolding about_finding
    first-is = same_true _ _ (ap (λ (h : Field). same h (bytes "finding")) (first_field q) ∙ about)

    fields-are : fields q ≡ bytes "finding" ∷ line_field q ∷ name_field q ∷ []
    fields-are = three-fields q l ∙ ap (λ (h : Field). h ∷ line_field q ∷ name_field q ∷ []) first-is

    second_is : {h i : Field} → fields q ≡ bytes "finding" ∷ h ∷ i ∷ [] → (line_field q ≡ h) × (name_field q ≡ i)
    second_is e = let z = sym fields-are ∙ e in (ap (λ (fs : List Field). at 1 fs) z, ap (λ (fs : List Field). at 2 fs) z)

    found-so : {a c d : ℕ} → a ≡ (item_of names (name_field q)).0 → BrokenIn W n x s (line_field q) a c d → FindingIn W n x s q a c d
    found-so e z =
        record {
          rule = z.rule;
          asks = record { name = name_field q; is = fields-are ∙ ap (λ (h : Field). bytes "finding" ∷ h ∷ name_field q ∷ []) (same_true _ _ z.line); item = e ∙ ap (λ (m : Names). (item_of m (name_field q)).0) (sym same_names) };
          broken = z.broken;
        }

    found-not : {a c d : ℕ} → a ≡ (item_of names (name_field q)).0 → (z : FindingIn W n x s q a c d) → BrokenIn W n x s (line_field q) (item_of names (name_field q)).0 c d
    found-not {c = c} {d = d} e z =
        let w = second_is z.asks.is in
        record {
          rule = z.rule;
          line = ap (λ (h : Field). same h (decimal (line_of x z.rule))) w.0 ∙ same-all (decimal (line_of x z.rule)) _ refl (λ i h. refl);
          broken = subst (λ (i : ℕ). BrokenSub W n x s z.rule i c d) e z.broken;
        }

    pub finding-some : (t : Sides) (a : ℕ) → a ≡ (item_of names (name_field q)).0 → SidesIf W n x s (line_field q) a (Some t) → FindingIf W n x s q (Some (record { item = a; left = t.left; right = t.right }))
    finding-some t a e w = found-so e w

    pub finding-no : (a : ℕ) → a ≡ (item_of names (name_field q)).0 → SidesIf W n x s (line_field q) a None → FindingIf W n x s q None
    finding-no a e w =
        λ i c d v.
        let u = second_is v.asks.is in
        let h : i ≡ (item_of names (name_field q)).0 = v.asks.item ∙ ap (λ (m : Names). (item_of m v.asks.name).0) same_names ∙ ap (λ (l : Field). (item_of names l).0) (sym u.1) in
        w c d (subst (λ (j : ℕ). BrokenIn W n x s (line_field q) j c d) (sym e) (found-not h v))

    pub finding-sides : (t : Option Sides) (a : ℕ) → a ≡ (item_of names (name_field q)).0 → SidesIf W n x s (line_field q) a t → FindingIf W n x s q (asked_by a t)
    finding-sides (Some t) a e z = finding-some t a e z
    finding-sides None a e z = finding-no a e z

-- ---- the rules of the sheet, one after the other

-- none of the first m rules is in the line that f says and broken by the item a
pub record NoneYet (W : ℕ) (n : Counts) (x : Said) (s : List ℕ) (f : Field) (a m : ℕ) : Type 0 where
  pub none : (k c d : ℕ) → k < m → same f (decimal (line_of x k)) ≡ true → ¬ (BrokenSub W n x s k a c d)

-- the line of the rule after those done
rule-line : (x : Said) (done rest : List SheetRule) (l : SheetRule) (k : ℕ) → x.rules ≡ done ++ l ∷ rest → k ≡ length done → line_of x k ≡ l.line
rule-line x done rest l k e h = ap (λ (rs : List SheetRule). get_or (map (λ (r : SheetRule). r.line) rs) k 0) e ∙ ap (λ (i : ℕ). get_or (map (λ (r : SheetRule). r.line) (done ++ l ∷ rest)) i 0) h ∙ at-end done
  where
    at-end : (ls : List SheetRule) → get_or (map (λ (r : SheetRule). r.line) (ls ++ l ∷ rest)) (length ls) 0 ≡ l.line
    at-end [] = refl
    at-end (i ∷ ls) = at-end ls

module _ (W : ℕ) (n : Counts) (x : Said) (s : List ℕ) (f : Field) (a : ℕ) where
  pub none-start : NoneYet W n x s f a 0
  none-start = record { none = λ k c d h. absurd (omega arith) }

  -- no rule is left
  pub none-all : NoneYet W n x s f a (length x.rules) → (c d : ℕ) → ¬ (BrokenIn W n x s f a c d)
  none-all z c d w =
      let t = w.broken.there in
      z.none w.rule c d (omega (arith, t.place, ap length t.is, length-append t.before (record { line = t.line; rule = w.broken.rule } ∷ t.after))) w.line w.broken

  module _ {sheet : List ℕ} {t : Table} {m line : ℕ} {on : Bool} (is : line_of x m ≡ line) (said : on ≡ same f (decimal line)) (U : ℕ) (o : outcome U sheet ≡ accepted x) (e : x.names ≡ names_of sheet t) (counts : n ≡ t.counts) where
    broken-if : (r : Option Sides) → BreakingIf W on sheet t s m a r → on ≡ true → BrokenIf W n x s m a r
    broken-if r z h = subst (λ (i : Counts). BrokenIf W i x s m a r) (sym counts) (z.breaking h U x o e)

    -- one rule more that is not
    none_more : BreakingIf W on sheet t s m a None → NoneYet W n x s f a m → NoneYet W n x s f a (m + 1)
    none_more z w = record { none = none }
      where
        none : (k c d : ℕ) → k < m + 1 → same f (decimal (line_of x k)) ≡ true → ¬ (BrokenSub W n x s k a c d)
        none k c d l b = by (dec_lt k m)
          where
            by : Dec (k < m) → ¬ (BrokenSub W n x s k a c d)
            by (yes g) = w.none k c d g b
            by (no g) =
                let i : k ≡ m = omega arith in
                let y : on ≡ true = said ∙ ap (λ (j : ℕ). same f (decimal j)) (sym is ∙ ap (line_of x) (sym i)) ∙ b in
                subst (λ (j : ℕ). ¬ (BrokenSub W n x s j a c d)) (sym i) (broken-if None z y c d)

    -- a rule that is
    some-broken : (r : Sides) → BreakingIf W on sheet t s m a (Some r) → BrokenIn W n x s f a r.left r.right
    some-broken r z = by on refl
      where
        by : (b : Bool) → on ≡ b → BrokenIn W n x s f a r.left r.right
        by true y = record { rule = m; line = ap (λ (j : ℕ). same f (decimal j)) is ∙ sym said ∙ y; broken = broken-if (Some r) z y }
        by false y = let h = z.none y in absurd (cc)

-- one rule more that is not, in its turn
pub none-turn : (W U : ℕ) {sheet : List ℕ} {t : Table} {x : Said} {s : List ℕ} {f : Field} {a n : ℕ} {p : Option RuleLine} {q : RuleLine} {on : Bool} (w : Turn sheet t x (λ (done : List SheetRule). NoneYet W t.counts x s f a (length done)) p n)
    → p ≡ Some q → on ≡ same f (decimal q.line) → outcome U sheet ≡ accepted x → x.names ≡ names_of sheet t → BreakingIf W on sheet t s n a None
    → NoneYet W t.counts x s f a (length (w.done ++ found_rule q ∷ []))
none-turn W U {t = t} {x = x} {s = s} {f = f} {a = a} {n = n} {q = q} w found said o e z =
    let y = turn-rules w q found in
    let l : n + 1 ≡ length (w.done ++ found_rule q ∷ []) = omega (arith, w.number, length-append w.done (found_rule q ∷ [])) in
    subst (λ (k : ℕ). NoneYet W t.counts x s f a k) l
    (none_more W t.counts x s f a (rule-line x w.done y.0 (found_rule q) n y.1 w.number) said U o e refl z (subst (λ (k : ℕ). NoneYet W t.counts x s f a k) (sym w.number) w.holds))

-- a rule that is, in its turn
pub some_turn : (W U : ℕ) {sheet : List ℕ} {t : Table} {x : Said} {s : List ℕ} {f : Field} {a n : ℕ} {p : Option RuleLine} {q : RuleLine} {on : Bool} (r : Sides) (w : Turn sheet t x (λ (done : List SheetRule). NoneYet W t.counts x s f a (length done)) p n)
    → p ≡ Some q → on ≡ same f (decimal q.line) → outcome U sheet ≡ accepted x → x.names ≡ names_of sheet t → BreakingIf W on sheet t s n a (Some r)
    → BrokenIn W t.counts x s f a r.left r.right
some_turn W U {t = t} {x = x} {s = s} {f = f} {a = a} {n = n} {q = q} r w found said o e z =
    let y = turn-rules w q found in
    some-broken W t.counts x s f a (rule-line x w.done y.0 (found_rule q) n y.1 w.number) said U o e refl r z
