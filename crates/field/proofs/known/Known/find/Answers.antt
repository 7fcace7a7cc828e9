-- `field::known::Known::find` meets its contract. Assumes nothing.
use Rattle.std.proofs.Common.{◌≡◌, ℕ, ◌+◌, ◌-◌, map, get_or, take, drop, sym, ap, ◌∙◌, arith}
use Rattle.text.specs.Bytes.{place}
use Rattle.field.specs.own.Table.{name_at}
use Rattle.field.specs.laws.Table.{entered-length, hinted, unhinted}
use Rattle.field.proofs.known.Known.find.Goals as goal

pub returns-then-h-eq0 : goal.returns-then-h-eq0
returns-then-h-eq0 c = let s = c.args.self.now in
    let x = c.args in
    let p = c.requires in
    unhinted s.sheet.now s.numbers.now x.from x.n x.w.now p.2 p.4 (ap (λ (i : ℕ). get_or s.numbers.now i 0) (sym c.hint_at.ensures.0) ∙ c.if-h-eq0.true)

pub returns-then-entry_is : goal.returns-then-entry_is
returns-then-entry_is c = let s = c.args.self.now in
    let x = c.args in
    let p = c.requires in
    hinted s.sheet.now s.numbers.now x.from x.n p.2 x.w.now _ (omega (arith, c.if-h-eq0.false, c.if-h-n.true)) p.3 (sym c.entry_is.ensures ∙ c.if-entry_is.true)

pub returns : goal.returns
returns c = let s = c.args.self.now in
    let x = c.args in
    let p = c.requires in
    let e : x.from + x.n - x.from ≡ x.n = omega arith in
    record { place = c.place_in.ensures ∙ ap (λ (k : ℕ). place x.w.now (map (name_at s.sheet.now) (take k (drop x.from s.numbers.now)))) e; count = entered-length s.sheet.now s.numbers.now x.from x.n p.2 }
