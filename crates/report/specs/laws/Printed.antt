-- From the rules that are judged one after the other to the printed text of the sheet. Assumes nothing.
use Rattle.std.specs.Prelude.{◌≡◌, refl, List, [], ◌∷◌, ◌++◌, map, ℕ, ◌+◌, ◌-◌, length, get_or, take}
use Rattle.std.proofs.Common.{sym, ap, ap₂, ◌∙◌, subst, arith, length-append}
use Rattle.row.specs.Bit.{Words}
use Rattle.text.specs.Text.{Wrote}
use Rattle.text.specs.laws.Text.{wrote_none, wrote_then}
use Rattle.field.specs.Names.{counts_of}
use Rattle.sheet.specs.Promise.{Held, Prints, findings_text, print_limit, total_text}
use Rattle.sheet.specs.Promise.FindingsFrom.{none}
use Rattle.sheet.specs.Promise.Prints.{accepted}
use Rattle.sheet.specs.Said.{Said, SheetRule, line_of, outcome}
use Rattle.sheet.specs.Said.Outcome.{accepted as accepted_sheet}
use Rattle.printed.specs.declared.Tally.{Tally}
use Rattle.printed.specs.own.Lines.{Tallied, lines_text}
use Rattle.report.specs.own.Pages.{Printed}
use Rattle.sheet.specs.laws.Count.{findings-snoc}
use Rattle.printed.specs.laws.Lines.{findings-more, rule-lines}

-- the line of the rule after the others
line_at : (done rest : List SheetRule) (r : SheetRule) → get_or (map (λ (q : SheetRule). q.line) (done ++ r ∷ rest)) (length done) 0 ≡ r.line
line_at [] rest r = refl
line_at (q ∷ done) rest r = line_at done rest r

-- no rule is judged yet
pub printed-start : (W : ℕ) (x : Said) (t room : List ℕ) (at : ℕ) → Printed W x t [] room at room (record { at = at; left = print_limit; total = 0 })
unfolding findings_text
printed-start W x t room at = record { list = []; findings = none; wrote = wrote_none room at; left = refl; total = refl }

-- one rule more is judged
pub printed-more : {W : ℕ} {x : Said} {t : List ℕ} {done : List SheetRule} {room mid exit : List ℕ} {at : ℕ} {b r : Tally} (q : SheetRule) (rest : List SheetRule) → x.rules ≡ done ++ q ∷ rest → Printed W x t done room at mid b
    → Tallied W t (counts_of x.names) (length done) q.rule x.names q.line mid b exit r → Printed W x t (done ++ q ∷ []) room at exit r
printed-more {W} {x} {t} {done} {room} {mid} {exit} {at} {b} {r} q rest e w z = record {
  list = w.list ++ z.list;
  findings = findings-snoc q w.findings z.findings (omega arith);
  wrote = subst (λ (u : List ℕ). Wrote room at u exit r.at) (sym text) (wrote_then w.wrote z.wrote);
  left = omega (arith, w.left, z.left, long);
  total = omega (arith, w.total, z.total, long);
}
  where
    long : length (w.list ++ z.list) ≡ length w.list + length z.list
    long = length-append w.list z.list

    line : line_of x (length done) ≡ q.line
    line = ap (λ (rs : List SheetRule). get_or (map (λ (p : SheetRule). p.line) rs) (length done) 0) e ∙ line_at done rest q

    here : findings_text x (take (print_limit - length w.list) z.list) ≡ lines_text x.names q.line (take b.left z.list)
    here =
        rule-lines x (print_limit - length w.list) z.findings
        ∙ ap₂ {C = List ℕ} (λ i k. lines_text x.names i (take k z.list)) line (sym w.left)

    text : findings_text x (take print_limit (w.list ++ z.list)) ≡ findings_text x (take print_limit w.list) ++ lines_text x.names q.line (take b.left z.list)
    text = findings-more x print_limit w.list z.list ∙ ap (λ (u : List ℕ). findings_text x (take print_limit w.list) ++ u) here

-- all rules are judged and the total is written: that is what is printed of the sheet
pub printed-all : {W : ℕ} {sheet : List ℕ} {x : Said} {t room mid exit : List ℕ} {b : Tally} {at r : ℕ} → outcome W sheet ≡ accepted_sheet x → Words 64 t → Held W x t → Printed W x t x.rules room at mid b
    → Wrote mid b.at (total_text b.total) exit r → (text : List ℕ) × Prints W sheet text × Wrote room at text exit r
printed-all {W} {sheet} {x} {t} {room} {mid} {exit} {b} {at} {r} o words held w z = (
  findings_text x (take print_limit w.list) ++ total_text (length w.list),
  accepted o words held w.findings,
  wrote_then w.wrote (subst (λ (m : ℕ). Wrote mid b.at (total_text m) exit r) w.total z),
)
