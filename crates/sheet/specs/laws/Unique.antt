-- Any two allowed outcomes of reading a sheet are equal, and so are any two texts. Assumes nothing.
use Rattle.std.specs.Prelude.{◌≡◌, refl, Bool, true, false, List, ◌++◌, ℕ, zero, suc, length, take}
use Rattle.std.proofs.Common.{sym, ap, ap₂, ◌∙◌, subst}
use Rattle.row.specs.Bit.{Words}
use Rattle.store.specs.declared.Counts.{Counts}
use Rattle.store.specs.Cell.{Cell}
use Rattle.store.specs.laws.Cells.{keeps-unique}
use Rattle.rule.specs.declared.Finding.{Finding}
use Rattle.rule.specs.laws.Findings.{findings-unique}
use Rattle.sheet.specs.Reading.{Reading}
use Rattle.sheet.specs.Reading.{accepted_as, refused_as}
use Rattle.line.specs.Fault.{begun}
use Rattle.field.specs.Names.{counts_of}
use Rattle.store.specs.Layout.{width_of}
use Rattle.sheet.specs.Promise.{FindingsFrom, FindingsIn, Held, Leaves, Prints, Reads, Stopped, findings_text, print_limit, refused_text, total_text}
use Rattle.sheet.specs.Promise.FindingsFrom.{none, more}
use Rattle.sheet.specs.Promise.Prints.{refused as refused_print, accepted as accepted_print}
use Rattle.sheet.specs.Promise.Reads.{wrong_size, refused as refused_read, accepted as accepted_read}
use Rattle.sheet.specs.Said.{Outcome, Said, SheetRule, marks_of}
use Rattle.sheet.specs.Said.Outcome.{accepted, refused}
use Rattle.sheet.specs.laws.Pass.{not-both, said_of}

-- the findings of rules
pub from-unique : {C : Cell → Type 0} {n : Counts} {k : ℕ} {rs : List SheetRule} {fs gs : List Finding} → FindingsFrom C n k rs fs → FindingsFrom C n k rs gs → fs ≡ gs
from-unique none none = refl
from-unique (more a b) (more c d) = ap₂ (λ (x y : List Finding). x ++ y) (findings-unique a c) (from-unique b d)

-- what is left in the store
stopped-unique : (W : ℕ) (b : Bool) (x : Said) {t u : List ℕ} → Words 64 t → Words 64 u → Stopped W b x t → Stopped W b x u → t ≡ u
stopped-unique W false x v w p q = p ∙ sym q
stopped-unique W true x v w p q = keeps-unique v w p q

pub leaves-unique : (W : ℕ) (o : Outcome) (s : List ℕ) {t u : List ℕ} → Words 64 t → Words 64 u → Leaves W o s t → Leaves W o s u → t ≡ u
leaves-unique W (refused zero k x) s v w p q = p ∙ sym q
leaves-unique W (refused (suc n) k x) s v w p q = stopped-unique W (begun (marks_of x)) x v w p q
leaves-unique W (accepted x) s v w p q = keeps-unique v w p q

abbrev line_in : Outcome → ℕ
line_in (refused n k x) = n
line_in (accepted x) = 0

abbrev number_in : Outcome → ℕ
number_in (refused n k x) = k
number_in (accepted x) = 0

-- an accepted sheet has one store, and one list of findings
pub found-unique : {W : ℕ} {x y : Said} {t u : List ℕ} {fs gs : List Finding} → y ≡ x → Words 64 t → Words 64 u → Held W x t → Held W y u → FindingsIn W x t fs → FindingsIn W y u gs → (t ≡ u) × (fs ≡ gs)
found-unique {W} {x} {y} {t} {u} {fs} {gs} e v w p q a b =
    let same : t ≡ u = keeps-unique v w p (subst (λ (z : Said). Held W z u) e q) in
    (same, from-unique a (subst (λ (z : List ℕ). FindingsIn W x z gs) (sym same) (subst (λ (z : Said). FindingsIn W z u gs) e b)))

-- reading a sheet: one answer, and one store afterwards
pub reads-unique : {sheet s t u : List ℕ} {r q : Reading} → Words 64 t → Words 64 u → Reads sheet s t r → Reads sheet s u q → (t ≡ u) × (r ≡ q)
reads-unique v w (wrong_size z e) (wrong_size y f) = (e ∙ sym f, refl)
reads-unique v w (wrong_size z e) (refused_read l o p) = absurd (z l)
reads-unique v w (wrong_size z e) (accepted_read l o p a) = absurd (z l)
reads-unique v w (refused_read l o p) (wrong_size z e) = absurd (z l)
reads-unique {s = s} {u = u} v w (refused_read {n = n} {k = k} {x = x} l o p) (refused_read {n = m} {k = j} {x = y} h i q) =
    let same : refused n k x ≡ refused m j y = sym o ∙ i in
    (leaves-unique (width_of s) (refused n k x) s v w p (subst (λ (z : Outcome). Leaves (width_of s) z s u) (sym same) q), ap₂ refused_as (ap line_in same) (ap number_in same))
reads-unique v w (refused_read l o p) (accepted_read h i q a) = absurd (not-both (sym o ∙ i))
reads-unique v w (accepted_read l o p a) (wrong_size z e) = absurd (z l)
reads-unique v w (accepted_read l o p a) (refused_read h i q) = absurd (not-both (sym i ∙ o))
reads-unique v w (accepted_read {x = x} {fs = fs} l o p a) (accepted_read {x = y} {fs = gs} h i q b) =
    let same : y ≡ x = ap said_of (sym i ∙ o) in
    let z = found-unique same v w p q a b in
    (z.0, ap₂ {C = Reading} (λ (d : Said) (hs : List Finding). accepted_as (counts_of d.names) (length d.rules) (length hs)) (sym same) z.1)

-- one text is printed
pub prints-unique : {W : ℕ} {sheet text other : List ℕ} → Prints W sheet text → Prints W sheet other → text ≡ other
prints-unique (refused_print {n = n} {k = k} {x = x} o) (refused_print {n = m} {k = j} {x = y} i) =
    let same : refused n k x ≡ refused m j y = sym o ∙ i in
    ap₂ refused_text (ap line_in same) (ap number_in same)
prints-unique (refused_print o) (accepted_print i w q b) = absurd (not-both (sym o ∙ i))
prints-unique (accepted_print o v p a) (refused_print i) = absurd (not-both (sym i ∙ o))
prints-unique (accepted_print o v p a) (accepted_print i w q b) =
    let same = ap said_of (sym i ∙ o) in
    ap₂ {C = List ℕ} (λ (d : Said) (hs : List Finding). findings_text d (take print_limit hs) ++ total_text (length hs)) (sym same) (found-unique same v w p q a b).1
