-- Demand 3 holds of sheets, as their statements go through the store's promise. Assumes nothing.
use Rattle.std.specs.Prelude.{◌≡◌, refl, Bool, true, List, ℕ, suc, ◌≤◌, length}
use Rattle.std.proofs.Common.{sym, ap, ap₂, ◌∙◌, subst}
use Rattle.row.specs.Bit.{Words}
use Rattle.store.specs.declared.Counts.{Counts}
use Rattle.store.specs.Layout.{Holds, size}
use Rattle.closure.specs.laws.Demand3.{stated-move}
use Rattle.store.specs.Keeps.{Keeps}
use Rattle.store.specs.laws.Cells.{keeps-unique}
use Rattle.store.specs.laws.Keeps.{keeps-iff}
use Rattle.rule.specs.declared.Finding.{Finding}
use Rattle.sheet.specs.Reading.{Reading}
use Rattle.sheet.specs.Reading.{accepted_as}
use Rattle.line.specs.declared.Marks.{Marks}
use Rattle.sheet.specs.Demand3.{Rearranged, SameStatements, SheetDemand3, Sizes}
use Rattle.line.specs.Fault.{begun, sheet_limit}
use Rattle.field.specs.Names.{Names, counts_of}
use Rattle.sheet.specs.Promise.{FindingsFrom, FindingsIn, Held, Leaves, Reads, Stopped}
use Rattle.sheet.specs.Promise.Reads.{wrong_size, refused as refused_read, accepted as accepted_read}
use Rattle.sheet.specs.Said.{Outcome, Said, StatedIn, marks_of, outcome}
use Rattle.sheet.specs.Said.Outcome.{accepted, refused}
use Rattle.sheet.specs.laws.Order.{findings-same, rearranged, same-marks}
use Rattle.sheet.specs.laws.Pass.{not-both, said_of}
use Rattle.sheet.specs.laws.Unique.{from-unique}

-- what reading leaves is what the outcome leaves
reads-leaves : {W : ℕ} {sheet s t : List ℕ} {r : Reading} {o : Outcome} → Sizes W s → outcome W sheet ≡ o → Reads sheet s t r → Leaves W o s t
reads-leaves l e (wrong_size z q) = absurd (z (l.long ∙ sym (ap size l.width)))
reads-leaves {W} {s = s} {t = t} l e (refused_read {n = n} {k = k} {x = x} h i p) = subst (λ (o : Outcome). Leaves W o s t) (sym (rw l.width at i) ∙ e) (subst (λ (w : ℕ). Leaves w (refused n k x) s t) l.width p)
reads-leaves {W} {s = s} {t = t} l e (accepted_read h i p a) = subst (λ (o : Outcome). Leaves W o s t) (sym (rw l.width at i) ∙ e) (rw l.width at p)

held_same : {W : ℕ} (x y : Said) {t v : List ℕ} → Words 64 t → Words 64 v → counts_of x.names ≡ counts_of y.names → SameStatements x y → Held W x t → Held W y v → t ≡ v
held_same {W} x y {v = v} w u e same a b =
    keeps-unique w u a (keeps-iff (stated-move same.1) (stated-move same.0) (subst (λ (n : Counts). Keeps W n (StatedIn y) v) (sym e) b))

any_order : {W : ℕ} {sheet other s u t v : List ℕ} {x y : Said} {r q : Reading} → Words 64 t → Words 64 v → Sizes W s → Sizes W u → outcome W sheet ≡ accepted x → outcome W other ≡ accepted y
    → counts_of x.names ≡ counts_of y.names → SameStatements x y → Reads sheet s t r → Reads other u v q → t ≡ v
any_order {x = x} {y = y} w h l m e f c same r q = held_same x y w h c same (reads-leaves l e r) (reads-leaves m f q)

-- where a statement or a rule was accepted, the store holds what follows
unchanged : {W : ℕ} {sheet s t : List ℕ} {x : Said} {r : Reading} {line k : ℕ} → Sizes W s → outcome W sheet ≡ refused (suc line) k x → begun (marks_of x) ≡ true → Reads sheet s t r → Held W x t
unchanged {W} {t = t} {x = x} l e b r = subst (λ (z : Bool). Stopped W z x t) b (reads-leaves l e r)

-- the store and the findings of an accepted sheet, and its answer
reads-found : {W : ℕ} {sheet s t : List ℕ} {x : Said} {r : Reading} → Sizes W s → outcome W sheet ≡ accepted x → Reads sheet s t r
    → (fs : List Finding) × Held W x t × FindingsIn W x t fs × (r ≡ accepted_as (counts_of x.names) (length x.rules) (length fs))
reads-found l e (wrong_size z q) = absurd (z (l.long ∙ sym (ap size l.width)))
reads-found l e (refused_read h i p) = absurd (not-both (sym (rw l.width at i) ∙ e))
reads-found {W} {t = t} l e (accepted_read {x = y} {fs = fs} h i p a) =
    subst (λ (z : Said). (gs : List Finding) × Held W z t × FindingsIn W z t gs × (accepted_as (counts_of y.names) (length y.rules) (length fs) ≡ accepted_as (counts_of z.names) (length z.rules) (length gs))) (ap said_of (sym (rw l.width at i) ∙ e))
    (fs, rw l.width at p, rw l.width at a, refl)

-- statement lines in another order, or said again, leave the same store and give the same answer
rearranged-reads : {W : ℕ} {sheet other s u t v : List ℕ} {x : Said} {r q : Reading} → Words 64 t → Words 64 v → Sizes W s → Sizes W u → Rearranged sheet other
    → length other ≤ sheet_limit → outcome W sheet ≡ accepted x → Reads sheet s t r → Reads other u v q → (t ≡ v) × (r ≡ q)
rearranged-reads {W} {t = t} {v = v} {x = x} w h l m a b e r q =
    let z = rearranged W a b e in
    let y = z.0 in
    let same = z.2 in
    let f = reads-found l e r in
    let g = reads-found m z.1 q in
    let store : t ≡ v = held_same x y w h (ap counts_of same.names) same.statements f.1 g.1 in
    let ruled = findings-same y.rules x.rules (sym same.rules) g.2 in
    let named = subst (λ (n : Names). FindingsFrom (Holds W (counts_of n) v) (counts_of n) 0 x.rules g.0) (sym same.names) ruled in
    let found : f.0 ≡ g.0 = from-unique f.2 (subst (λ (c : List ℕ). FindingsIn W x c g.0) (sym store) named) in (
      store,
      f.3
          ∙ ap₂ {C = Reading} (λ (n : Names) (fs : List Finding). accepted_as (counts_of n) (length x.rules) (length fs)) same.names found
          ∙ ap (λ (k : Marks). accepted_as (counts_of y.names) k.rules (length g.0)) (same-marks x y same)
          ∙ sym g.3,
    )

-- it holds for stores of either size
pub sheet-demand-3 : (W : ℕ) → SheetDemand3 W
sheet-demand-3 W = record { holds = λ l e r. reads-leaves l e r; any_order = any_order; rearranged = rearranged W; rearranged-reads = rearranged-reads; unchanged = unchanged }
