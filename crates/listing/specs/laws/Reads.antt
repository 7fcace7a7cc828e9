-- From what the writer does to the promise of reading a sheet with a list; and any two allowed outcomes are equal. Assumes nothing.
use Rattle.std.specs.Prelude.{◌≡◌, List, ◌++◌, ℕ, length, take, drop}
use Rattle.std.proofs.Common.{sym, ap, ◌∙◌, subst, arith}
use Rattle.row.specs.Bit.{Words}
use Rattle.rule.specs.declared.Finding.{Finding}
use Rattle.judge.specs.Promise.{filled}
use Rattle.sheet.specs.Reading.{Reading}
use Rattle.sheet.specs.Promise.{Reads}
use Rattle.sheet.specs.Promise.Reads.{accepted as accepted_read}
use Rattle.sheet.specs.laws.Pass.{said_of}
use Rattle.sheet.specs.laws.Unique.{found-unique, reads-unique}
use Rattle.field.specs.own.Table.{table_of}
use Rattle.trail.specs.declared.Opening.{Opening}
use Rattle.trail.specs.own.Trail.{Begins, Opens, Went}
use Rattle.trail.specs.own.Trail.Begins.{refused as not-begun, accepted as begun}
use Rattle.trail.specs.laws.Opens.{is_refused}
use Rattle.trail.specs.laws.Trail.{went-first}
use Rattle.listing.specs.own.Listing.{Written}
use Rattle.listing.specs.Promise.{ReadsInto}
use Rattle.listing.specs.Promise.ReadsInto.{refused, accepted}
use Rattle.listing.specs.laws.Written.{written-first, written_none}

-- the writer's work is the reading
pub reads-by : {sheet s t numbers : List ℕ} {before after : List Finding} {p : Opening} → Opens sheet s t numbers (length before) p → Written (Went sheet (table_of numbers p.counts) t p.trail) p.write before after
    → ReadsInto sheet s t before after p.answer
reads-by {sheet} {s} {t} {numbers} {before} {after} {p} a w = go a.begins
  where
    go : Begins sheet s t numbers (length before) p → ReadsInto sheet s t before after p.answer
    go (not-begun r e z) = subst (λ (q : Reading). ReadsInto sheet s t before after q) (sym e) (refused r (written_none z w))
    go (begun {fs = fs} l o h f e z c) =
        subst (λ (q : Reading). ReadsInto sheet s t before after q) (sym e)
        (accepted l o h f (written-first fs (λ ms g m i. went-first m c i) (omega (arith, z)) w ∙ ap (λ (i : ℕ). take i fs ++ drop i before) z))

-- reading with a list reads the sheet as reading without one does
pub into-reads : {sheet s t : List ℕ} {before after : List Finding} {r : Reading} → ReadsInto sheet s t before after r → Reads sheet s t r
into-reads (refused r e) = r
into-reads (accepted l o h f e) = accepted_read l o h f

-- the list afterwards
into-list : {sheet s t u : List ℕ} {before after other : List Finding} {r q : Reading} → Words 64 t → Words 64 u → r ≡ q → ReadsInto sheet s t before after r → ReadsInto sheet s u before other q → after ≡ other
into-list v w z (refused r e) (refused q f) = e ∙ sym f
into-list v w z (refused r e) (accepted l o h g f) = absurd (omega (arith, ap is_refused z))
into-list v w z (accepted l o h g f) (refused r e) = absurd (omega (arith, ap is_refused z))
into-list {before = before} v w z (accepted l o h g e) (accepted k i p m f) =
    e ∙ ap (λ (fs : List Finding). filled fs before) (found-unique (ap said_of (sym i ∙ o)) v w h p g m).1 ∙ sym f

-- one answer, one store and one list afterwards
pub into-unique : {sheet s t u : List ℕ} {before after other : List Finding} {r q : Reading} → Words 64 t → Words 64 u → ReadsInto sheet s t before after r → ReadsInto sheet s u before other q
    → (t ≡ u) × (after ≡ other) × (r ≡ q)
into-unique v w a b = let z = reads-unique v w (into-reads a) (into-reads b) in (z.0, into-list v w z.1 a b, z.1)
