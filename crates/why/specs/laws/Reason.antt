-- What follows grows with the lines it follows from. Assumes nothing.
use Rattle.std.specs.Prelude.{◌≡◌, ◌⊎◌, List, [], ◌∷◌}
use Rattle.std.proofs.Common.{sym, subst, inl, inr}
use Rattle.logic.specs.Number.{One}
use Rattle.logic.specs.Number.One.{first, later}
use Rattle.logic.specs.laws.Number.{one-cases}
use Rattle.store.specs.declared.Counts.{Counts}
use Rattle.store.specs.declared.Statement.{Statement}
use Rattle.store.specs.Cell.{Cell, Follows}
use Rattle.store.specs.Cell.Follows.{given}
use Rattle.closure.specs.Lines.{Stated}
use Rattle.closure.specs.Lines.Stated.{stated}
use Rattle.store.specs.laws.Least.{follows-all}
use Rattle.sheet.specs.Said.{SheetStatement, statements_of}
use Rattle.reason.specs.own.Grows.{Grows}
use Rattle.why.specs.Reason.{FollowsFrom}

-- what follows from some cells follows from more
pub follows-more : {n : Counts} {G H : Cell → Type 0} {c : Cell} → ((d : Cell) → G d → H d) → Follows n G c → Follows n H c
follows-more f x = follows-all (λ d g. given (f d g)) x

-- a line's statement is one of the statements, and each of those has a line
line-statement : {l : SheetStatement} {ls : List SheetStatement} → One l ls → One l.statement (statements_of ls)
line-statement first = first
line-statement (later o) = later (line-statement o)

statement-line : {s : Statement} (ls : List SheetStatement) → One s (statements_of ls) → (l : SheetStatement) × One l ls × (l.statement ≡ s)
statement-line {s = s} [] o = elim o [ ]
statement-line {s} (k ∷ ls) o = by (one-cases o) (λ p. statement-line ls p)
  where
    by : (s ≡ k.statement) ⊎ One s (statements_of ls) → (One s (statements_of ls) → (l : SheetStatement) × One l ls × (l.statement ≡ s)) → (l : SheetStatement) × One l (k ∷ ls) × (l.statement ≡ s)
    by (inl e) f = (k, first, sym e)
    by (inr p) f = let z = f p in (z.0, later z.1, z.2)

stated-lines : {xs ys : List SheetStatement} → ((l : SheetStatement) → One l xs → One l ys) → (c : Cell) → Stated (statements_of xs) c → Stated (statements_of ys) c
stated-lines {xs} {ys} f c (stated {x = s} o) =
    let z = statement-line xs o in
    stated (subst (λ (u : Statement). One u (statements_of ys)) z.2 (line-statement (f z.0 z.1)))

-- more lines, never fewer cells
pub follows-grows : (n : Counts) (c : Cell) → Grows (FollowsFrom n c)
follows-grows n c xs ys f e = follows-more (stated-lines f) e
