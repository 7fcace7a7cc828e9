-- The reason for a cell: statement lines of a sheet from which it follows, and from no part of them with a line taken out.
use Rattle.std.specs.Prelude.{List}
use Rattle.store.specs.declared.Counts.{Counts}
use Rattle.store.specs.Cell.{Cell, Follows}
use Rattle.closure.specs.Lines.{Stated}
use Rattle.sheet.specs.Said.{SheetStatement, statements_of}
use Rattle.reason.specs.Part.{Minimal}

-- the cell c follows from these lines, over so many declared names
abbrev pub FollowsFrom : Counts → Cell → List SheetStatement → Type 0
FollowsFrom n c lines = Follows n (Stated (statements_of lines)) c

-- these lines, a part of all, are a reason for the cell c
abbrev pub Reason : Counts → Cell → List SheetStatement → List SheetStatement → Type 0
Reason n c all lines = Minimal (FollowsFrom n c) all lines
