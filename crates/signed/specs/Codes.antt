-- The numbers of the C face: the answers to questions as signed numbers.
use Rattle.std.specs.Prelude.{ℕ, ◌+◌, ◌*◌, ◌<◌, ℤ, pos, neg_ℤ}
use Rattle.store.specs.Layout.{concept_limit}
use Rattle.why.specs.Explained.{Explained}
use Rattle.std.specs.Prelude.{Ok, Err}
use Rattle.finding.specs.Explained.{FindingExplained}

-- a refusal as a signed number: 100 times its line, and its number, which is below 100
abbrev pub refusal_code : ℕ → ℕ → ℤ
refusal_code line k = neg_ℤ (pos (100 * line + k))

-- the number of lines, or a refusal
abbrev pub explained_code : Explained → ℤ
explained_code (Ok m) = pos m
explained_code (Err r) = refusal_code r.line r.why

-- a million times the concept that is absent, and the number of lines, which is below a million; or a refusal
abbrev pub finding_code : FindingExplained → ℤ
finding_code (Ok e) = pos (1000000 * e.absent.0 + e.lines)
finding_code (Err r) = refusal_code r.line r.why

-- an answer whose parts can be told from one number, as those of every answer can: `saltreeve: laws/Bounds`
abbrev pub SmallExplained : Explained → Type 0
SmallExplained (Ok m) = m < 1000000
SmallExplained (Err r) = (r.line < 1000000) × (r.why < 100)

-- the same for a finding
abbrev pub SmallFinding : FindingExplained → Type 0
SmallFinding (Ok e) = (e.lines < 1000000) × (e.absent.0 < concept_limit)
SmallFinding (Err r) = (r.line < 1000000) × (r.why < 100)
