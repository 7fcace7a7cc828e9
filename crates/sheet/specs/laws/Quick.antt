-- Lines told to be statements with nothing wrong are taken where they are added; where none was told, a line without a fault is no statement. Assumes nothing.
use Rattle.std.specs.Prelude.{◌≡◌, refl, Bool, true, List, ℕ, drop}
use Rattle.std.proofs.Common.{sym}
use Rattle.text.specs.Split.{fields}
use Rattle.store.specs.declared.Statement.{Statement}
use Rattle.store.specs.Cell.{Within, cell_of}
use Rattle.line.specs.declared.Marks.{Marks}
use Rattle.line.specs.Fault.{begun, line_fault}
use Rattle.field.specs.own.Line.{Looked}
use Rattle.field.specs.own.Table.{Table, names_of}
use Rattle.sheet.specs.Said.{Said, line_said}
use Rattle.quick.specs.own.Quick.{Plainly}
use Rattle.sheet.specs.own.Stands.{Adding, Came, Comes, Stands, Takes, TakesOther}
use Rattle.quick.specs.laws.Quick.{named-within, right-plainly}
use Rattle.sheet.specs.laws.Stands.{stands-statement}
use Rattle.sheet.specs.laws.Taken.{statement-taken}
use Rattle.line.proofs.laws.Accepted.{right-short}

module _ {W : ℕ} {sheet : List ℕ} {t : Table} {m : Marks} {s : List ℕ} {start : ℕ} {line : List ℕ} {good : Bool} {ends : List ℕ} (c : Comes W sheet t m s start line good ends) where
  -- a line without a fault is to be taken
  pub comes-takes : line_fault (names_of sheet t) m line ≡ 0 → Takes W sheet t m s start line
  comes-takes z = record { said = c.said; stands = c.stands; right = z; is = c.is; inside = c.inside; short = c.short }

  -- and where no statement was found, it is none
  pub comes-other : line_fault (names_of sheet t) m line ≡ 0 → ((z : Statement) → ¬ Plainly (names_of sheet t) m line z) → TakesOther W t m s start line
  comes-other z q = record { sheet = sheet; takes = comes-takes z; other = λ w f. q _ (right-plainly (names_of sheet t) m line w z f) }

  -- and its fields were looked at
  pub comes-looked : line_fault (names_of sheet t) m line ≡ 0 → Looked line ends
  comes-looked z = c.looked (right-short (names_of sheet t) m line z)

  -- a statement with nothing wrong has its numbers below their counts, and is taken where it is added
  module _ (z : Statement) (p : Plainly (names_of sheet t) m line z) where
    pub plain-within : Within t.counts (cell_of z)
    plain-within = named-within c.stands.tidy p.stated.word p.stated.named.is p.stated.named

    pub plain-came : {s' : List ℕ} → Adding W (begun m) t.counts z s s' → Came W sheet t m s line 0 t (record { stated = true; rules = m.rules }) s'
    plain-came {s'} a = record { why = sym p.right; taken = λ e k x st. more k x st; left = λ q. absurd (q refl) }
      where
        more : (k : ℕ) (x : Said) → Stands W sheet t m s x → Stands W sheet t (record { stated = true; rules = m.rules }) s' (line_said k x line)
        more =
            statement-taken (comes-takes p.right) p.some _ (sym p.stated.form) p.stated.word refl
            (λ k x st. stands-statement st k p.stated.word (drop 1 (fields line)) a.begins (rw p.stated.named.is at a.keeps))
