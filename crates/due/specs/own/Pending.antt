-- The own records of what is still due along the fields of a line.
use Rattle.std.specs.Prelude.{◌≡◌, Option, Some, None, cond, List, [], ◌∷◌, ◌++◌, ℕ, ◌+◌, ◌≤◌, drop, replicate}
use Rattle.field.specs.declared.Due.{Due}
use Rattle.field.specs.declared.Due.TheVariants as due
use Rattle.due.specs.declared.Lead.{Lead}
use Rattle.due.specs.declared.Lead.TheVariants as lead
use Rattle.field.specs.declared.Operator.{Operator}
use Rattle.field.specs.declared.Operator.TheVariants as operator
use Rattle.due.specs.declared.Pending.{Pending}
use Rattle.field.specs.Due.{is_expr, wanted}

-- more than the fields of any line: below it the walk counts what is due
abbrev pub plenty : ℕ
plenty = 1000000

-- what the lead stands for
abbrev pub leading : Option Lead → List Due
leading None = []
leading (Some lead.RoleUse) = due.RoleUse ∷ []
leading (Some lead.AtLeast) = due.AtLeast ∷ due.RoleUse ∷ []
leading (Some lead.AtMost) = due.AtMost ∷ due.RoleUse ∷ []
leading (Some lead.Item) = due.Item ∷ []

-- a lead and m expressions before what else is due
abbrev pub before : Option Lead → ℕ → List Due → List Due
before d m ds = leading d ++ (replicate m due.Expr ++ ds)

-- what is still due
abbrev pub pending : List Due → Pending → List Due
pending l p = before p.lead p.exprs (drop p.own l)

-- what is due after a field with the word o, where the ds were due
abbrev pub Stepped : List Due → Option Operator → List Due → Type 0
Stepped [] o es = Unit {0}
Stepped (d ∷ ds) o es = es ≡ cond (is_expr d) (wanted o) [] ++ ds

-- what is still due after a word of an expression, where m expressions were due after that one
abbrev pub opening : Option Operator → ℕ → ℕ → Pending
opening (Some operator.And) m own = record { lead = None; exprs = m + 2; own = own }
opening (Some operator.Or) m own = record { lead = None; exprs = m + 2; own = own }
opening (Some operator.Not) m own = record { lead = None; exprs = m + 1; own = own }
opening (Some operator.Some) m own = record { lead = Some lead.RoleUse; exprs = m + 1; own = own }
opening (Some operator.All) m own = record { lead = Some lead.RoleUse; exprs = m + 1; own = own }
opening (Some operator.AtLeast) m own = record { lead = Some lead.AtLeast; exprs = m + 1; own = own }
opening (Some operator.AtMost) m own = record { lead = Some lead.AtMost; exprs = m + 1; own = own }
opening (Some operator.SelfOf) m own = record { lead = Some lead.RoleUse; exprs = m; own = own }
opening (Some operator.One) m own = record { lead = Some lead.Item; exprs = m; own = own }
opening (Some operator.Top) m own = record { lead = None; exprs = m; own = own }
opening (Some operator.Bot) m own = record { lead = None; exprs = m; own = own }
opening None m own = record { lead = None; exprs = m; own = own }

-- one field more, with the word o: what is still due after it, and bounds
pub record Step (l : List Due) (p : Pending) (o : Option Operator) (r : Pending) : Type 0 where
  pub due : Stepped (pending l p) o (pending l r)
  pub exprs : r.exprs ≤ p.exprs + 2
  pub own : r.own ≤ p.own + 1
