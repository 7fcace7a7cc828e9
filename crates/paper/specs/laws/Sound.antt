-- What follows holds in every model. Assumes nothing.
use Rattle.std.specs.Prelude.{refl, Bool, true, false, ℕ}
use Rattle.std.proofs.Common.{sym, ◌∙◌, subst, subst₂}
use Rattle.store.specs.declared.Counts.{Counts}
use Rattle.store.specs.Cell.{Cell, Follows, Obeys, turn}
use Rattle.store.specs.Cell.Cell.{RoleUnder}
use Rattle.store.specs.laws.Least.{least}
use Rattle.paper.specs.Interpretation.{Interpretation, Condition, Satisfies, Model}

-- two role steps one after the other
steps : (I : Interpretation) (r s t : ℕ) (u v : Bool) → Condition I (RoleUnder r u s) → Condition I (RoleUnder s v t) → Condition I (RoleUnder r (turn u v) t)
steps I r s t false false f g = λ d e x. g d e (f d e x)
steps I r s t false true f g = λ d e x. g d e (f d e x)
steps I r s t true false f g = λ d e x. g e d (f d e x)
steps I r s t true true f g = λ d e x. g e d (f d e x)

-- what an interpretation satisfies obeys the rules
pub satisfies-obeys : (n : Counts) (I : Interpretation) → Obeys n (Satisfies n I)
satisfies-obeys n I = record {
  same_refl = λ h. record { within = (h, h); condition = refl };
  same-sym = λ x. record { within = (x.within.1, x.within.0); condition = sym x.condition };
  same-trans = λ x y. record { within = (x.within.0, y.within.1); condition = x.condition ∙ y.condition };
  under-refl = λ h. record { within = (h, h); condition = λ d z. z };
  under-trans = λ x y. record { within = (x.within.0, y.within.1); condition = λ d z. y.condition d (x.condition d z) };
  role-refl = λ h. record { within = (h, h); condition = λ d e z. z };
  role-trans = λ {r} {s} {t} {u} {v} x y. record { within = (x.within.0, y.within.1); condition = steps I r s t u v x.condition y.condition };
  in-under = λ {a} x y. record { within = (x.within.0, y.within.1); condition = y.condition (I.item a) x.condition };
  in-same = λ {a} {b} {c} x y. record { within = (x.within.1, y.within.1); condition = subst (I.concept c) x.condition y.condition };
  link-under = λ {r} {s} {a} {b} x y. record { within = (y.within.1, x.within.1, x.within.2); condition = y.condition (I.item a) (I.item b) x.condition };
  link-inverse = λ {r} {s} {a} {b} x y. record { within = (y.within.1, x.within.2, x.within.1); condition = y.condition (I.item a) (I.item b) x.condition };
  link-same = λ {r} x y z. record { within = (z.within.0, x.within.1, y.within.1); condition = subst₂ (I.role r) x.condition y.condition z.condition };
}

-- what follows from the statements is satisfied by each of their models
pub follows-satisfied : {n : Counts} {G : Cell → Type 0} {c : Cell} {I : Interpretation} → Model n G I → Follows n G c → Satisfies n I c
follows-satisfied {n} {I = I} m f = least (satisfies-obeys n I) m.satisfies f
