-- The base of an interlocking, for as many steps as it has.
use Rattle.std.proofs.Common.{ℕ, sym, subst}
use Rattle.clause_spec.specs.declared.question.BaseKind.TheVariants.{Plain}
use Rattle.interlocking.specs.declared.railway.Interlocking.{Interlocking}
use Rattle.plan_encoding.specs.Bases.{IsBaseOf}
use Rattle.plan_encoding.specs.declared.numbering.Base.{Base}

pub base_of : (i : Interlocking) (n : ℕ) (b : Base) → IsBaseOf Plain i.design.station i.routes n b
    → IsBaseOf Plain i.design.station i.routes b.numbering.steps b
base_of i n b is = subst (λ (steps : ℕ). IsBaseOf Plain i.design.station i.routes steps b) (sym is.numbering.steps) is
