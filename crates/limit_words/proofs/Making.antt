-- Clauses that are made and counted.
use Rattle.std.proofs.Common.{◌≡◌, ℕ, List, subst, arith}
use Rattle.base_spec.specs.Bases.{clauses_of}
use Rattle.clause_spec.specs.declared.question.BaseKind.{BaseKind}
use Rattle.plan_encoding.specs.Bases.{IsBaseOf, IsRefused}
use Rattle.plan_encoding.specs.declared.numbering.Base.{Base}
use Rattle.plan_encoding.specs.declared.sink.BaseFault.{BaseFault}
use Rattle.plan_encoding.specs.declared.sink.BaseFault.TheVariants.{TooLarge}
use Rattle.rail_base.specs.declared.route.Route.{Route}
use Rattle.rail_base.specs.declared.station.Station.{Station}
use Rattle.limit_words.specs.Counts.{Exceeds}
use Rattle.limit_words.specs.Counted.{IsFewCount}
use Rattle.limit_words.proofs.Few.{not_past, past}

module _ (kind : BaseKind) (d : Station) (routes : List Route) (n : ℕ) where
  pub counted : (b : Base) → IsBaseOf kind d routes n b → IsFewCount kind d routes n b.literals
  counted b is = record { few = not_past 16000000 (clauses_of kind d routes n) is.few; is = is.literals }

  pub too_many : (k : ℕ) (f : BaseFault) → f ≡ TooLarge k → IsRefused kind d routes n f → Exceeds kind d routes n
  too_many k f is refused = let more = past 16000000 0 k (clauses_of kind d routes n) (subst (IsRefused kind d routes n) is refused) in omega arith
