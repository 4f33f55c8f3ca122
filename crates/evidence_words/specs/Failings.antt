-- What fails by a cone or a bound, and by how much.
use Rattle.std.specs.Prelude.{ℕ, ◌-◌, List, ◌++◌, codes, decimal, Option, None, Some}
use Rattle.rail_base.specs.declared.plan.Violation.{Violation}
use Rattle.rail_base.specs.declared.plan.Violation.TheVariants as violation
use Rattle.rail_base.specs.declared.route.Route.{Route}
use Rattle.rail_base.specs.declared.station.Station.{Station}
use Rattle.rail_base.specs.declared.station.TrainNo.{TrainNo}
use Rattle.rail_base.specs.Names.{train_name}
use Rattle.rail_base.specs.Stations.{within_of}
use Rattle.rail_spec.specs.Requirements.{most_ticks}
use Rattle.bound_spec.specs.declared.Bound.{Bound}
use Rattle.bound_spec.specs.declared.Evidence.{Evidence}
use Rattle.bound_spec.specs.declared.Evidence.TheVariants as evidence
use Rattle.bound_spec.specs.declared.Requirement.{Requirement}
use Rattle.bound_spec.specs.declared.Requirement.TheVariants as requirement
use Rattle.cone_words.specs.Routes.{route_text}
use Rattle.evidence_words.specs.Bounds.{end_tick, origin_tick}
use Rattle.evidence_words.specs.declared.failing.Failing.{Failing}

-- what fails by a line, and by how many ticks, where that is known
pub record FailingSeen : Type 0 where
  pub name : List ℕ
  pub shortfall : Option ℕ

abbrev pub seen : Failing → FailingSeen
seen f = record { name = f.name.items; shortfall = f.shortfall }

-- `visit 2 of A`
abbrev pub visit_name : Station → TrainNo → ℕ → List ℕ
visit_name d t k = codes "visit " ++ decimal k ++ codes " of " ++ train_name d t

-- `within 2`
abbrev pub within_name : ℕ → List ℕ
within_name w = codes "within " ++ decimal w

-- `order 1`
abbrev pub order_name : ℕ → List ℕ
order_name o = codes "order " ++ decimal o

-- what fails by a cone
abbrev pub violation_name : Station → Violation → List ℕ
violation_name d (violation.Path t k) = visit_name d t k
violation_name d (violation.Within w) = within_name w
violation_name d (violation.Order o) = order_name o
violation_name d (violation.Grant t j) = codes "command " ++ decimal j ++ codes " of " ++ train_name d t
violation_name d (violation.Visit t k) = visit_name d t k

module _ (d : Station) (routes : List Route) where
  -- what fails by a bound
  abbrev pub requirement_name : Requirement → List ℕ
  requirement_name (requirement.Within w) = within_name w
  requirement_name (requirement.Order o) = order_name o
  requirement_name (requirement.Visit t k) = visit_name d t k
  requirement_name (requirement.Grant c) =
      codes "route " ++ route_text d routes c.route ++ codes " of " ++ train_name d c.train

  -- of a bound of a within: how many ticks its legs take more than the within allows
  abbrev pub shortfall_of : Bound → Requirement → Option ℕ
  shortfall_of b (requirement.Within w) =
      Some (end_tick d routes b - origin_tick b.origin - most_ticks d (within_of d w))
  shortfall_of b (requirement.Order o) = None
  shortfall_of b (requirement.Visit t k) = None
  shortfall_of b (requirement.Grant c) = None

  -- of a cone or a bound
  abbrev pub failing_of : Evidence → FailingSeen
  failing_of (evidence.Cone k) = record { name = violation_name d k.violation; shortfall = None }
  failing_of (evidence.Bound b) = record {
    name = requirement_name b.requirement;
    shortfall = shortfall_of b b.requirement;
  }
