-- Bounds by orders alone: which commands are not given before which others, whatever else a plan has.
use Rattle.std.specs.Prelude.{ℕ, ◌-◌, Bool, not, ◌&&◌, is_ok, List, [], ◌∷◌, filter, flat_map, length, map}
use Rattle.std.specs.List.{list_any}
use Rattle.bound_spec.specs.declared.Bound.{Bound}
use Rattle.bound_spec.specs.declared.Evidence.{Evidence}
use Rattle.bound_spec.specs.declared.Evidence.TheVariants as evidence
use Rattle.bound_spec.specs.declared.Leg.{Leg}
use Rattle.bound_spec.specs.declared.Origin.TheVariants as origin
use Rattle.bound_spec.specs.declared.Place.TheVariants as place
use Rattle.bound_spec.specs.declared.Requirement.TheVariants as requirement
use Rattle.bound_spec.specs.Validity.{can_visit}
use Rattle.clause_spec.specs.declared.question.BaseKind.{BaseKind}
use Rattle.clause_spec.specs.declared.question.BaseKind.TheVariants.{Plain, Sorted, Normal, Live}
use Rattle.live_clause_spec.specs.Live.{is_live}
use Rattle.live_clause_spec.specs.Variables.{live_pairs}
use Rattle.proof_judge.specs.Judged.{refuted}
use Rattle.rail_base.specs.declared.plan.Command.{Command}
use Rattle.rail_base.specs.declared.route.Route.{Route}
use Rattle.rail_base.specs.declared.station.Station.{Station}
use Rattle.rail_base.specs.declared.station.TrainNo.{TrainNo}
use Rattle.rail_base.specs.Numbering.{one_to}
use Rattle.rail_base.specs.Stations.{order_of}
use Rattle.rail_spec.specs.Plans.{is_train}
use Rattle.rail_spec.specs.Track.{routes_of}

-- a leg of one route
abbrev pub leg_of : Command → Leg
leg_of c = record { train = c.train; places = place.Named c.route ∷ [] }

-- that the first command is not given before the second, by the order of this number
abbrev pub bound_by : ℕ → Command × Command → Bound
bound_by o p =
    record { requirement = requirement.Order o; origin = origin.Visit; legs = leg_of p.0 ∷ leg_of p.1 ∷ [] }

module _ (d : Station) (routes : List Route) where
  -- with the command its train can make the visit
  abbrev pub makes : TrainNo → ℕ → Command → Bool
  makes t k c = is_train t c.train && can_visit d routes t k c.route

  -- with the first command the later visit of the order can be made, and with the second the earlier one
  abbrev pub makes_both : ℕ → Command × Command → Bool
  makes_both o p =
      let x = order_of d o in makes x.then_train x.then_visit p.0 && makes x.first_train x.first_visit p.1

module _ (kind : BaseKind) (d : Station) (n : ℕ) where
  -- the order says so: the bound is valid, and its clause is one of the base
  abbrev pub says : ℕ → Command × Command → Bool
  says o p = makes_both d (routes_of d) o p && is_ok (refuted kind d n (evidence.Bound (bound_by o p)))

  -- and no order before it does
  abbrev pub says_first : ℕ → Command × Command → Bool
  says_first o p = says o p && not (list_any (λ q. says q p) (one_to (o - 1)))

  -- what an order says of these pairs
  abbrev pub said_of : ℕ → List (Command × Command) → List Evidence
  said_of o ps = map (λ p. evidence.Bound (bound_by o p)) (filter (says_first o) ps)

  -- what it says of the pairs of live commands that contend
  abbrev pub said_by : ℕ → List Evidence
  said_by o = said_of o (live_pairs (is_live d (routes_of d)) d (routes_of d))

-- the bounds with which a search begins: over live commands, what each order says
abbrev pub orders_first : BaseKind → Station → ℕ → List Evidence
orders_first (Live turns) d n = flat_map (said_by (Live turns) d n) (one_to (length d.orders))
orders_first Plain d n = []
orders_first Sorted d n = []
orders_first Normal d n = []
