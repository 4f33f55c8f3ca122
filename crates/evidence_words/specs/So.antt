-- When what the sentences about a cone or a bound say is so of a plan.
use Rattle.std.specs.Prelude.{◌≡◌, ℕ, Bool, true, false, List, [], ◌∷◌}
use Rattle.rail_base.specs.declared.station.Station.{Station}
use Rattle.rail_base.specs.declared.station.TrainNo.{TrainNo}
use Rattle.rail_base.specs.declared.route.Route.{Route}
use Rattle.rail_base.specs.declared.route.RouteNo.{RouteNo}
use Rattle.rail_base.specs.declared.plan.Command.{Command}
use Rattle.rail_base.specs.Members.{In}
use Rattle.rail_spec.specs.Plans.{contend}
use Rattle.rail_spec.specs.Track.{routes_of}
use Rattle.bound_spec.specs.declared.Bound.{Bound}
use Rattle.bound_spec.specs.declared.Evidence.{Evidence}
use Rattle.bound_spec.specs.declared.Evidence.TheVariants as evidence
use Rattle.bound_spec.specs.declared.Leg.{Leg}
use Rattle.bound_spec.specs.declared.Place.{Place}
use Rattle.bound_spec.specs.declared.Place.TheVariants as place
use Rattle.bound_spec.specs.Certificates.{routes_of_place, first_of_leg, last_of_leg, visit_from, cone_of}
use Rattle.bound_spec.specs.Clauses.{begins_at_once, meet_named}
use Rattle.bound_spec.specs.Validity.{is_valid_bound}
use Rattle.cone_spec.specs.Validity.{is_valid_cone}
use Rattle.rail_laws.specs.Plans.{EachFeasible}
use Rattle.cone_words.specs.So.{ConeIsSo, GoesBefore, IsGiven, of_train}

-- the train takes the named route, or does not use those that are kept out
abbrev pub Takes : List (List Command) → TrainNo → Place → Type 0
Takes plan t (place.Named r) = IsGiven plan (of_train t r)
Takes plan t (place.Among rs without) = (r : RouteNo) → In r without → IsGiven plan (of_train t r) → ⊥

-- a leg's first command waits for the last of the leg before: it goes behind it, or where it may be another one, not before it
abbrev pub WaitsFor : List (List Command) → Leg → Leg → Type 0
WaitsFor plan l m = (r q : RouteNo) → In r (routes_of_place (last_of_leg l)) → In q (routes_of_place (first_of_leg m))
    → (meet_named l m ≡ true → GoesBefore plan (of_train l.train r) (of_train m.train q))
    × (meet_named l m ≡ false → GoesBefore plan (of_train m.train q) (of_train l.train r) → ⊥)

-- it is so of each two that stand next to each other
abbrev pub EachNext : {X : Type 0} → (X → X → Type 0) → List X → Type 0
EachNext Is [] = Unit {0}
EachNext Is (x ∷ []) = Unit {0}
EachNext Is (x ∷ y ∷ more) = Is x y × EachNext Is (y ∷ more)

-- what the sentences about a bound say: each train takes the places of its leg; each leg waits for the one before; where the visit from
-- which ticks are counted is made in the first tick, no command goes before the one with which its train begins and shares a section
-- with it; and what is said of the cone of an origin
pub record BoundIsSo (d : Station) (routes : List Route) (b : Bound) (plan : List (List Command)) : Type 0 where
  pub takes : (l : Leg) → In l b.legs → (p : Place) → In p l.places → Takes plan l.train p
  pub waits : EachNext (WaitsFor plan) b.legs
  pub begins : (c : Command) → begins_at_once d routes b b.origin (visit_from d b.requirement) c ≡ true → (e : Command)
      → contend routes e c ≡ true → GoesBefore plan e c → ⊥
  pub cone : ConeIsSo routes (cone_of b) plan

-- of a cone or a bound
abbrev pub EvidenceIsSo : Station → Evidence → List (List Command) → Type 0
EvidenceIsSo d (evidence.Cone k) plan = ConeIsSo (routes_of d) k plan
EvidenceIsSo d (evidence.Bound b) plan = BoundIsSo d (routes_of d) b plan

-- it is valid
abbrev pub is_valid : Station → Evidence → Bool
is_valid d (evidence.Cone k) = is_valid_cone d (routes_of d) k
is_valid d (evidence.Bound b) = is_valid_bound d (routes_of d) b

-- of nothing valid it is so of the plan
abbrev pub NothingIsSo : Station → ℕ → List (List Command) → Type 0
NothingIsSo d n plan = (e : Evidence) → is_valid d e ≡ true → EvidenceIsSo d e plan → ⊥

-- a plan of which all that the sentences about a valid cone or bound say is so is not feasible
abbrev pub SentencesDeny : Type 0
SentencesDeny = EachFeasible NothingIsSo
