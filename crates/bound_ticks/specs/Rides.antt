-- The ticks of a ride and of a chain of legs, by what they have.
use Rattle.std.specs.Prelude.{ℕ, Bool, List, Option}
use Rattle.rail_base.specs.declared.route.RouteNo.{RouteNo}
use Rattle.rail_course.specs.Tracks.{routes_at}
use Rattle.interlocking.specs.Plans.{on}
use Rattle.bound_spec.specs.declared.Leg.{Leg}
use Rattle.bound_spec.specs.Validity.{are_ahead, is_too_long}
use Rattle.leg_targets.specs.declared.targets.Visit.{Visit}
use Rattle.leg_targets.specs.Visits.{origin_of, visit_of}
use Rattle.bound_ticks.specs.declared.ahead.Between.{Between}
use Rattle.bound_ticks.specs.declared.chain.Chain.{Chain}
use Rattle.bound_ticks.specs.declared.claim.Claim.{Claim}
use Rattle.bound_ticks.specs.declared.legs.Ride.{Ride}
use Rattle.bound_ticks.specs.Chains.{chain_of, end_ticks, leg_to_release, leg_to_visit, ticks_on, to_release, to_visit}
use Rattle.bound_ticks.specs.Claims.{cone_shows_of, passes_of, shows_by, ticks_between_of, ticks_of}
use Rattle.bound_spec.specs.declared.Origin.{Origin}

module _ (r : Ride) where
  -- over all its walks, to a visit
  abbrev pub ride_to_visit : Visit → ℕ
  ride_to_visit visit = on r.interlocking.now leg_to_visit r.most (origin_of r.from) r.leg.now (visit_of visit)

  -- to where they release what these routes wait for
  abbrev pub ride_to_release : List RouteNo → ℕ
  ride_to_release next = on r.interlocking.now leg_to_release r.most (origin_of r.from) r.leg.now next

  -- on one walk, to a place
  abbrev pub walk_to_place : List RouteNo → ℕ → ℕ
  walk_to_place walk place = let i = r.interlocking.now in
      on i ticks_on r.most (origin_of r.from) r.leg.now.train (routes_at i.routes walk) place

  -- to a visit
  abbrev pub walk_to_visit : List RouteNo → Visit → ℕ
  walk_to_visit walk visit = let i = r.interlocking.now in
      on i to_visit r.most (origin_of r.from) r.leg.now.train (visit_of visit) (routes_at i.routes walk)

  -- to where it releases what these routes wait for
  abbrev pub walk_to_release : List RouteNo → List RouteNo → ℕ
  walk_to_release walk next = let i = r.interlocking.now in
      on i to_release r.most (origin_of r.from) r.leg.now.train next (routes_at i.routes walk)

module _ (c : Chain) where
  -- the ticks of the chain's legs, from a visit or from the first grant
  abbrev pub legs_ticks : Option Visit → List Leg → ℕ
  legs_ticks from legs = on c.interlocking.now chain_of c.most (origin_of from) (origin_of c.to) legs

  -- those of its last leg
  abbrev pub last_ticks : Option Visit → Leg → ℕ
  last_ticks from leg = on c.interlocking.now end_ticks c.most (origin_of from) (origin_of c.to) leg

-- the first visit is made before the place to which the first leg leads
abbrev pub is_between : Between → List Leg → Bool
is_between b legs = on b.interlocking.now are_ahead (visit_of b.from) (visit_of b.to) legs

module _ (c : Claim) where
  -- so many ticks are too many for what is required
  abbrev pub takes_too_long : ℕ → Bool
  takes_too_long ticks = on c.interlocking.now is_too_long c.bound.now.requirement ticks

  -- the ticks of the claim's legs to a visit
  abbrev pub ticks_until : Option Visit → ℕ
  ticks_until to = ticks_of c.interlocking.now c.most c.bound.now (origin_of to)

  -- from one visit to another
  abbrev pub ticks_from_to : Visit → Visit → ℕ
  ticks_from_to from to =
      ticks_between_of c.interlocking.now c.most c.bound.now (visit_of from) (visit_of to)

  -- these are too many
  abbrev pub passes_from_to : Visit → Visit → Bool
  passes_from_to from to = passes_of c.interlocking.now c.most c.bound.now (visit_of from) (visit_of to)

  -- its cone makes the visit at this tick
  abbrev pub cone_makes : ℕ → Visit → Bool
  cone_makes tick from = cone_shows_of c.interlocking.now c.bound.now tick (visit_of from)

  -- by an origin the ticks are too many
  abbrev pub fails_by : Origin → Bool
  fails_by o = shows_by c.interlocking.now c.bound.now o
