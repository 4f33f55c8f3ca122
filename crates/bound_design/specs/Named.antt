-- What a certificate names, held against an interlocking.
use Rattle.std.specs.Prelude.{ℕ, Bool, not, ◌&&◌, ◌*◌, List, [], ◌∷◌, length, nat_le, Option, None, Some}
use Rattle.std.specs.List.{list_all}
use Rattle.rail_base.specs.declared.station.TrainNo.{TrainNo}
use Rattle.rail_base.specs.declared.plan.Command.{Command}
use Rattle.rail_base.specs.Members.{all_neighbors}
use Rattle.rail_spec.specs.Plans.{is_train}
use Rattle.interlocking.specs.declared.railway.Interlocking.{Interlocking}
use Rattle.bound_spec.specs.declared.Requirement.{Requirement}
use Rattle.bound_spec.specs.declared.Place.{Place}
use Rattle.bound_spec.specs.declared.Leg.{Leg}
use Rattle.bound_spec.specs.declared.Bound.{Bound}
use Rattle.bound_spec.specs.Certificates.{VisitOf, routes_of_place, first_of_leg, train_to, visit_from}
use Rattle.bound_spec.specs.Validity.{are_few_choices, choices, contend_over_own, contend_where_they_meet}
use Rattle.bound_spec.specs.Validity.{contends_with, is_empty, last_leg, leg_in_design, most_choices, most_places}
use Rattle.bound_spec.specs.Validity.{origin_in_design, place_in_design, places_of, requirement_in_design}

-- there are not too many choices on a leg, with those of the first place of the next leg, if there is one
abbrev pub few_choices_before : Leg → List Leg → Bool
few_choices_before l [] = nat_le (choices l.places) most_choices
few_choices_before l (m ∷ ls) = nat_le (choices l.places * length (routes_of_place (first_of_leg m))) most_choices

-- a visit by its train and number
abbrev pub visit_said : Option (TrainNo × ℕ) → Option VisitOf
visit_said None = None
visit_said (Some v) = Some (record { train = v.0; number = v.1 })

module _ (i : Interlocking) where
  -- the design has what is required
  abbrev pub requirement_fits : Requirement → Bool
  requirement_fits = requirement_in_design i.design.station i.routes

  -- the train of the last leg
  abbrev pub last_train : Requirement → TrainNo
  last_train = train_to i.design.station

  -- the visit from which the ticks of a within or an order are counted
  abbrev pub first_visit : Requirement → Option VisitOf
  first_visit = visit_from i.design.station

  -- the place names routes of the design, each once
  abbrev pub place_fits : Place → Bool
  place_fits = place_in_design i.design.station i.routes

  -- the leg is of a train, and has places
  abbrev pub leg_fits : Leg → Bool
  leg_fits = leg_in_design i.design.station i.routes

  -- the commands contend over an own section of the first
  abbrev pub contend_over_own_in : Command → Command → Bool
  contend_over_own_in = contend_over_own i.design.station i.routes

  -- the command contends so with each that gives the train a route of the place
  abbrev pub contends_with_in : Command → TrainNo → Place → Bool
  contends_with_in = contends_with i.design.station i.routes

  -- whatever the routes are, the last command of the first leg contends so with the first of the second
  abbrev pub contend_where_they_meet_in : Leg → Leg → Bool
  contend_where_they_meet_in = contend_where_they_meet i.design.station i.routes

  -- the origin goes with the visit
  abbrev pub origin_fits : Bound → Option VisitOf → Bool
  origin_fits b = origin_in_design i.design.station i.routes b b.origin

  -- the design has what is required and what the legs name
  abbrev pub names_fit : Bound → Bool
  names_fit b = requirement_fits b.requirement && not (is_empty b.legs) && list_all leg_fits b.legs

  -- that is so, and the legs have few places and choices
  abbrev pub is_stated : Bound → Bool
  is_stated b = names_fit b && nat_le (places_of b.legs) most_places
      && are_few_choices i.design.station i.routes b.legs

  -- the legs wait for each other, and the last is of the train of which something is required
  abbrev pub is_chain : Bound → Bool
  is_chain b = all_neighbors contend_where_they_meet_in b.legs
      && is_train (last_leg b.legs).train (last_train b.requirement)
