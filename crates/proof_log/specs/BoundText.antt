-- The text of a certificate.
use Rattle.std.specs.Prelude.{ℕ, Bool, true, false, ◌&&◌, ◌==◌, List, [], ◌∷◌, ◌++◌, flat_map, nat_le, codes, decimal}
use Rattle.std.specs.List.{list_all}
use Rattle.rail_base.specs.declared.route.RouteNo.{RouteNo}
use Rattle.rail_base.specs.declared.plan.Violation.{Violation}
use Rattle.rail_base.specs.declared.plan.Violation.TheVariants as violations
use Rattle.bound_spec.specs.declared.Requirement.{Requirement}
use Rattle.bound_spec.specs.declared.Requirement.TheVariants as requirements
use Rattle.bound_spec.specs.declared.Origin.{Origin}
use Rattle.bound_spec.specs.declared.Origin.TheVariants as origins
use Rattle.bound_spec.specs.declared.Place.{Place}
use Rattle.bound_spec.specs.declared.Place.TheVariants as place
use Rattle.bound_spec.specs.declared.Leg.{Leg}
use Rattle.bound_spec.specs.declared.Bound.{Bound}
use Rattle.proof_log.specs.Words.{greatest_variable, greatest_clause_number, is_from_1_to, is_small}
use Rattle.proof_log.specs.Parts.{has_member}
use Rattle.proof_log.specs.ConeText.{route_word, list_words, train_words, pair_words}
use Rattle.proof_log.specs.ConeText.{keeps_path, keeps_train, keeps_pair}

-- ---- words

-- the kind of the requirement and its numbers
abbrev pub requirement_words : Requirement → List (List ℕ)
requirement_words (requirements.Within within) = codes "within" ∷ decimal within ∷ []
requirement_words (requirements.Order order) = codes "order" ∷ decimal order ∷ []
requirement_words (requirements.Visit train visit) = codes "visit" ∷ decimal train.0 ∷ decimal visit ∷ []
requirement_words (requirements.Grant c) = codes "grant" ∷ decimal c.train.0 ∷ decimal c.route.0 ∷ []

-- the kind of the origin, and for a cone its tick, its trains and its pairs
abbrev pub origin_words : Origin → List (List ℕ)
origin_words origins.Visit = codes "from" ∷ []
origin_words origins.Start = codes "zero" ∷ []
origin_words origins.FirstTick = codes "one" ∷ []
origin_words (origins.Cone tick k) =
    codes "cone" ∷ decimal tick ∷ (flat_map train_words k.trains ++ flat_map pair_words k.pairs)

-- `n` and the route, or `a`, the routes, `0`, the routes that are not used, `0`
abbrev pub place_words : Place → List (List ℕ)
place_words (place.Named route) = codes "n" ∷ decimal route.0 ∷ []
place_words (place.Among routes without) = codes "a" ∷ (list_words route_word routes ++ list_words route_word without)

-- `l`, the train, and the places
abbrev pub leg_words : Leg → List (List ℕ)
leg_words l = codes "l" ∷ decimal l.train.0 ∷ flat_map place_words l.places

-- the requirement, the origin, and the legs
abbrev pub bound_line_words : Bound → List (List ℕ)
bound_line_words b = requirement_words b.requirement ++ (origin_words b.origin ++ flat_map leg_words b.legs)

-- ---- certificates of the grammar

-- the number of a route is from 1 on, and not too great
abbrev pub keeps_route : RouteNo → Bool
keeps_route r = is_from_1_to greatest_variable r.0

abbrev pub keeps_requirement : Requirement → Bool
keeps_requirement (requirements.Within within) = is_small within
keeps_requirement (requirements.Order order) = is_small order
keeps_requirement (requirements.Visit train visit) = is_small train.0 && is_small visit
keeps_requirement (requirements.Grant c) = is_small c.train.0 && keeps_route c.route

-- the violation is that of the requirement
abbrev pub is_of : Requirement → Violation → Bool
is_of (requirements.Within within) (violations.Within w) = within == w
is_of (requirements.Order order) (violations.Order o) = order == o
is_of (requirements.Visit train visit) (violations.Visit t k) = (train.0 == t.0) && (visit == k)
is_of (requirements.Grant c) (violations.Grant t k) = (c.train.0 == t.0) && (k == 1)
is_of _ _ = false

-- a cone has a train, and the violation of the requirement
abbrev pub keeps_origin : Requirement → Origin → Bool
keeps_origin q origins.Visit = true
keeps_origin q origins.Start = true
keeps_origin q origins.FirstTick = true
keeps_origin q (origins.Cone tick k) =
    nat_le tick greatest_clause_number
    && (is_of q k.violation
    && ((has_member k.trains && list_all keeps_train k.trains) && list_all keeps_pair k.pairs))

-- a place has a route
abbrev pub keeps_place : Place → Bool
keeps_place (place.Named route) = keeps_route route
keeps_place (place.Among routes without) = keeps_path routes && list_all keeps_route without

-- a leg has a place
abbrev pub keeps_leg : Leg → Bool
keeps_leg l = is_small l.train.0 && (has_member l.places && list_all keeps_place l.places)

-- a certificate has a leg, and no number is too great, or 0 where there has to be one
abbrev pub keeps_bound : Bound → Bool
keeps_bound b =
    keeps_requirement b.requirement
    && (keeps_origin b.requirement b.origin && (has_member b.legs && list_all keeps_leg b.legs))
