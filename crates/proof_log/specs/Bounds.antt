-- A certificate of a lower bound and its parts, each read from the first of some words on, with the words after it.
use Rattle.std.specs.Prelude.{ℕ, zero, suc, List, [], ◌∷◌, length, Option, Some, None, codes, if◌then◌else◌}
use Rattle.std.specs.Str.{bytes_eq}
use Rattle.rail_base.specs.declared.plan.Command.{Command}
use Rattle.rail_base.specs.declared.route.RouteNo.{RouteNo}
use Rattle.cone_spec.specs.declared.ConeTrain.{ConeTrain}
use Rattle.bound_spec.specs.declared.Requirement.{Requirement}
use Rattle.bound_spec.specs.declared.Requirement.TheVariants as requirements
use Rattle.bound_spec.specs.declared.Origin.{Origin}
use Rattle.bound_spec.specs.declared.Origin.TheVariants as origins
use Rattle.bound_spec.specs.declared.Place.{Place}
use Rattle.bound_spec.specs.declared.Place.TheVariants as place
use Rattle.bound_spec.specs.declared.Leg.{Leg}
use Rattle.bound_spec.specs.declared.Bound.{Bound}
use Rattle.bound_spec.specs.Certificates.{violation_of}
use Rattle.proof_log.specs.Words.{plain_number_of, route_of, members_of}
use Rattle.proof_log.specs.Parts.{WithRest, made, with_next, first_of, if_any, part_before, all_parts}
use Rattle.proof_log.specs.Parts.{small_number, two_numbers, train_path, some_cone_trains, cone_pairs}

-- ---- the requirement

-- a route, from 1 on
abbrev pub route : WithRest RouteNo
route words = first_of route_of words

-- a visit, by its train and its number
abbrev pub visit_by : ℕ × ℕ → Requirement
visit_by numbers = requirements.Visit (record { 0 = numbers.0 }) numbers.1

-- a command, by its train and its route
abbrev pub grant_by : ℕ × RouteNo → Requirement
grant_by parts = requirements.Grant (record { train = record { 0 = parts.0 }; route = parts.1 })

-- a train and a route
abbrev pub granted : WithRest (ℕ × RouteNo)
granted words = with_next (small_number words) route

-- a requirement, by the word of its kind and the numbers after it
abbrev pub requirement_of : List ℕ → WithRest Requirement
requirement_of kind words =
    if bytes_eq kind (codes "within") then made requirements.Within (small_number words)
    else if bytes_eq kind (codes "order") then made requirements.Order (small_number words)
    else if bytes_eq kind (codes "visit") then made visit_by (two_numbers words)
    else if bytes_eq kind (codes "grant") then made grant_by (granted words)
    else None

abbrev pub requirement : WithRest Requirement
requirement [] = None
requirement (kind ∷ more) = requirement_of kind more

-- ---- the origin

-- what a cone of the requirement says, by its tick, its trains and its pairs
abbrev pub cone_by : Requirement → ℕ × (List ConeTrain × List (Command × Command)) → Origin
cone_by q parts = origins.Cone parts.0 (record { trains = parts.1.0; pairs = parts.1.1; violation = violation_of q })

-- a tick, one train of a cone or more, and pairs
abbrev pub cone_parts : WithRest (ℕ × (List ConeTrain × List (Command × Command)))
cone_parts words = with_next (first_of plain_number_of words) (λ w. with_next (some_cone_trains w) cone_pairs)

-- an origin for a requirement, by the word of its kind and what stands after it
abbrev pub origin_of : Requirement → List ℕ → WithRest Origin
origin_of q kind words =
    if bytes_eq kind (codes "from") then Some (origins.Visit, words)
    else if bytes_eq kind (codes "zero") then Some (origins.Start, words)
    else if bytes_eq kind (codes "one") then Some (origins.FirstTick, words)
    else if bytes_eq kind (codes "cone") then made (cone_by q) (cone_parts words)
    else None

abbrev pub origin : Requirement → WithRest Origin
origin q [] = None
origin q (kind ∷ more) = origin_of q kind more

-- ---- legs

-- a place of some routes, by them and by the routes that are not used
abbrev pub among_by : List RouteNo × List RouteNo → Place
among_by parts = place.Among parts.0 parts.1

-- the routes of a place, one or more, `0`, the routes that are not used, `0`
abbrev pub among : WithRest (List RouteNo × List RouteNo)
among words = with_next (train_path words) (members_of route_of)

-- a place, by its first word
abbrev pub place_of : List ℕ → WithRest Place
place_of kind words =
    if bytes_eq kind (codes "n") then made place.Named (route words)
    else if bytes_eq kind (codes "a") then made among_by (among words)
    else None

-- parts up to a mark or the last word, n at most
abbrev pub parts_until : {X : Type 0} → List ℕ → (List ℕ → WithRest X) → ℕ → WithRest (List X)
parts_until mark part zero words = Some ([], words)
parts_until mark part (suc n) [] = Some ([], [])
parts_until mark part (suc n) (word ∷ more) =
    if bytes_eq word mark then Some ([], word ∷ more)
    else part_before (part word more) (λ words. parts_until mark part n words)

-- the places up to the next leg: there are no more than words
abbrev pub places : WithRest (List Place)
places words = parts_until (codes "l") place_of (length words) words

-- the same, where there is a place
abbrev pub some_places : WithRest (List Place)
some_places words = if_any (places words)

-- a leg, by its train and its places
abbrev pub leg_by : ℕ × List Place → Leg
leg_by parts = record { train = record { 0 = parts.0 }; places = parts.1 }

-- a leg, after the word `l`
abbrev pub leg : WithRest Leg
leg words = made leg_by (with_next (small_number words) some_places)

-- the legs, each after a word `l`
abbrev pub legs : WithRest (List Leg)
legs words = all_parts (codes "l") leg words

-- the same, where there is a leg
abbrev pub some_legs : WithRest (List Leg)
some_legs words = if_any (legs words)

-- ---- the certificate

-- a certificate of a requirement, by its origin and its legs
abbrev pub bound_by : Requirement → Origin × List Leg → Bound
bound_by q parts = record { requirement = q; origin = parts.0; legs = parts.1 }

-- what a requirement that was found is to be shown by: an origin, and one leg or more
abbrev pub bound_after : Option (Requirement × List (List ℕ)) → Option (Bound × List (List ℕ))
bound_after None = None
bound_after (Some (q, words)) = made (bound_by q) (with_next (origin q words) some_legs)

-- a requirement, an origin, and one leg or more
abbrev pub bound : WithRest Bound
bound words = bound_after (requirement words)
