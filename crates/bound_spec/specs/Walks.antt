-- Walks of a train of which each route is one of some.
use Rattle.std.specs.Prelude.{ℕ, min, Bool, true, List, [], ◌∷◌, map, filter, flat_map}
use Rattle.rail_base.specs.declared.route.Route.{Route}
use Rattle.rail_base.specs.Members.{In}
use Rattle.rail_spec.specs.Plans.{goes_on}

-- the first of the routes goes on where this one ends, if there is one
abbrev pub goes_before : Route → List Route → Bool
goes_before r [] = true
goes_before r (q ∷ qs) = goes_on r.finish q.start

-- all walks with one route of each place, each of which goes on where the one before ends
abbrev pub walks : List (List Route) → List (List Route)
walks [] = [] ∷ []
walks (place ∷ places) = flat_map (λ r. map (λ rs. r ∷ rs) (filter (goes_before r) (walks places))) place

-- the least of n and of what the walks take
abbrev pub least_walk : (List Route → ℕ) → ℕ → List (List Route) → ℕ
least_walk f n [] = n
least_walk f n (rs ∷ walks) = min (f rs) (least_walk f n walks)

-- each is one of its place
abbrev pub LieIn : {X : Type 0} → List X → List (List X) → Type 0
LieIn [] [] = Unit {0}
LieIn (r ∷ rs) (place ∷ places) = In r place × LieIn rs places
LieIn [] (place ∷ places) = ⊥
LieIn (r ∷ rs) [] = ⊥
