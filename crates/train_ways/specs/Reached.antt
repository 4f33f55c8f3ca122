-- What is said of pairs to which numbers of steps were found.
use Rattle.std.specs.Prelude.{◌≡◌, ℕ, ◌-◌, ◌*◌, ◌≤◌, ◌<◌, Bool, ◌&&◌, ◌==◌, if◌then◌else◌, List, [], ◌∷◌, ◌++◌}
use Rattle.std.specs.Prelude.{filter, slice_index_or, Option, None, Some, is_some, min}
use Rattle.std.specs.List.{list_any}
use Rattle.rail_base.specs.declared.station.SignalNo.{SignalNo}
use Rattle.rail_base.specs.declared.route.Route.{Route}
use Rattle.rail_base.specs.declared.route.RouteNo.{RouteNo}
use Rattle.rail_base.specs.declared.route.Start.{Start}
use Rattle.rail_base.specs.declared.route.Start.TheVariants as start
use Rattle.rail_base.specs.Members.{In, Differ}
use Rattle.rail_base.specs.Numbering.{count_from}
use Rattle.rail_spec.specs.Plans.{route_at, route_numbers}

-- so many steps were found to the pair
abbrev pub Found : List (Option ℕ) → ℕ → ℕ → Type 0
Found found p k = slice_index_or found p None ≡ Some k

-- of the pairs before i that are reached, the most visits that are made after one, or 0
pub record IsMostMade (made : List ℕ) (found : List (Option ℕ)) (i m : ℕ) : Type 0 where
  pub bound : (p k : ℕ) → p < i → Found found p k → slice_index_or made p 0 ≤ m
  pub there : 1 ≤ m → (p : ℕ) × (p < i) × (k : ℕ) × Found found p k × (slice_index_or made p 0 ≡ m)

-- of those after which so many visits are made, the least number of steps, or none
abbrev pub IsLeastTo : List ℕ → List (Option ℕ) → ℕ → ℕ → Option ℕ → Type 0
IsLeastTo made found all i None = (p k : ℕ) → p < i → Found found p k → slice_index_or made p 0 ≡ all → ⊥
IsLeastTo made found all i (Some n) = ((p : ℕ) × (p < i) × Found found p n × (slice_index_or made p 0 ≡ all))
    × ((p k : ℕ) → p < i → Found found p k → slice_index_or made p 0 ≡ all → n ≤ k)

-- the lesser of two numbers, where they are there
abbrev pub lesser : Option ℕ → Option ℕ → Option ℕ
lesser (Some a) (Some b) = Some (min a b)
lesser (Some a) None = Some a
lesser None other = other

-- the pair is reached, and leads to the end of a way
abbrev pub is_over : List (Option ℕ) → List (Option ℕ) → ℕ → Bool
is_over found left p = is_some (slice_index_or found p None) && is_some (slice_index_or left p None)

-- so is some pair of the route
abbrev pub is_live : ℕ → List (Option ℕ) → List (Option ℕ) → RouteNo → Bool
is_live width found left r = list_any (is_over found left) (count_from ((r.0 - 1) * width) width)

-- the routes of which this is so
abbrev pub live_among : ℕ → List (Option ℕ) → List (Option ℕ) → List Route → List RouteNo
live_among width found left routes = filter (is_live width found left) (route_numbers routes)

-- these signals, with that of a start
abbrev pub with_start : List SignalNo → Start → List SignalNo
with_start signals (start.Boundary n) = signals
with_start signals (start.Signal s) = if list_any (λ q. q.0 == s.0) signals then signals else signals ++ s ∷ []

-- with those of the starts of these routes
abbrev pub with_starts : List Route → List SignalNo → List RouteNo → List SignalNo
with_starts routes signals [] = signals
with_starts routes signals (r ∷ rs) = with_starts routes (with_start signals (route_at routes r).start) rs

-- the signals at which these routes start, each once
pub record AreSignals (routes : List Route) (rs : List RouteNo) (signals : List SignalNo) : Type 0 where
  pub differ : Differ signals
  pub of_route : (s : SignalNo) → In s signals → (r : RouteNo) × In r rs × ((route_at routes r).start ≡ start.Signal s)
  pub each : (r : RouteNo) (s : SignalNo) → In r rs → (route_at routes r).start ≡ start.Signal s → In s signals
