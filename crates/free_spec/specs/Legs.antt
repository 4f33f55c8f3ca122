-- Legs of a train's path.
use Rattle.std.specs.Prelude.{◌≡◌, ℕ, ◌+◌, min, Bool, true, false, if◌then◌else◌, List, [], ◌∷◌, ◌++◌, map, filter, None, Some, sum_by}
use Rattle.std.specs.List.{list_any}
use Rattle.rail_base.specs.declared.station.Station.{Station}
use Rattle.rail_base.specs.declared.station.TrainNo.{TrainNo}
use Rattle.rail_base.specs.declared.route.Route.{Route}
use Rattle.rail_base.specs.declared.route.Finish.{Finish}
use Rattle.rail_base.specs.declared.route.Finish.TheVariants as finish
use Rattle.rail_base.specs.declared.plan.Command.{Command}
use Rattle.rail_spec.specs.Plans.{length_mm, path_routes, exits}
use Rattle.rail_spec.specs.Dispatches.{rates, stretches}
use Rattle.cone_spec.specs.Clauses.{goes_further}
use Rattle.free_spec.specs.Free.{free, steps, steps_from_stop}

-- a leg of a train: routes in a row; whether no train goes past their end; and whether the first is the first of the path, where the train starts from rest
pub record Leg : Type 0 where
  pub routes : List Route
  pub closed : Bool
  pub rest : Bool

-- the train has the leg in its path behind these routes; a closed one is the end of the path, where no route exits
pub record HasLeg (routes : List Route) (plan : List (List Command)) (t : TrainNo)
    (before : List Route) (l : Leg) : Type 0 where
  pub more : List Route
  pub whole : path_routes routes plan t ≡ before ++ (l.routes ++ more)
  pub shut : l.closed ≡ true → (more ≡ []) × (list_any exits (path_routes routes plan t) ≡ false)
  pub begins : l.rest ≡ true → before ≡ []

-- how far a train can come in a tick from a place of the leg
abbrev pub free_on : Station → TrainNo → Leg → ℕ → ℕ
free_on d t l x =
    let end = if l.closed then Some (sum_by length_mm l.routes) else None in
    free (rates d t) (stretches d l.routes) end l.rest x

-- the least ticks from one place of the leg to another, up to a horizon, or more than that
abbrev pub least_ticks : Station → TrainNo → Leg → ℕ → ℕ → ℕ → ℕ
least_ticks d t l h x y = steps (free_on d t l) h x y

-- the least ticks from one place of the leg to another of a train that could stop at the first place and waits for more track: it goes as far as if it were to stop there and gained its acceleration and its braking in each tick
abbrev pub least_ticks_waited : Station → TrainNo → Leg → ℕ → ℕ → ℕ → ℕ
least_ticks_waited d t l h x y = steps_from_stop (free_on d t l) ((rates d t).accel + (rates d t).brake) x 0 h x y

-- ---- what follows a leg

-- the track ends there
abbrev pub is_dead : Finish → Bool
is_dead (finish.DeadEnd n) = true
is_dead (finish.Exit n) = false
is_dead (finish.Signal s) = false

-- the routes with one more, past which no train goes where it ends dead
abbrev pub with_next : List Route → Bool → Route → Leg
with_next rs rest q = record { routes = rs ++ q ∷ []; closed = is_dead q.finish; rest = rest }

-- the least of n and of what the legs take
abbrev pub least_over : (Leg → ℕ) → ℕ → List Leg → ℕ
least_over f n [] = n
least_over f n (l ∷ ls) = min (f l) (least_over f n ls)

-- the legs with one route more, of those that go on where these end
abbrev pub following : List Route → List Route → Bool → List Leg
following routes rs rest = map (with_next rs rest) (filter (goes_further rs) routes)

-- the least on these routes, whatever follows them in the path: nothing, or a route that goes on where they end
abbrev pub least_whatever_follows : (Leg → ℕ) → List Route → List Route → Bool → ℕ
least_whatever_follows f routes [] rest = f (record { routes = []; closed = false; rest = rest })
least_whatever_follows f routes (r ∷ rs) rest =
    if list_any exits (r ∷ rs) then f (record { routes = r ∷ rs; closed = false; rest = rest })
    else least_over f (f (record { routes = r ∷ rs; closed = true; rest = rest })) (following routes (r ∷ rs) rest)
