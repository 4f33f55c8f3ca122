-- The cones of a failed plan: slices, the whole cone, and the cone of a path.
use Rattle.std.specs.Prelude.{ℕ, suc, ◌+◌, max, Bool, false, ◌&&◌, ◌||◌, if◌then◌else◌, List, [], ◌∷◌, map, filter}
use Rattle.std.specs.Prelude.{flat_map, take, nat_le, nat_lt, Option, None, Some}
use Rattle.rail_base.specs.declared.station.Station.{Station}
use Rattle.rail_base.specs.declared.station.TrainNo.{TrainNo}
use Rattle.rail_base.specs.declared.route.Route.{Route}
use Rattle.rail_base.specs.declared.route.RouteNo.{RouteNo}
use Rattle.rail_base.specs.declared.plan.Command.{Command}
use Rattle.rail_base.specs.declared.plan.Violation.{Violation}
use Rattle.rail_base.specs.declared.plan.Violation.TheVariants as violation
use Rattle.rail_base.specs.Stations.{trains}
use Rattle.rail_spec.specs.Plans.{path, precedes, is_route, has_command, all_commands}
use Rattle.rail_spec.specs.Dispatches.{of_plan, is_granted, state_at}
use Rattle.cone_spec.specs.declared.ConeTrain.{ConeTrain}
use Rattle.cone_spec.specs.declared.Cone.{Cone}
use Rattle.slice_spec.specs.Holders.{count_at, next_at, is_the, is_holder, holder_at}

-- one past the last member that passes the test, or 0
abbrev pub past_last : {X : Type 0} → (X → Bool) → List X → ℕ
past_last test [] = 0
past_last test (x ∷ xs) = let later = past_last test xs in if nat_lt 0 later then suc later else if test x then 1 else 0

-- it is the command's route
abbrev pub is_next : Command → Option RouteNo → Bool
is_next c None = false
is_next c (Some r) = is_route r c.route

-- with so many commands of each train, a train is named where it has any
abbrev pub names : (TrainNo → ℕ) → TrainNo → Bool
names upto t = nat_le 1 (upto t)

module _ (d : Station) (routes : List Route) (plan : List (List Command)) (last : ℕ) where
  module _ (h : TrainNo → ℕ) where
    -- e precedes c, which is granted by its train's horizon or is the next one there and held up by e
    abbrev pub is_slice_pair : Command → Command → Bool
    is_slice_pair e c = has_command plan e && has_command plan c && precedes routes plan e c
        && (is_granted d routes (of_plan routes plan) (state_at d routes (of_plan routes plan) (h c.train)) c
        || is_next c (next_at d routes plan (h c.train) c.train)
        && is_the e (holder_at d routes plan last h c.train))

    -- the pairs of the slice, in order
    abbrev pub slice_pairs : List (Command × Command)
    slice_pairs =
        let commands = all_commands d routes in
        flat_map (λ e. map (λ c. (e, c)) (filter (is_slice_pair e) commands)) commands

    module _ (upto : TrainNo → ℕ) where
      -- what the slice says of a train
      abbrev pub slice_train : TrainNo → ConeTrain
      slice_train t = record {
        train = t;
        horizon = h t;
        free = count_at d routes plan (h t) t;
        path = take (upto t) (path plan t);
        holder = holder_at d routes plan last h t;
      }

      -- the slice with these horizons and so much of each path
      abbrev pub slice_with : Violation → Cone
      slice_with v = record {
        trains = map slice_train (filter (names upto) (trains d));
        pairs = slice_pairs;
        violation = v;
      }

    -- so many commands of the train are needed: those granted, the next one where the train is followed, and those up to the last holder
    abbrev pub named_count : TrainNo → ℕ
    named_count t =
        let granted = if nat_le 1 (h t) then count_at d routes plan (h t) t + 1 else 0 in
        max granted (past_last (λ r. is_holder d routes plan last h (record { train = t; route = r })) (path plan t))

    -- the slice with these horizons and what is needed of each path
    abbrev pub slice_of : Violation → Cone
    slice_of = slice_with named_count

  -- what the whole cone says of a train: it is followed up to the last tick, with its whole path
  abbrev pub whole_train : TrainNo → ConeTrain
  whole_train t = record {
    train = t;
    horizon = last;
    free = count_at d routes plan last t;
    path = path plan t;
    holder = holder_at d routes plan last (λ u. last) t;
  }

  -- all trains up to the last tick
  abbrev pub whole_cone : Violation → Cone
  whole_cone v = record { trains = map whole_train (trains d); pairs = slice_pairs (λ u. last); violation = v }

-- the cone of a path that misses a visit: the path alone
abbrev pub path_cone : List (List Command) → TrainNo → ℕ → Cone
path_cone plan t j = record {
  trains = record { train = t; horizon = 0; free = 0; path = path plan t; holder = None } ∷ [];
  pairs = [];
  violation = violation.Path t j;
}
