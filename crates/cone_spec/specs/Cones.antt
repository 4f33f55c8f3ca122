-- Cones: what they name, and their runs.
use Rattle.std.specs.Prelude.{ℕ, Bool, ◌&&◌, if◌then◌else◌, List, [], ◌∷◌, map, filter, length, take, nat_le, None}
use Rattle.std.specs.List.{list_any}
use Rattle.rail_base.specs.declared.station.Station.{Station}
use Rattle.rail_base.specs.declared.station.TrainNo.{TrainNo}
use Rattle.rail_base.specs.declared.route.Route.{Route}
use Rattle.rail_base.specs.declared.route.RouteNo.{RouteNo}
use Rattle.rail_base.specs.declared.plan.Command.{Command}
use Rattle.rail_base.specs.declared.state.TrainState.{TrainState}
use Rattle.cone_spec.specs.declared.ConeTrain.{ConeTrain}
use Rattle.cone_spec.specs.declared.Cone.{Cone}
use Rattle.rail_spec.specs.Plans.{is_train, is_route, is_command}
use Rattle.rail_spec.specs.Dispatches.{state_of, Dispatch, state_at}

-- ---- what a cone names

-- a train that is not named has horizon 0 and no command
abbrev pub unnamed : TrainNo → ConeTrain
unnamed t = record { train = t; horizon = 0; free = 0; path = []; holder = None }

-- the first entry of this train, if there is one
abbrev pub first_named : TrainNo → List ConeTrain → ConeTrain
first_named t [] = unnamed t
first_named t (c ∷ cs) = if is_train c.train t then c else first_named t cs

-- what the cone says of a train
abbrev pub named : Cone → TrainNo → ConeTrain
named k t = first_named t k.trains

-- the free commands of a train, which come first
abbrev pub free_path : Cone → TrainNo → List RouteNo
free_path k t = take (named k t).free (named k t).path

-- all its commands are free
abbrev pub all_free : ConeTrain → Bool
all_free c = nat_le (length c.path) c.free

-- the route is one of these
abbrev pub has_route : List RouteNo → RouteNo → Bool
has_route rs r = list_any (λ q. is_route q r) rs

-- a command of the cone, free or waiting
abbrev pub is_named : Cone → Command → Bool
is_named k c = has_route (named k c.train).path c.route

-- a command that is granted in the cone's run
abbrev pub is_free : Cone → Command → Bool
is_free k c = has_route (free_path k c.train) c.route

-- the pair is of these two commands
abbrev pub is_pair : Command → Command → Command × Command → Bool
is_pair d c p = is_command p.0 d && is_command p.1 c

-- d is listed before c
abbrev pub has_pair : Cone → Command → Command → Bool
has_pair k d c = list_any (is_pair d c) k.pairs

-- ---- its run

-- only free commands are granted, only listed pairs precede, and past its horizon a train stays as it is
abbrev pub of_cone : Cone → Dispatch
of_cone k = record {
  path = free_path k;
  before = λ c. map (λ p. p.0) (filter (λ p. is_command p.1 c) k.pairs);
  concerns = λ tick t. nat_le tick (named k t).horizon;
}

-- a train's state in the cone's run
abbrev pub cone_state_at : Station → List Route → Cone → ℕ → TrainNo → TrainState
cone_state_at d routes k tick t = state_of (state_at d routes (of_cone k) tick) t
