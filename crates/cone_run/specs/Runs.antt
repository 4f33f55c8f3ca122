-- The run of a cone, and what it shows.
use Rattle.std.specs.Prelude.{ℕ, ◌&&◌, if◌then◌else◌, List, map, fold, max, Option, None}
use Rattle.std.specs.List.{list_all}
use Rattle.rail_base.specs.declared.station.TrainNo.{TrainNo}
use Rattle.interlocking.specs.declared.railway.Interlocking.{Interlocking}
use Rattle.cone_spec.specs.declared.ConeTrain.{ConeTrain}
use Rattle.cone_spec.specs.declared.Cone.{Cone}
use Rattle.cone_spec.specs.declared.ConeFault.{ConeFault}
use Rattle.cone_spec.specs.Cones.{named, of_cone, free_path}
use Rattle.cone_spec.specs.Validity.{fault_of, free_granted, holder_fits, cone_visit}
use Rattle.quiet_spec.specs.Histories.{history_at}
use Rattle.rail_base.specs.declared.history.TrainHistory.{TrainHistory}
use Rattle.rail_base.specs.declared.station.Station.{Station}
use Rattle.rail_base.specs.declared.route.Route.{Route}
use Rattle.rail_base.specs.declared.route.RouteNo.{RouteNo}
use Rattle.rail_base.specs.Stations.{trains}

-- the last tick of a cone's run: the greatest horizon
abbrev pub last_tick : Cone → ℕ
last_tick k = fold max 0 (map (λ (c : ConeTrain). c.horizon) k.trains)

module _ (i : Interlocking) (k : Cone) where
  -- the first reason against the cone
  abbrev pub first_reason : Option ConeFault
  first_reason = fault_of i.design.station i.routes k

  -- the tick, up to the train's horizon, of a visit in the run, where the commands are granted or held up as it says
  abbrev pub visit_in_run : TrainNo → ℕ → Option ℕ
  visit_in_run t v = let d = i.design.station in
      if list_all (free_granted d i.routes k) k.trains && list_all (λ c. holder_fits d i.routes k c c.holder) k.trains
      then cone_visit d i.routes k (named k t).horizon t v else None

  -- what happens to each train in the run, up to the greatest horizon
  abbrev pub run_of : List TrainHistory
  run_of = history_at i.design.station i.routes (of_cone k) (last_tick k)

-- the free path of each train of the station
abbrev pub all_free_paths : Station → List Route → Cone → List (List RouteNo)
all_free_paths d routes k = map (free_path k) (trains d)
