-- What is known of a plan's commands after some of its steps.
use Rattle.std.specs.Prelude.{◌≡◌, ℕ, List, [], flat_map, take, length}
use Rattle.std.specs.Global.{Vec}
use Rattle.rail_base.specs.declared.station.SectionNo.{SectionNo}
use Rattle.rail_base.specs.declared.station.TrainNo.{TrainNo}
use Rattle.rail_base.specs.declared.route.RouteNo.{RouteNo}
use Rattle.rail_base.specs.Stations.{IsTrain}
use Rattle.rail_spec.specs.Plans.{path}
use Rattle.rail_spec.specs.Dispatches.{of_plan}
use Rattle.rail_course.specs.declared.planned.PlannedTrainPaths.{PlannedTrainPaths}
use Rattle.rail_course.specs.declared.waits.Wait.{Wait}
use Rattle.rail_course.specs.Ready.{own_waits}
use Rattle.dispatcher.specs.Queues.{last_on, queue_at}
use Rattle.dispatcher.specs.Waits.{AreWaitsOf, waits_at}

module _ (p : PlannedTrainPaths) where
  -- the queues after the first n steps
  pub record AreQueues (n : ℕ) (queues : List (List Wait)) : Type 0 where
    pub queue_a_section : length queues ≡ length p.train_paths.given.interlocking.now.design.station.sections
    pub each : (z : SectionNo) → queue_at queues z ≡ flat_map (waits_at p.train_paths.given z)
        (last_on p.train_paths.given.interlocking.now.routes z [] (take n p.plan.now.steps))

  -- these are the waits of a train's commands that give it these routes
  abbrev pub AreWaitsIn : TrainNo → List RouteNo → List (List Wait) → Type 0
  AreWaitsIn = let i = p.train_paths.given.interlocking.now in
      AreWaitsOf i.design.station i.routes (of_plan i.routes p.plan.now.steps) p.plan.now.steps

  -- the waits of each train's commands in the first n steps
  pub record AreKnown (n : ℕ) (waits : List (List (Vec Wait))) : Type 0 where
    pub waits_a_train : length waits ≡ length p.train_paths.given.interlocking.now.design.station.trains
    pub each : (t : TrainNo) → IsTrain p.train_paths.given.interlocking.now.design.station t
        → AreWaitsIn t (path (take n p.plan.now.steps) t) (own_waits waits t)
