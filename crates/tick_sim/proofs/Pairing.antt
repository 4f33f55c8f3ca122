-- The waits of a plan's commands, one command further.
use Rattle.std.proofs.Common.{◌≡◌, ◌⊎◌, inl, inr, All, List, [], refl, ap, ◌∙◌}
use Rattle.std.specs.List.{list_all}
use Rattle.rail_base.specs.declared.station.Station.{Station}
use Rattle.rail_base.specs.declared.route.Route.{Route}
use Rattle.rail_base.specs.declared.plan.Command.{Command}
use Rattle.rail_base.specs.Members.{In}
use Rattle.rail_spec.specs.Plans.{path, preceding}
use Rattle.rail_course.specs.declared.itineraries.Itineraries.{Itineraries}
use Rattle.rail_course.specs.declared.planned.PlannedTrainPaths.{PlannedTrainPaths}
use Rattle.rail_course.specs.declared.waits.Wait.{Wait}
use Rattle.rail_course.specs.Itineraries.{IsCommandIn, IsWaitIn, going_in, has_cleared_in, path_in, waiting_in}
use Rattle.rail_course.specs.Waits.{AddsWaits, IsWait}
use Rattle.rail_course.proofs.Granting.{in_from_all, no_path, plan_named}
use Rattle.rail_course.proofs.Holding.{wait_elsewhere}
use Rattle.rail_course.proofs.Numbered.{path_of_number}
use Rattle.tick_sim.specs.Pairs.{AreWaitsInPlan, have_cleared, precedes_in}
use Rattle.tick_sim.proofs.Gathering.{kept_steps}

module _ (p : PlannedTrainPaths) where
  abbrev given : Itineraries
  given = p.train_paths.given

  abbrev station : Station
  station = given.interlocking.now.design.station

  abbrev routes : List Route
  routes = given.interlocking.now.routes

  abbrev plan : List (List Command)
  plan = p.plan.now.steps

  -- the paths are those of the plan
  pub same_paths : path_in given ≡ path plan
  same_paths = path_of_number station (path plan) given.paths.items p.paths (no_path station routes plan (plan_named given.interlocking.now plan p.formed))

  -- the commands of a step name trains and routes
  pub step_given : (step : List Command) → In step plan → All (IsCommandIn given) step
  step_given = in_from_all (λ s. All (IsCommandIn given) s) plan (plan_named given.interlocking.now plan p.formed)

  -- the waits for all steps are those of the command
  pub waits_are : (c : Command) (own : List Wait) (steps : List (List Command)) → steps ≡ plan
      → AddsWaits [] own (λ ps. list_all (λ step. have_cleared p c step ps) steps) (λ w. (step : List Command) × In step steps × IsWaitIn given w) → AreWaitsInPlan p c own
  waits_are c own steps all adds = record {
    over = λ ps. adds.over ps ∙ ap (list_all (λ step. have_cleared p c step ps)) all ∙ kept_steps (has_cleared_in given ps c) (λ e. precedes_in p e c) plan;
    known = λ w m. go w (adds.known w m);
  }
    where
      go : (w : Wait) → In w [] ⊎ ((step : List Command) × In step steps × IsWaitIn given w) → IsWait station routes (waiting_in given (preceding routes plan)) w
      go w (inl none) = absurd none
      go w (inr (step, k, is)) = wait_elsewhere station routes (going_in given) (waiting_in given (preceding routes plan)) refl w is
