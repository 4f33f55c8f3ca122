use Rattle.std.proofs.Common.{List, [], take}
use Rattle.std.specs.List.{list_all}
use Rattle.rail_base.specs.declared.plan.Command.{Command}
use Rattle.rail_base.specs.Members.{In}
use Rattle.rail_course.specs.Itineraries.{IsWaitIn}
use Rattle.rail_course.specs.Waits.{AddsWaits}
use Rattle.tick_sim.specs.Pairs.{have_cleared}
use Rattle.tick_sim.proofs.pairs.waits_of.Given as goal

abbrev pub invariant-loop-step : goal.invariant-loop-step
invariant-loop-step l = AddsWaits [] l.waits.items (λ ps. list_all (λ step. have_cleared l.planned l.command step ps) (take l.step-index l.step-items))
    (λ w. (step : List Command) × In step l.step-items × IsWaitIn l.planned.train_paths.given w)
