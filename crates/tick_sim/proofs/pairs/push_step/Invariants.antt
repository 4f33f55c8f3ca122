use Rattle.std.proofs.Common.{◌||◌, not, take}
use Rattle.std.specs.List.{list_all}
use Rattle.rail_base.specs.declared.plan.Command.{Command}
use Rattle.rail_base.specs.Members.{In}
use Rattle.rail_course.specs.Itineraries.{IsWaitIn, has_cleared_in}
use Rattle.rail_course.specs.Waits.{AddsWaits}
use Rattle.tick_sim.specs.Pairs.{precedes_in}
use Rattle.tick_sim.proofs.pairs.push_step.Given as goal

abbrev pub invariant-loop-other : goal.invariant-loop-other
invariant-loop-other l = AddsWaits l.fn.waits.items l.waits.items
    (λ ps. list_all (λ e. not (precedes_in l.planned e l.command) || has_cleared_in l.planned.train_paths.given ps l.command e) (take l.other-index l.other-items))
    (λ w. (e : Command) × In e l.other-items × IsWaitIn l.planned.train_paths.given w)
