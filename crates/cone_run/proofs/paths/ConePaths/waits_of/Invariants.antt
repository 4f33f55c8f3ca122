use Rattle.std.proofs.Common.{◌||◌, not, [], take}
use Rattle.std.specs.List.{list_all}
use Rattle.rail_base.specs.declared.plan.Command.{Command}
use Rattle.rail_base.specs.Members.{In}
use Rattle.rail_spec.specs.Plans.{is_command}
use Rattle.rail_course.specs.Itineraries.{IsWaitIn, has_cleared_in}
use Rattle.rail_course.specs.Waits.{AddsWaits}
use Rattle.cone_run.proofs.paths.ConePaths.waits_of.Given as goal

-- the waits so far are over where the first commands of those pairs so far whose second is the command have cleared
abbrev pub invariant-loop-first : goal.invariant-loop-first
invariant-loop-first l = AddsWaits [] l.waits.items
    (λ ps. list_all (λ q. not (is_command q.1 l.command) || has_cleared_in l.self.train_paths.given ps l.command q.0) (take l.first-index l.first-items))
    (λ w. (q : Command × Command) × In q l.first-items × IsWaitIn l.self.train_paths.given w)
