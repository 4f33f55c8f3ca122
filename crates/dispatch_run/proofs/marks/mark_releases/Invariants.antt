use Rattle.std.proofs.Common.{◌≤◌, ℕ, Option, length}
use Rattle.rail_base.specs.declared.station.SectionNo.{SectionNo}
use Rattle.rail_base.specs.declared.route.RouteNo.{RouteNo}
use Rattle.rail_course.specs.declared.journey.Release.{Release}
use Rattle.dispatch_run.proofs.InTurn.{release_made, no_release, no_entry}
use Rattle.dispatch_run.proofs.Settling.{IsMarkedFrom}
use Rattle.dispatch_run.proofs.marks.mark_releases.Given as goal

-- it is marked from a milestone on, and all that is nearer than a place was marked earlier
abbrev pub invariant-loop-left : goal.invariant-loop-left
invariant-loop-left l = record {
  within : l.left ≤ length l.milestones;
  marked : IsMarkedFrom (release_made l.state l.tick) (λ (r : Release). r.event.place) (λ (e : RouteNo × SectionNo × Option ℕ). e.2) l.releases l.fn.entries no_release no_entry l.milestones l.left l.settled l.entries;
}

abbrev pub decreases-loop-left : goal.decreases-loop-left
decreases-loop-left l = l.left
