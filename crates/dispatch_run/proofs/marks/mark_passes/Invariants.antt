use Rattle.std.proofs.Common.{◌≤◌, ℕ, Option, length}
use Rattle.rail_base.specs.declared.station.NodeNo.{NodeNo}
use Rattle.rail_base.specs.declared.state.PathNode.{PathNode}
use Rattle.dispatch_run.proofs.InTurn.{pass_made, no_node, no_pass}
use Rattle.dispatch_run.proofs.Settling.{IsMarkedFrom}
use Rattle.dispatch_run.proofs.marks.mark_passes.Given as goal

-- it is marked from a milestone on, and all that is nearer than a place was marked earlier
abbrev pub invariant-loop-left : goal.invariant-loop-left
invariant-loop-left l = record {
  within : l.left ≤ length l.milestones;
  marked : IsMarkedFrom (pass_made l.state l.tick) (λ (n : PathNode). n.event.place) (λ (p : NodeNo × Option ℕ). p.1) l.path_nodes l.fn.passes no_node no_pass l.milestones l.left l.settled l.passes;
}

abbrev pub decreases-loop-left : goal.decreases-loop-left
decreases-loop-left l = l.left
