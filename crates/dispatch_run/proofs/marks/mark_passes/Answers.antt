use Rattle.std.proofs.Common.{◌≡◌, ℕ, ◌-◌, Option, get_or, ap, ◌∙◌, arith}
use Rattle.rail_base.specs.declared.station.NodeNo.{NodeNo}
use Rattle.rail_base.specs.declared.state.PathNode.{PathNode}
use Rattle.rail_course.specs.declared.milestones.Milestone.{Milestone}
use Rattle.rail_base.specs.Numbering.{or_this}
use Rattle.rail_base.specs.Events.{has_happened}
use Rattle.dispatch_run.proofs.InTurn.{pass_made, no_node, no_pass, passes_may_be_marked}
use Rattle.dispatch_run.proofs.Settling.{begins, goes_on, ends, index_in}
use Rattle.dispatch_run.proofs.marks.mark_passes.Goals as goal

pub loop-left-init : goal.loop-left-init
loop-left-init c =
    let may = passes_may_be_marked c.args.state c.args.tick c.args.path_nodes.now c.args.passes.now c.args.milestones.now c.requires.milestones c.requires.in_turn in
    record {
      within = c.count_reached-left.ensures.count;
      marked = begins (pass_made c.args.state c.args.tick) (λ (n : PathNode). n.event.place) (λ (p : NodeNo × Option ℕ). p.1) c.args.path_nodes.now c.args.passes.now no_node no_pass c.args.milestones.now c.args.tick c.args.state.x may c.count_reached-left.result c.count_reached-left.ensures.ahead;
    }

pub loop-left-preserved : goal.loop-left-preserved
loop-left-preserved c =
    let may = passes_may_be_marked c.args.state c.args.tick c.args.path_nodes.now c.args.passes.now c.args.milestones.now c.requires.milestones c.requires.in_turn in
    let some = c.loop-left-test.true in
    let within = c.loop-left.invariant.within in
    let p = c.loop-left.left - 1 in
    let milestone : Milestone = record { place = 0; index = 0 } in
    let idx = (get_or c.args.milestones.now p milestone).index in
    let mark : c.first_tick-mark.result ≡ or_this (get_or c.loop-left.passes idx no_pass).1 (has_happened c.args.state (get_or c.args.path_nodes.now idx no_node).event) c.args.tick =
    c.first_tick-mark.ensures ∙ ap (λ b. or_this (get_or c.loop-left.passes idx no_pass).1 b c.args.tick) c.has_happened.ensures in
    record {
      within = omega arith;
      marked =
          goes_on (pass_made c.args.state c.args.tick) (λ (n : PathNode). n.event.place) (λ (p : NodeNo × Option ℕ). p.1) c.args.path_nodes.now c.args.passes.now no_node no_pass c.args.milestones.now c.args.tick c.args.state.x may c.loop-left.left c.loop-left.settled c.loop-left.passes c.loop-left.invariant.marked
          p (omega arith) within _ (ap (λ m. ((get_or c.args.path_nodes.now idx no_node).node, m)) mark) _ c.settled_by-settled.ensures;
    }

pub bounds-path_nodes-milestone : goal.bounds-path_nodes-milestone
bounds-path_nodes-milestone c =
    let may = passes_may_be_marked c.args.state c.args.tick c.args.path_nodes.now c.args.passes.now c.args.milestones.now c.requires.milestones c.requires.in_turn in
    let some = c.loop-left-test.true in
    let within = c.loop-left.invariant.within in
    let known = index_in (pass_made c.args.state c.args.tick) (λ (n : PathNode). n.event.place) (λ (p : NodeNo × Option ℕ). p.1) c.args.path_nodes.now c.args.passes.now no_node no_pass c.args.milestones.now c.args.tick c.args.state.x may (c.loop-left.left - 1) (omega arith) in
    let count = c.loop-left.invariant.marked.count in
    let as_many = may.as_many in
    omega arith

pub bounds-passes-milestone : goal.bounds-passes-milestone
bounds-passes-milestone c =
    let may = passes_may_be_marked c.args.state c.args.tick c.args.path_nodes.now c.args.passes.now c.args.milestones.now c.requires.milestones c.requires.in_turn in
    let some = c.loop-left-test.true in
    let within = c.loop-left.invariant.within in
    let known = index_in (pass_made c.args.state c.args.tick) (λ (n : PathNode). n.event.place) (λ (p : NodeNo × Option ℕ). p.1) c.args.path_nodes.now c.args.passes.now no_node no_pass c.args.milestones.now c.args.tick c.args.state.x may (c.loop-left.left - 1) (omega arith) in
    let count = c.loop-left.invariant.marked.count in
    let as_many = may.as_many in
    omega arith

pub bounds-passes-milestone-in-loop-left : goal.bounds-passes-milestone-in-loop-left
bounds-passes-milestone-in-loop-left c =
    let may = passes_may_be_marked c.args.state c.args.tick c.args.path_nodes.now c.args.passes.now c.args.milestones.now c.requires.milestones c.requires.in_turn in
    let some = c.loop-left-test.true in
    let within = c.loop-left.invariant.within in
    let known = index_in (pass_made c.args.state c.args.tick) (λ (n : PathNode). n.event.place) (λ (p : NodeNo × Option ℕ). p.1) c.args.path_nodes.now c.args.passes.now no_node no_pass c.args.milestones.now c.args.tick c.args.state.x may (c.loop-left.left - 1) (omega arith) in
    let count = c.loop-left.invariant.marked.count in
    let as_many = may.as_many in
    omega arith

pub offset_bounds-path_nodes-milestone : goal.offset_bounds-path_nodes-milestone
offset_bounds-path_nodes-milestone c =
    let may = passes_may_be_marked c.args.state c.args.tick c.args.path_nodes.now c.args.passes.now c.args.milestones.now c.requires.milestones c.requires.in_turn in
    let some = c.loop-left-test.true in
    let within = c.loop-left.invariant.within in
    let known = index_in (pass_made c.args.state c.args.tick) (λ (n : PathNode). n.event.place) (λ (p : NodeNo × Option ℕ). p.1) c.args.path_nodes.now c.args.passes.now no_node no_pass c.args.milestones.now c.args.tick c.args.state.x may (c.loop-left.left - 1) (omega arith) in
    let count = c.loop-left.invariant.marked.count in
    let as_many = may.as_many in
    omega arith

pub offset_bounds-passes-milestone : goal.offset_bounds-passes-milestone
offset_bounds-passes-milestone c =
    let may = passes_may_be_marked c.args.state c.args.tick c.args.path_nodes.now c.args.passes.now c.args.milestones.now c.requires.milestones c.requires.in_turn in
    let some = c.loop-left-test.true in
    let within = c.loop-left.invariant.within in
    let known = index_in (pass_made c.args.state c.args.tick) (λ (n : PathNode). n.event.place) (λ (p : NodeNo × Option ℕ). p.1) c.args.path_nodes.now c.args.passes.now no_node no_pass c.args.milestones.now c.args.tick c.args.state.x may (c.loop-left.left - 1) (omega arith) in
    let count = c.loop-left.invariant.marked.count in
    let as_many = may.as_many in
    omega arith

pub offset_bounds-passes-milestone-in-loop-left : goal.offset_bounds-passes-milestone-in-loop-left
offset_bounds-passes-milestone-in-loop-left c =
    let may = passes_may_be_marked c.args.state c.args.tick c.args.path_nodes.now c.args.passes.now c.args.milestones.now c.requires.milestones c.requires.in_turn in
    let some = c.loop-left-test.true in
    let within = c.loop-left.invariant.within in
    let known = index_in (pass_made c.args.state c.args.tick) (λ (n : PathNode). n.event.place) (λ (p : NodeNo × Option ℕ). p.1) c.args.path_nodes.now c.args.passes.now no_node no_pass c.args.milestones.now c.args.tick c.args.state.x may (c.loop-left.left - 1) (omega arith) in
    let count = c.loop-left.invariant.marked.count in
    let as_many = may.as_many in
    omega arith

pub returns-else-settled-milestones-clause-marked : goal.returns-else-settled-milestones-clause-marked
returns-else-settled-milestones-clause-marked c =
    let may = passes_may_be_marked c.args.state c.args.tick c.args.path_nodes.now c.args.passes.now c.args.milestones.now c.requires.milestones c.requires.in_turn in
    ends (pass_made c.args.state c.args.tick) (λ (n : PathNode). n.event.place) (λ (p : NodeNo × Option ℕ). p.1) c.args.path_nodes.now c.args.passes.now no_node no_pass c.args.milestones.now c.args.tick c.args.state.x may c.loop-left.left c.loop-left.settled c.loop-left.passes c.loop-left.invariant.marked c.loop-left.invariant.within
    (λ some. let h = c.if-settled-milestones.false in omega arith)

pub returns-after-loop-left-clause-marked : goal.returns-after-loop-left-clause-marked
returns-after-loop-left-clause-marked c =
    let may = passes_may_be_marked c.args.state c.args.tick c.args.path_nodes.now c.args.passes.now c.args.milestones.now c.requires.milestones c.requires.in_turn in
    ends (pass_made c.args.state c.args.tick) (λ (n : PathNode). n.event.place) (λ (p : NodeNo × Option ℕ). p.1) c.args.path_nodes.now c.args.passes.now no_node no_pass c.args.milestones.now c.args.tick c.args.state.x may c.loop-left.left c.loop-left.settled c.loop-left.passes c.loop-left.invariant.marked c.loop-left.invariant.within
    (λ some. let h = c.loop-left-test.false in absurd (omega arith))
