use Rattle.std.proofs.Common.{map, None, ap, ◌∙◌}
use Rattle.rail_base.proofs.Admitting.{admitted}
use Rattle.rail_base.specs.declared.state.PathNode.{PathNode}
use Rattle.rail_course.specs.declared.journey.Hold.{Hold}
use Rattle.rail_course.specs.declared.journey.Release.{Release}
use Rattle.tick_sim.proofs.Marking.{history_begins}
use Rattle.tick_sim.proofs.ride.Ride.first_history.Goals as goal

pub returns : goal.returns
returns c =
    let train_path = c.args.self.now.led.train_path in
    let as_many = ((admitted c.args.self.now.run.now.interlocking.now.design.station c.args.self.now.run.now.interlocking.now.design.admitted).train c.args.self.now.journey.now.train_path.train train_path.train).dwells in
    history_begins c.args.self.now.run.now.interlocking.now.design.station c.args.self.now.run.now.interlocking.now.routes c.args.self.now.run.now.plan.now.steps c.args.self.now.journey.now.train_path.train as_many c.from_vec.result c.from_vec-2.result c.from_vec-3.result c.from_vec-4.result c.from_vec-5.result c.from_vec-6.result
    (c.from_vec.ensures ∙ c.in_ok-grants.ensures ∙ ap (map (λ r. (r, None))) (c.as_slice.ensures.value ∙ train_path.given))
    (c.from_vec-2.ensures ∙ c.in_ok-passes.ensures ∙ ap (map (λ (path_node : PathNode). (path_node.node, None))) (c.as_slice-2.ensures.value ∙ train_path.nodes))
    (c.from_vec-3.ensures ∙ c.in_ok-releases.ensures ∙ ap (map (λ (r : Release). (r.route, r.section, None))) (c.as_slice-3.ensures.value ∙ c.args.self.now.led.releasing))
    (c.from_vec-4.ensures ∙ c.in_ok-holds.ensures ∙ ap (map (λ (h : Hold). (h.route, h.section, None))) (c.as_slice-4.ensures.value ∙ c.args.self.now.led.holding))
    (c.from_vec-5.ensures ∙ c.in_ok-visits.ensures ∙ ap (map (λ x. None)) (c.as_slice-5.ensures.value ∙ train_path.visits))
    (c.from_vec-6.ensures ∙ c.in_ok-dwells.ensures ∙ ap (map (λ x. None)) (c.as_slice-6.ensures.value ∙ train_path.dwells))
