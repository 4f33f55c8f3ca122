use Rattle.std.proofs.Common.{ap, ap₂, sym, ◌∙◌}
use Rattle.rail_base.proofs.Admitting.{admitted}
use Rattle.rail_spec.specs.Dispatches.{state_of}
use Rattle.rail_course.specs.Marks.{mark_grants, mark_passes, mark_releases, mark_holds, mark_visits, mark_dwells}
use Rattle.rail_course.proofs.Granting.{laid_out, plan_in_range}
use Rattle.tick_sim.proofs.Marking.{history_goes_on}
use Rattle.tick_sim.proofs.ride.Ride.next_history.Goals as goal

pub returns : goal.returns
returns c =
    let train_path = c.args.self.now.led.train_path in
    let t = c.args.self.now.journey.now.train_path.train in
    let s = c.state_of-state.result in
    let as_many = ((admitted c.args.self.now.run.now.interlocking.now.design.station c.args.self.now.run.now.interlocking.now.design.admitted).train c.args.self.now.journey.now.train_path.train train_path.train).dwells in
    let r = c.args.self.now.run.now in
    let i = r.interlocking.now in
    history_goes_on i.design.station i.routes r.plan.now.steps t as_many (laid_out i) (plan_in_range i r.plan.now.steps r.formed t).named c.args.tick c.requires.now.at_least_one s (c.state_of-state.ensures ∙ ap (λ x. state_of x t) c.requires.now.is) c.args.old.now c.requires.before
    c.from_vec.result c.from_vec-2.result c.from_vec-3.result c.from_vec-4.result c.from_vec-5.result c.from_vec-6.result
    (c.from_vec.ensures ∙ c.in_ok-grants.ensures ∙ ap (mark_grants s.granted c.args.tick) c.as_slice.ensures)
    (c.from_vec-2.ensures ∙ c.in_ok-passes.ensures ∙ ap₂ (mark_passes s c.args.tick) (c.as_slice-2.ensures.value ∙ train_path.nodes) c.as_slice-3.ensures)
    (c.from_vec-3.ensures ∙ c.in_ok-releases.ensures ∙ ap₂ (mark_releases s c.args.tick) (c.as_slice-4.ensures.value ∙ c.args.self.now.led.releasing) c.as_slice-5.ensures)
    (c.from_vec-4.ensures ∙ c.in_ok-holds.ensures ∙ ap (λ passes. mark_holds passes c.args.tick c.args.tick c.as_slice-7.result.now c.as_slice-8.result.now) (c.as_slice-6.ensures.value ∙ sym c.from_vec-2.ensures)
    ∙ ap₂ (mark_holds c.from_vec-2.result c.args.tick c.args.tick) (c.as_slice-7.ensures.value ∙ c.args.self.now.led.holding) c.as_slice-8.ensures)
    (c.from_vec-5.ensures ∙ c.in_ok-visits.ensures ∙ ap₂ (mark_visits s c.args.tick) (c.as_slice-9.ensures.value ∙ train_path.visits) c.as_slice-10.ensures)
    (c.from_vec-6.ensures ∙ c.in_ok-dwells.ensures ∙ ap₂ (mark_dwells s.stood c.args.tick) (c.as_slice-11.ensures.value ∙ train_path.dwells) c.as_slice-12.ensures)
