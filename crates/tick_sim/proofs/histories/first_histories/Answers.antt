use Rattle.std.proofs.Common.{map, ap, sym, ◌∙◌}
use Rattle.rail_base.proofs.Members.{map-map}
use Rattle.rail_spec.specs.Histories.{train_history}
use Rattle.rail_course.specs.declared.journey.Journey.{Journey}
use Rattle.tick_sim.proofs.histories.first_histories.Goals as goal

pub loop-journey-init : goal.loop-journey-init
loop-journey-init c =
    let history = train_history c.args.run.now.interlocking.now.design.station c.args.run.now.interlocking.now.routes c.args.run.now.plan.now.steps 0 in
    let items = c.new-histories.ensures.items in
    rw items (ap (map (λ (j : Journey). history j.train_path.train)) c.as_slice-journey-items.ensures.value ∙ sym (map-map history (λ (j : Journey). j.train_path.train) c.args.run.now.journeys.items) ∙ ap (map history) c.args.run.now.led.all)
