use Rattle.std.proofs.Common.{[], ◌∷◌, map, ap, sym, ◌∙◌}
use Rattle.rail_base.specs.declared.station.TrainNo.{TrainNo}
use Rattle.rail_base.specs.declared.state.TrainState.{TrainState}
use Rattle.rail_base.specs.Stations.{trains}
use Rattle.rail_base.proofs.Members.{map-map}
use Rattle.rail_spec.specs.Dispatches.{ago, idle}
use Rattle.rail_course.specs.declared.journey.Journey.{Journey}
use Rattle.tick_sim.proofs.verdicts.first_states.Goals as goal

pub loop-journey-init : goal.loop-journey-init
loop-journey-init c =
    let begin : TrainNo → TrainState = λ t. idle in
    let items = c.new-states.ensures.items in
    rw items (ap (map (λ (j : Journey). begin j.train_path.train)) c.as_slice-journey-items.ensures.value ∙ sym (map-map begin (λ (j : Journey). j.train_path.train) c.args.run.now.journeys.items) ∙ ap (map begin) c.args.run.now.led.all
    ∙ sym (map-map (ago 0) (λ t. idle ∷ []) (trains c.args.run.now.interlocking.now.design.station)))
