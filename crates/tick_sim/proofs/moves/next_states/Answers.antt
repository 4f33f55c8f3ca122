use Rattle.std.proofs.Common.{◌++◌, map, ap, sym, ◌∙◌, arith}
use Rattle.std.proofs.lemmas.List.{append-nil, drop_all}
use Rattle.rail_base.proofs.Members.{map-map}
use Rattle.rail_course.specs.declared.journey.Journey.{Journey}
use Rattle.tick_sim.specs.Running.{moved_next}
use Rattle.tick_sim.proofs.Gathering.{made_more}
use Rattle.tick_sim.proofs.Moving.{states_next}
use Rattle.tick_sim.proofs.moves.next_states.Goals as goal

pub loop-journey-init : goal.loop-journey-init
loop-journey-init c = λ k reached.
    let r = c.args.run.now in
    let train = λ (j : Journey). j.train_path.train in
    ap (λ xs. xs ++ map (λ (j : Journey). moved_next r k (train j)) c.as_slice-journey-items.result.now) c.new-next.ensures.items
    ∙ ap (map (λ (j : Journey). moved_next r k (train j))) c.as_slice-journey-items.ensures.value ∙ sym (map-map (moved_next r k) train r.journeys.items) ∙ ap (map (moved_next r k)) r.led.all ∙ states_next r k

pub loop-journey-preserved : goal.loop-journey-preserved
loop-journey-preserved c = λ k reached.
    let r = c.args.run.now in
    made_more (λ (j : Journey). moved_next r k j.train_path.train) c.loop-journey.next.items c.push.new.self.items c.as_slice-journey-items.result.now c.loop-journey.journey-index c.journey-item.result c.next_state.result _ c.loop-journey-test.true c.journey-item.is c.in_ok-push.ensures.items (c.next_state.ensures k reached) (c.loop-journey.invariant k reached)

pub returns : goal.returns
returns c = λ k reached.
    let past = c.loop-journey-test.false in
    let none = drop_all c.loop-journey.journey-index c.as_slice-journey-items.result.now (omega (arith, past)) in
    sym (append-nil c.loop-journey.next.items) ∙ ap (λ js. c.loop-journey.next.items ++ map (λ (j : Journey). moved_next c.args.run.now k j.train_path.train) js) (sym none) ∙ c.loop-journey.invariant k reached
