use Rattle.std.proofs.Common.{◌-◌, get_or, map, ap, sym, ◌∙◌}
use Rattle.std.proofs.lemmas.List.{get_or-map}
use Rattle.rail_base.proofs.Members.{map-map}
use Rattle.rail_spec.specs.Histories.{train_history}
use Rattle.rail_course.specs.declared.journey.Journey.{Journey}
use Rattle.tick_sim.proofs.histories.next_histories.Goals as goal

pub loop-i-init : goal.loop-i-init
loop-i-init c =
    let history = train_history c.args.run.now.interlocking.now.design.station c.args.run.now.interlocking.now.routes c.args.run.now.plan.now.steps c.args.tick in
    let items = c.new-histories.ensures.items in
    rw items (ap (map (λ (j : Journey). history j.train_path.train)) c.as_slice-journeys.ensures.value ∙ sym (map-map history (λ (j : Journey). j.train_path.train) c.args.run.now.journeys.items) ∙ ap (map history) c.args.run.now.led.all)

pub next_history-requires-clause-before : goal.next_history-requires-clause-before
next_history-requires-clause-before c =
    let history = train_history c.args.run.now.interlocking.now.design.station c.args.run.now.interlocking.now.routes c.args.run.now.plan.now.steps (c.args.tick - 1) in
    let train = λ (j : Journey). j.train_path.train in
    let js = c.as_slice-journeys.result.now in
    c.index-olds-i.is ∙ ap (λ hs. get_or hs c.loop-i.i c.index-olds-i.result) (c.as_slice-olds.ensures ∙ c.requires.before ∙ ap (map history) (sym c.args.run.now.led.all ∙ ap (map train) (sym c.as_slice-journeys.ensures.value)) ∙ map-map history train js)
    ∙ get_or-map (λ j. history (train j)) js c.loop-i.i c.index-journeys-i.result c.index-olds-i.result c.loop-i-test.true
    ∙ ap (λ (j : Journey). history (train j)) (sym c.index-journeys-i.is)
