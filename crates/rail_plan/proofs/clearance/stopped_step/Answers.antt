use Rattle.std.proofs.Common.{◌≡◌, ℕ, ◌<◌, List, length, flat_map, sym, ap, ◌∙◌, arith}
use Rattle.rail_base.specs.declared.station.Station.{Station}
use Rattle.rail_base.specs.declared.route.Route.{Route}
use Rattle.rail_base.specs.declared.plan.Command.{Command}
use Rattle.rail_base.specs.Numbering.{first_of_list, one_to}
use Rattle.rail_plan.specs.declared.place.PlanPlace.{PlanPlace}
use Rattle.rail_plan.specs.Ahead.{stopped, stopped_in}
use Rattle.rail_plan.proofs.Firsts.{walk_start, walk_on, walk_kept, walk_end, flat_map-map, is_none_of}
use Rattle.rail_plan.proofs.clearance.stopped_step.Goals as goal

-- the places of the train of a number
abbrev places : Station → List Route → List (List Command) → List Command → ℕ → List PlanPlace
places d routes before step n = stopped_in d routes before step (record { 0 = n })

numbered : (d : Station) (routes : List Route) (before : List (List Command)) (step : List Command) → stopped d routes before step ≡ flat_map (places d routes before step) (one_to (length d.trains))
numbered d routes before step = flat_map-map (stopped_in d routes before step) (λ n. record { 0 = n }) (one_to (length d.trains))

pub loop-index-init : goal.loop-index-init
loop-index-init c =
    let d = c.args.interlocking.now.design.station in
    walk_start (places d c.args.interlocking.now.routes c.args.before.now c.args.step.now) (length d.trains) ∙ ap first_of_list (sym (numbered d c.args.interlocking.now.routes c.args.before.now c.args.step.now))

pub returns-then-is_some : goal.returns-then-is_some
returns-then-is_some c =
    let d = c.args.interlocking.now.design.station in
    let here : c.loop-index.index < length d.trains = omega arith in
    sym (walk_kept (places d c.args.interlocking.now.routes c.args.before.now c.args.step.now) (length d.trains) c.loop-index.index c.stopped_train-place.result here c.stopped_train-place.ensures (sym c.is_some.ensures ∙ c.if-is_some.true)) ∙ c.loop-index.invariant

pub loop-index-preserved : goal.loop-index-preserved
loop-index-preserved c =
    let d = c.args.interlocking.now.design.station in
    let here : c.loop-index.index < length d.trains = omega arith in
    sym (walk_on (places d c.args.interlocking.now.routes c.args.before.now c.args.step.now) (length d.trains) c.loop-index.index here (is_none_of c.stopped_train-place.result (sym c.is_some.ensures ∙ c.if-is_some.false) ∙ c.stopped_train-place.ensures)) ∙ c.loop-index.invariant

pub returns : goal.returns
returns c =
    let d = c.args.interlocking.now.design.station in
    sym (walk_end (places d c.args.interlocking.now.routes c.args.before.now c.args.step.now) (length d.trains) c.loop-index.index (omega arith)) ∙ c.loop-index.invariant
