use Rattle.std.proofs.Common.{◌≡◌, ◌+◌, ◌<◌, List, length, map, take, get_or, sym, ap, subst, ◌∙◌}
use Rattle.rail_base.specs.declared.station.Train.{Train}
use Rattle.rail_plan.proofs.TrainNames.{names_more}
use Rattle.rail_plan.proofs.names.train_names.Goals as goal

pub loop-train-preserved : goal.loop-train-preserved
loop-train-preserved c =
    let d = c.args.design.now.station in
    let all : c.as_slice-train-items.result.now ≡ d.trains = c.as_slice-train-items.ensures in
    let i = c.loop-train.train-index in
    let t = c.train-item.result in
    let here : i < length d.trains = subst (λ (ts : List Train). i < length ts) all c.loop-train-test.true in
    names_more d c.args.design.now.admitted i t here (c.train-item.is ∙ ap (λ (ts : List Train). get_or ts i t) all) c.loop-train.names.keys _ _
    (c.loop-train.invariant ∙ ap (λ (ts : List Train). map (λ (u : Train). u.name) (take i ts)) all) c.as_bytes.ensures c.in_ok-insert.ensures.keys
    ∙ ap (λ (ts : List Train). map (λ (u : Train). u.name) (take (i + 1) ts)) (sym all)
