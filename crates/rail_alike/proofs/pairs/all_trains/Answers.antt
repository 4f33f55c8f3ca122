use Rattle.std.proofs.Common.{ℕ, ◌+◌, ◌-◌, ◌<◌, ◌++◌, [], ◌∷◌, List, map, length, sym, ap, ◌∙◌, arith}
use Rattle.std.proofs.lemmas.List.{append_assoc}
use Rattle.rail_base.specs.declared.station.TrainNo.{TrainNo}
use Rattle.rail_base.specs.Numbering.{count_from}
use Rattle.rail_base.proofs.Lists.{count_next}
use Rattle.rail_alike.proofs.pairs.all_trains.Goals as goal

pub loop-number-preserved : goal.loop-number-preserved
loop-number-preserved c =
    let i = c.loop-number.number in
    let n = length c.args.design.now.station.trains + 1 in
    let named : ℕ → TrainNo = λ k. record { 0 = k } in
    let found : List TrainNo = c.loop-number.found.items in
    let within : i < n = (let e = c.len.ensures in let l = c.loop-number-test.true in omega arith) in
    ap (λ (ts : List TrainNo). ts ++ map named (count_from (i + 1) (n - (i + 1)))) c.in_ok-push.ensures.items
    ∙ (append_assoc found (named i ∷ []) (map named (count_from (i + 1) (n - (i + 1))))
    ∙ (ap (λ ks. found ++ map named ks) (sym (count_next i n within)) ∙ c.loop-number.invariant))
