use Rattle.std.proofs.Common.{◌+◌, ◌-◌, ◌++◌, List, ℕ, ap, flat_map, length, map, ◌∙◌, arith}
use Rattle.rail_base.specs.Numbering.{count_from}
use Rattle.asked_words.specs.Asked.{train_lines}
use Rattle.asked_words.proofs.Counted.{train_more}
use Rattle.asked_words.proofs.asked.push_trains.Goals as goal

pub loop-number-preserved : goal.loop-number-preserved
loop-number-preserved c =
    let d = c.args.design.now.station in
    let l = c.loop-number in
    let many = length d.trains in
    let left = flat_map (train_lines d) (map (λ (k : ℕ). record { 0 = k }) (count_from (l.number + 1) (many + 1 - (l.number + 1)))) in
    ap (λ (ls : List (List ℕ)). ls ++ left) c.in_ok-push_train.ensures
    ∙ train_more (train_lines d) _ _ l.number many (omega (arith, c.len-trains.ensures, c.loop-number-test.true)) l.invariant
