use Rattle.std.proofs.Common.{◌+◌, ◌-◌, ◌++◌, List, ℕ, ap, flat_map, length, map, ◌∙◌, arith}
use Rattle.rail_base.specs.Numbering.{count_from}
use Rattle.asked_words.proofs.Counted.{train_more}
use Rattle.outcome_words.specs.Runs.{of_shown}
use Rattle.outcome_words.specs.Stands.{train_lines}
use Rattle.outcome_words.proofs.waiting.push_trains.Goals as goal

pub loop-number-preserved : goal.loop-number-preserved
loop-number-preserved c =
    let run = c.args.run.now in
    let l = c.loop-number in
    let lines = of_shown run train_lines in
    let many = length run.interlocking.now.design.station.trains in
    let left = flat_map lines (map (λ (k : ℕ). record { 0 = k }) (count_from (l.number + 1) (many + 1 - (l.number + 1)))) in
    ap (λ (ls : List (List ℕ)). ls ++ left) c.in_ok-push_train.ensures
    ∙ train_more lines _ _ l.number many (omega (arith, c.len-trains.ensures, c.loop-number-test.true)) l.invariant
