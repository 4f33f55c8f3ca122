use Rattle.std.proofs.Common.{◌+◌, ◌-◌, ◌++◌, List, ℕ, ap, flat_map, length, ◌∙◌, arith}
use Rattle.rail_base.specs.Numbering.{count_from}
use Rattle.look_words.specs.Looks.{within_looks}
use Rattle.look_words.proofs.Counted.{lists_more}
use Rattle.look_words.proofs.looks.push_withins.Goals as goal

pub loop-number-preserved : goal.loop-number-preserved
loop-number-preserved c =
    let d = c.args.design.now.station in
    let l = c.loop-number in
    let many = length d.withins in
    let left = flat_map (within_looks d) (count_from (l.number + 1) (many + 1 - (l.number + 1))) in
    ap (λ (ls : List (List ℕ)). ls ++ left) c.in_ok-push_short_within.ensures
    ∙ lists_more (within_looks d) _ _ l.number many (omega (arith, c.len-withins.ensures, c.loop-number-test.true)) l.invariant
