use Rattle.std.proofs.Common.{◌+◌, ◌-◌, ◌++◌, List, ℕ, ap, flat_map, length, ◌∙◌, arith}
use Rattle.rail_base.specs.Numbering.{count_from}
use Rattle.look_words.specs.Entries.{open_entry}
use Rattle.look_words.proofs.Counted.{lists_more}
use Rattle.look_words.proofs.entries.push_open_entries.Goals as goal

pub loop-number-preserved : goal.loop-number-preserved
loop-number-preserved c =
    let said = open_entry c.args.interlocking.now.design.station c.args.interlocking.now.routes in
    let l = c.loop-number in
    let many = length c.args.interlocking.now.design.station.nodes in
    let left = flat_map said (count_from (l.number + 1) (many + 1 - (l.number + 1))) in
    ap (λ (ls : List (List ℕ)). ls ++ left) c.in_ok-push_open_entry.ensures
    ∙ lists_more said _ _ l.number many (omega (arith, c.len-nodes.ensures, c.loop-number-test.true)) l.invariant
