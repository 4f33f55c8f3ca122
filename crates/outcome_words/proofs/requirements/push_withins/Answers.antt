use Rattle.std.proofs.Common.{◌+◌, ◌-◌, ◌++◌, List, ℕ, ap, length, map, ◌∙◌, arith}
use Rattle.rail_base.specs.Numbering.{count_from}
use Rattle.rail_outside.specs.Lines.{lines_of}
use Rattle.asked_words.proofs.Counted.{lines_more, put_more}
use Rattle.outcome_words.specs.Requirements.{within_line}
use Rattle.outcome_words.proofs.requirements.push_withins.Goals as goal

pub loop-number-preserved : goal.loop-number-preserved
loop-number-preserved c =
    let d = c.args.design.now.station in
    let l = c.loop-number in
    let line = within_line d c.args.history.now c.args.last in
    let many = length d.withins in
    let left = map line (count_from (l.number + 1) (many + 1 - (l.number + 1))) in
    ap (λ (ls : List (List ℕ)). ls ++ left) (ap lines_of c.in_ok-push.ensures.items ∙ lines_more l.lines.items c.in_ok-line.line)
    ∙ put_more line (lines_of l.lines.items) _ l.number many _ (omega (arith, c.len-withins.ensures, c.loop-number-test.true)) c.in_ok-line.ensures l.invariant
