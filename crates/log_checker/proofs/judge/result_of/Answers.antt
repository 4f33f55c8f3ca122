use Rattle.std.proofs.Common.{arith, length, ◌≤◌}
use Rattle.rail_text.specs.Cursors.{lines_left}
use Rattle.log_checker.proofs.Counted.{few}
use Rattle.log_checker.proofs.judge.result_of.Goals as goal

pub judge_lines-requires : goal.judge_lines-requires
judge_lines-requires g c =
    let few : length (lines_left c.next.new.self) ≤ length c.args.bytes.now = few c.args.bytes.now _ _ _ c.new-lines.ensures c.in-Some.ensures.steps in
    record { below_2_64 = omega arith }
