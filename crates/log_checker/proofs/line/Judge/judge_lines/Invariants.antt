use Rattle.std.proofs.Common.{◌≡◌, ◌+◌, length}
use Rattle.rail_text.specs.Cursors.{lines_left}
use Rattle.log_checker.specs.Verdict.{at_first, result_from}
use Rattle.log_checker.proofs.line.Judge.judge_lines.Given as goal

abbrev pub invariant-lines : goal.invariant-lines
invariant-lines g l = record {
  value : result_from l.self.head (g.R.Refuter.refute l.self.refuter.now) l.self.variables 2 (at_first l.fn.base) (lines_left l.fn.lines) ≡ result_from l.self.head (g.R.Refuter.refute l.self.refuter.now) l.self.variables l.here l.database (lines_left l.piece-iterator);
  count : l.here + length (lines_left l.piece-iterator) ≡ 2 + length (lines_left l.fn.lines);
}
