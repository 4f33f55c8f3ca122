use Rattle.std.proofs.Common.{◌≡◌, ◌≤◌, take}
use Rattle.std.specs.List.{concat}
use Rattle.rail_outside.specs.Growth.{grown}
use Rattle.rail_outside.specs.Lines.{lines_of}
use Rattle.rail_outside.proofs.print.put_lines.Given as goal

abbrev pub invariant-loop-line : goal.invariant-loop-line
invariant-loop-line g l = record {
  puts : g.O.Sink.puts l.out ≡ grown (g.O.Sink.puts l.initial.out) (take l.line-index (lines_of l.lines));
  written : g.O.Sink.written l.out ≡ grown (g.O.Sink.written l.initial.out) (concat (take l.line-index (lines_of l.lines)));
  never_falls : g.O.Sink.fault_count l.initial.out ≤ g.O.Sink.fault_count l.out;
}
