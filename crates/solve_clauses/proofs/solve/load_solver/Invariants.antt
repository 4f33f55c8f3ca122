use Rattle.std.proofs.Common.{◌≡◌, [], take, flat_map}
use Rattle.sat_core.specs.Listing.{text_of_line}
use Rattle.solve_clauses.proofs.solve.load_solver.Given as goal

-- so many clauses are there, and nothing else has changed
abbrev pub invariant-clauses : goal.invariant-clauses
invariant-clauses l = record {
  clauses_are : l.solver.arena ≡ take l.done l.clauses;
  no_lines : flat_map text_of_line l.solver.recorder.lines.items ≡ [];
  same_vars : l.solver.vars ≡ l.vars;
  none_derived : l.solver.derives ≡ 0;
  none_learnt : l.solver.learnt.items ≡ [];
}
