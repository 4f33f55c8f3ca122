use Rattle.std.proofs.Common.{◌≡◌, ◌-◌, length, List}
use Rattle.sat_clause.specs.declared.lit.Lit.{Lit}
use Rattle.sat_core.specs.Runs.{state_of, Forgot}
use Rattle.sat_core.proofs.solver.Solver.forget_some.Given as goal

abbrev pub invariant-old : goal.invariant-old
invariant-old g l = record {
  vars : l.self.vars ≡ l.initial.self.vars;
  pace : l.self.trail.pace ≡ l.fn.self.trail.pace;
  parts : l.self.trail.parts ≡ l.fn.self.trail.parts;
  gone : (assumptions : List Lit) → Forgot assumptions
      (state_of l.fn.self.arena (g.R.Recorder.text l.fn.self.recorder) (g.R.Recorder.limit l.fn.self.recorder) l.fn.self.learnt.items l.fn.self.derives)
      (state_of l.self.arena (g.R.Recorder.text l.self.recorder) (g.R.Recorder.limit l.self.recorder) l.self.learnt.items l.self.derives);
}

abbrev pub decreases-old : goal.decreases-old
decreases-old g l = length l.places.items - l.done
