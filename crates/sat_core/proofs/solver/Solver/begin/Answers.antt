use Rattle.std.proofs.Common.{ap, ◌∙◌}
use Rattle.sat_trail.specs.View.{View}
use Rattle.sat_core.proofs.Kept.{anew-holds}
use Rattle.sat_core.proofs.solver.Solver.begin.Goals as goal

pub invariant_of-self : goal.invariant_of-self
invariant_of-self g c =
    let old = c.args.self.now in
    record {
      counted_alike = old.counted_alike;
      holds = anew-holds old.arena old.trail c.begin_question.new.self _ old.vars c.begin_question.ensures old.holds;
      counted = old.counted;
      lines = ap (λ (v : View). v.parts.lines) c.begin_question.ensures ∙ old.lines;
      ascending = old.ascending;
      alive = old.alive;
    }
