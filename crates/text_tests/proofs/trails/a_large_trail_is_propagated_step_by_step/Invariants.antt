use Rattle.std.proofs.Common.{◌≡◌}
use Rattle.sat_trail.specs.Attached.{AreLive}
use Rattle.sat_trail.specs.Trails.{IsTrail}
use Rattle.sat_trail.specs.Forced.{VarsUpTo}
use Rattle.text_tests.proofs.trails.a_large_trail_is_propagated_step_by_step.Given as goal

abbrev pub invariant-clauses : goal.invariant-clauses
invariant-clauses g l = record { attached : AreLive l.arena l.trail.attached; trail : IsTrail l.arena l.trail.steps; vars : VarsUpTo l.arena l.trail.vars; same : l.trail.vars ≡ 500000 }
