use Rattle.sat_core.specs.Kept.{AreAttachedTo}
use Rattle.sat_core.proofs.attaching.attach_all.Given as goal

-- so many clauses are attached, as far as they are live
abbrev pub invariant-clauses : goal.invariant-clauses
invariant-clauses l = AreAttachedTo l.arena l.fn.trail l.done l.trail
