use Rattle.std.proofs.Common.{◌≡◌, drop}
use Rattle.sat_clause.specs.Hints.{open_lits}
use Rattle.sat_trail.specs.Trails.{lits}
use Rattle.sat_trail.specs.Scans.{status_of}
use Rattle.sat_trail.proofs.Statuses.{looked}
use Rattle.sat_trail.proofs.scan.clause_status.Given as goal

abbrev pub invariant-loop-l : goal.invariant-loop-l
invariant-loop-l v = status_of (lits v.trail.steps) v.clause ≡ looked (lits v.trail.steps) v.found (open_lits (lits v.trail.steps) (drop v.l-index v.clause))
