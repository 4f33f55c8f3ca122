use Rattle.std.proofs.Common.{◌≤◌, ◌-◌, length}
use Rattle.sat_trail.specs.Trails.{lits}
use Rattle.sat_core.specs.Models.{AreValuesOf}
use Rattle.sat_core.proofs.assignment.values_of.Given as goal

abbrev pub invariant-each : goal.invariant-each
invariant-each v = record { size : length v.values.items ≤ v.vars; makes_true : AreValuesOf (lits v.trail.steps) (length v.values.items) v.values.items }

abbrev pub decreases-each : goal.decreases-each
decreases-each v = v.vars - length v.values.items
