use Rattle.std.proofs.Common.{◌≡◌, drop, find}
use Rattle.plan_faults.specs.Reasons.{end_alike}
use Rattle.plan_faults.proofs.reasons.ends_alike.Given as goal

abbrev pub invariant-loop-other : goal.invariant-loop-other
invariant-loop-other l = find (end_alike l.routes l.route) (drop l.other-index l.before) ≡ find (end_alike l.routes l.route) l.before
