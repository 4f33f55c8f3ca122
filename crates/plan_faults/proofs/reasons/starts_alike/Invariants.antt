use Rattle.std.proofs.Common.{◌≡◌, drop, find}
use Rattle.plan_faults.specs.Reasons.{start_alike}
use Rattle.plan_faults.proofs.reasons.starts_alike.Given as goal

abbrev pub invariant-loop-other : goal.invariant-loop-other
invariant-loop-other l = find (start_alike l.routes l.route) (drop l.other-index l.before) ≡ find (start_alike l.routes l.route) l.before
