use Rattle.std.proofs.Common.{◌≡◌, drop, max}
use Rattle.rail_base.specs.Routes.{own_shared, release_offset}
use Rattle.bound_spec.specs.Rides.{greatest_of}
use Rattle.leg_targets.proofs.Greatest.{shared_of}
use Rattle.leg_targets.proofs.targets.greatest_release.Given as goal

-- the greatest so far, and of those left
abbrev pub invariant-loop-part : goal.invariant-loop-part
invariant-loop-part l = max l.greatest (greatest_of (release_offset l.route) (shared_of l.next (drop l.part-index l.route.sections))) ≡ greatest_of (release_offset l.route) (own_shared l.route l.next)
