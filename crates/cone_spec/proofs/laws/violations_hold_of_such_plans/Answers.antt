use Rattle.cone_spec.proofs.Failing.{certain_of}
use Rattle.cone_spec.proofs.Refusing.{rests_of, shown_of, timed_of}
use Rattle.std.proofs.Common.{refl}
use Rattle.cone_spec.proofs.laws.violations_hold_of_such_plans.Goals as goal

pub returns : goal.returns
returns c = λ d routes n k plan r admitted. let found = certain_of d routes n k plan (rests_of d routes n k plan r) (timed_of d admitted) k.violation refl (shown_of d routes n k plan r) in (found.at, found.by_horizon, found.certain)
