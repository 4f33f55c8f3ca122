use Rattle.std.proofs.Common.{◌≡◌, drop}
use Rattle.bound_design.specs.Covered.{legs_follow}
use Rattle.bound_design.proofs.before.legs_follow.Given as goal

-- it is so on those so far
abbrev pub invariant-loop-leg : goal.invariant-loop-leg
invariant-loop-leg l = legs_follow l.interlocking (drop l.leg-index l.legs) ≡ legs_follow l.interlocking l.legs
