use Rattle.std.proofs.Common.{◌≡◌, drop}
use Rattle.plan_names.specs.Shown.{same_names}
use Rattle.plan_names.proofs.numbers.are_same.Given as goal

-- they are the same where those from here on are
abbrev pub invariant-loop-index : goal.invariant-loop-index
invariant-loop-index l = same_names l.one l.other ≡ same_names (drop l.index l.one) (drop l.index l.other)
