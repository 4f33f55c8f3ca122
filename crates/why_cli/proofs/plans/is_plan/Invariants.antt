use Rattle.std.proofs.Common.{◌≡◌, drop}
use Rattle.why_cli.specs.Plans.{is_plan}
use Rattle.why_cli.proofs.plans.is_plan.Given as goal

-- all bytes so far are blank
abbrev pub invariant-loop-byte : goal.invariant-loop-byte
invariant-loop-byte l = is_plan (drop l.byte-index l.text) ≡ is_plan l.text
