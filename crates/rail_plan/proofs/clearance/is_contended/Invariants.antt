use Rattle.std.proofs.Common.{◌≡◌, drop}
use Rattle.std.specs.List.{list_any}
use Rattle.rail_spec.specs.Plans.{contend}
use Rattle.rail_plan.proofs.clearance.is_contended.Given as goal

-- none so far does
abbrev pub invariant-loop-other : goal.invariant-loop-other
invariant-loop-other l = list_any (λ other. contend l.interlocking.routes other l.command) (drop l.other-index l.other-items) ≡ list_any (λ other. contend l.interlocking.routes other l.command) l.other-items
