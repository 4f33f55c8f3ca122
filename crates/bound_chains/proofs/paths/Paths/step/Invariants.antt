use Rattle.std.proofs.Common.{◌≡◌, drop, find}
use Rattle.rail_spec.specs.Plans.{is_route}
use Rattle.bound_chains.specs.declared.paths.Given.{Given}
use Rattle.bound_chains.proofs.paths.Paths.step.Given as goal

-- none so far has the route
abbrev pub invariant-loop-given : goal.invariant-loop-given
invariant-loop-given l =
    let has = λ (given : Given). is_route given.command.route l.command.route in
    find has (drop l.given-index l.given-items) ≡ find has l.given-items
