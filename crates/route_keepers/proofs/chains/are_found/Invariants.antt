use Rattle.std.proofs.Common.{◌≡◌, ◌++◌, drop, map}
use Rattle.std.specs.Prelude.{is_some}
use Rattle.route_keepers.proofs.chains.are_found.Given as goal

abbrev pub invariant-loop-steps : goal.invariant-loop-steps
invariant-loop-steps l = l.row ++ map is_some (drop l.steps-index l.found) ≡ map is_some l.found
