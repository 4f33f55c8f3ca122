use Rattle.std.proofs.Common.{◌≡◌, ◌-◌, ◌+◌, map, option_map}
use Rattle.rail_base.specs.Numbering.{one_to}
use Rattle.rail_spec.specs.Plans.{is_route}
use Rattle.command_set.specs.Commands.{first_place}
use Rattle.command_set.proofs.places.places_in.Given as goal

-- those so far
abbrev pub invariant-loop-number : goal.invariant-loop-number
invariant-loop-number l = l.places.items ≡ map (λ r. option_map (λ within. l.before + within) (first_place (is_route (record { 0 = r })) l.row)) (one_to (l.number - 1))
