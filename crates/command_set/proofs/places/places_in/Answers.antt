use Rattle.std.proofs.Common.{◌+◌, ◌++◌, ◌∷◌, [], option_map, sym, ap₂, ◌∙◌, arith}
use Rattle.rail_spec.specs.Plans.{is_route}
use Rattle.command_set.specs.Commands.{first_place}
use Rattle.command_set.proofs.Lists.{next_cell}
use Rattle.command_set.proofs.places.places_in.Goals as goal

pub loop-number-preserved : goal.loop-number-preserved
loop-number-preserved c =
    c.in_ok-push.ensures.items
    ∙ (ap₂ (λ xs x. xs ++ x ∷ []) c.loop-number.invariant c.place_in.ensures
    ∙ sym (next_cell (λ r. option_map (λ within. c.args.before + within) (first_place (is_route (record { 0 = r })) c.args.row.now)) c.loop-number.number (let a = c.loop-number.auto.number in omega arith)))
