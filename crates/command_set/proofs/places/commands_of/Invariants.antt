use Rattle.std.proofs.Common.{◌≡◌, [], flat_map}
use Rattle.rail_base.specs.Numbering.{entry, one_to}
use Rattle.command_set.specs.Commands.{commands_in}
use Rattle.command_set.proofs.places.commands_of.Given as goal

-- those so far
abbrev pub invariant-loop-row : goal.invariant-loop-row
invariant-loop-row l = record {
  train : l.train ≡ l.row-index;
  commands : l.commands.items ≡ flat_map (λ t. commands_in t (entry [] l.rows t)) (one_to l.row-index);
}
