use Rattle.std.proofs.Common.{◌≡◌, ◌-◌, [], map}
use Rattle.rail_base.specs.Numbering.{entry, one_to}
use Rattle.command_set.specs.Blocks.{member_count}
use Rattle.command_set.specs.Rows.{places_in}
use Rattle.command_set.proofs.places.places_of.Given as goal

-- those so far
abbrev pub invariant-loop-row : goal.invariant-loop-row
invariant-loop-row l = record {
  placed : l.places.items ≡ map (λ t. places_in l.routes (entry [] l.rows t) (member_count (entry [] l.rows) 1 (t - 1))) (one_to l.row-index);
  sum : l.before ≡ member_count (entry [] l.rows) 1 l.row-index;
}
