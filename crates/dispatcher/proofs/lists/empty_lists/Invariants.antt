use Rattle.std.proofs.Common.{◌≡◌, ℕ, [], length}
use Rattle.rail_base.specs.Numbering.{entry}
use Rattle.dispatcher.proofs.lists.empty_lists.Given as goal

abbrev pub invariant-loop-number : goal.invariant-loop-number
invariant-loop-number g l = record { many : length l.lists.items ≡ l._number; empty : (n : ℕ) → entry [] l.lists.items n ≡ [] }
