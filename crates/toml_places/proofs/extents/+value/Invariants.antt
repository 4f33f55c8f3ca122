use Rattle.std.proofs.Common.{◌≡◌, ℕ, ◌+◌, ◌*◌, ◌<◌, ◌≤◌, length}
use denote.Text.{Utf8}
use denote.Shadow.{shadow}
use Rattle.toml_places.specs.Extents.{past_items, past_members, past_value}
use Rattle.toml_places.proofs.extents.+value.Given as goal

abbrev pub decreases-past_items : goal.decreases-past_items
decreases-past_items l = 2 * l.depth + 2

abbrev pub decreases-past_members : goal.decreases-past_members
decreases-past_members l = 2 * l.depth + 2

abbrev pub decreases-past_value : goal.decreases-past_value
decreases-past_value l = 2 * l.depth + 1

abbrev pub invariant-past_items-items : goal.invariant-past_items-items
invariant-past_items-items l =
    shadow (Utf8 l.rest) × (length l.rest ≤ length l.fn.s)
    × ((n : ℕ) → length l.fn.s < n → (m : ℕ) × (length l.rest < m)
    × (past_items (past_value l.fn.depth) n l.fn.s ≡ past_items (past_value l.fn.depth) m l.rest))

abbrev pub decreases-past_items-items : goal.decreases-past_items-items
decreases-past_items-items l = length l.rest

abbrev pub invariant-past_members-members : goal.invariant-past_members-members
invariant-past_members-members l =
    shadow (Utf8 l.rest) × (length l.rest ≤ length l.fn.s)
    × ((n : ℕ) → length l.fn.s < n → (m : ℕ) × (length l.rest < m)
    × (past_members (past_value l.fn.depth) n l.fn.s ≡ past_members (past_value l.fn.depth) m l.rest))

abbrev pub decreases-past_members-members : goal.decreases-past_members-members
decreases-past_members-members l = length l.rest
