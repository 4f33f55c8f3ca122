use Rattle.std.proofs.Common.{◌≡◌, ℕ, ◌<◌, ◌≤◌, ◌++◌, suc, length}
use denote.Text.{Utf8}
use denote.Shadow.{shadow}
use Rattle.toml_places.specs.Starts.{items_from}
use Rattle.toml_places.specs.Texts.{texts}
use Rattle.toml_places.proofs.starts.items_in.Given as goal

-- those so far, and those of the rest
abbrev pub invariant-items : goal.invariant-items
invariant-items l =
    shadow (Utf8 l.rest) × (length l.rest ≤ length l.fn.text)
    × (m : ℕ) × (length l.rest < m)
    × (items_from (suc (length l.fn.text)) l.fn.text ≡ texts l.items.items ++ items_from m l.rest)

abbrev pub decreases-items : goal.decreases-items
decreases-items l = length l.rest
