use Rattle.std.proofs.Common.{◌≡◌, ℕ, ◌<◌, ◌≤◌, ◌++◌, suc, length}
use denote.Text.{Utf8}
use denote.Shadow.{shadow}
use Rattle.toml_places.specs.Starts.{keys_from}
use Rattle.toml_places.specs.Texts.{texts}
use Rattle.toml_places.proofs.starts.keys_in.Given as goal

-- those so far, and those of the rest
abbrev pub invariant-keys : goal.invariant-keys
invariant-keys l =
    shadow (Utf8 l.rest) × (length l.rest ≤ length l.fn.text)
    × (m : ℕ) × (length l.rest < m)
    × (keys_from (suc (length l.fn.text)) l.fn.text ≡ texts l.keys.items ++ keys_from m l.rest)

abbrev pub decreases-keys : goal.decreases-keys
decreases-keys l = length l.rest
