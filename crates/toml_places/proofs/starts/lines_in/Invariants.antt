use Rattle.std.proofs.Common.{◌≡◌, ℕ, ◌<◌, ◌≤◌, ◌++◌, suc, length}
use denote.Text.{Utf8}
use denote.Shadow.{shadow}
use Rattle.toml_places.specs.Starts.{lines_from}
use Rattle.toml_places.specs.Texts.{texts}
use Rattle.toml_places.proofs.starts.lines_in.Given as goal

-- those so far, and those of the rest
abbrev pub invariant-lines : goal.invariant-lines
invariant-lines l =
    shadow (Utf8 l.rest) × (length l.rest ≤ length l.fn.text)
    × (m : ℕ) × (length l.rest < m)
    × (lines_from (suc (length l.fn.text)) l.fn.text ≡ texts l.lines.items ++ lines_from m l.rest)

abbrev pub decreases-lines : goal.decreases-lines
decreases-lines l = length l.rest
