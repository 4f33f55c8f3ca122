-- How sparing a search is with decisions, which are counted in parts: one from the question on, one after each line.
use Rattle.std.specs.Prelude.{ℕ, ◌≡◌, ◌≤◌, ◌+◌, ◌^◌, ◌%◌, true}
use Rattle.sat_trail.specs.View.{View}

-- in no part more decisions were made than there are variables, and each while all earlier ones of its part stood
abbrev pub IsSparing : ℕ → View → Type 0
IsSparing vars trail = (trail.pace.most ≤ vars) × (trail.pace.steady ≡ true)

-- since then one part began with a question, and in all one after each of so many derived lines
abbrev pub IsInParts : View → View → ℕ → Type 0
IsInParts old new derives = (new.parts.questions ≡ (old.parts.questions + 1) % 2 ^ 64) × (new.parts.lines ≡ derives)
