-- How long trains stand at their visits.
use Rattle.std.specs.Prelude.{ℕ, ◌+◌, List, [], ◌∷◌}
use Rattle.rail_course.specs.declared.dwells.Dwell.{Dwell}

-- the ticks to stand at each of some visits, where it has stood so many in all before them
abbrev pub dwells_from : ℕ → List ℕ → List Dwell
dwells_from before [] = []
dwells_from before (w ∷ ws) = record { ticks = w; until = before + w } ∷ dwells_from (before + w) ws
