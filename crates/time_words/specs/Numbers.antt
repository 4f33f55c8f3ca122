-- Numbers of withins.
use Rattle.std.specs.Prelude.{ℕ, ◌≤◌, length}
use Rattle.rail_base.specs.declared.station.Station.{Station}

-- the design has a within of this number
abbrev pub IsWithin : Station → ℕ → Type 0
IsWithin d n = (1 ≤ n) × (n ≤ length d.withins)
