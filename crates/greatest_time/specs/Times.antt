-- Designs with another greatest time in one of their withins.
use Rattle.std.specs.Prelude.{ℕ, ◌-◌, slice_set}
use Rattle.rail_base.specs.declared.station.Station.{Station}
use Rattle.rail_base.specs.declared.station.Within.{Within}
use Rattle.rail_base.specs.Stations.{within_of}

-- the within with this greatest time
abbrev pub within_in : Within → ℕ → Within
within_in w ms = record w { max_ms = ms }

-- the design with this greatest time in its within of this number, from 1 on, and else as it is
abbrev pub with_max : Station → ℕ → ℕ → Station
with_max d w ms = record d { withins = slice_set d.withins (w - 1) (within_in (within_of d w) ms) }
