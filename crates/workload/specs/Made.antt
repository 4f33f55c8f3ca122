-- The station that is made from a seed and a size.
use Rattle.std.specs.Prelude.{ℕ, Bool, [], ◌∷◌}
use Rattle.rail_base.specs.declared.station.Station.{Station}
use Rattle.workload.specs.Draws.{track_length, runs_east, time_of}
use Rattle.workload.specs.Track.{nodes, edges, sections, signals}
use Rattle.workload.specs.Traffic.{vehicle, trains, withins}

-- the station of so many tracks and trains, by the lengths of the tracks, the ways that the trains run and their times
abbrev pub station : ℕ → (ℕ → ℕ) → (ℕ → Bool) → (ℕ → ℕ) → Station
station size length runs_east time = record {
  version = 1;
  tick_ms = 1000;
  horizon_ms = 3600000;
  nodes = nodes size;
  edges = edges size length;
  sections = sections size;
  signals = signals size;
  vehicles = vehicle ∷ [];
  trains = trains size runs_east;
  orders = [];
  withins = withins size time;
  overlaps = [];
}

-- the station whose lengths, ways and times are drawn from the seed
unfoldable pub made : ℕ → ℕ → Station
made seed size = station size (track_length seed) (runs_east seed size) (time_of seed size)
