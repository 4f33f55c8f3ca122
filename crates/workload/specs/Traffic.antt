-- The traffic of a station: one train for each track, and the time that it has.
use Rattle.std.specs.Prelude.{ℕ, Bool, List, [], ◌∷◌, map, if◌then◌else◌, codes}
use Rattle.rail_base.specs.declared.station.NodeNo.{NodeNo}
use Rattle.rail_base.specs.declared.station.Vehicle.{Vehicle}
use Rattle.rail_base.specs.declared.station.Train.{Train}
use Rattle.rail_base.specs.declared.station.Within.{Within}
use Rattle.rail_base.specs.Numbering.{one_to}
use Rattle.workload.specs.Track.{numbered_name, west_boundary, east_boundary}

-- the one vehicle
abbrev pub vehicle : Vehicle
vehicle = record { name = codes "v"; length_mm = 100000; accel_mm_s2 = 500; brake_mm_s2 = 700; speed_mm_s = 20000 }

-- the boundary where a train enters
abbrev pub entrance : Bool → NodeNo
entrance runs_east = record { 0 = if runs_east then west_boundary else east_boundary }

-- the boundary where a train exits
abbrev pub exit_node : Bool → NodeNo
exit_node runs_east = record { 0 = if runs_east then east_boundary else west_boundary }

-- a train from the one boundary to the other, which stands nowhere
abbrev pub train : ℕ → Bool → Train
train j runs_east = record {
  name = numbered_name (codes "t") j;
  vehicle = record { 0 = 1 };
  visits = (entrance runs_east ∷ []) ∷ (exit_node runs_east ∷ []) ∷ [];
  dwell_ms = 0 ∷ 0 ∷ [];
}

-- the time that a train has from its first visit to its second
abbrev pub within : ℕ → ℕ → Within
within j time = record {
  from_train = record { 0 = j };
  from_visit = 1;
  to_train = record { 0 = j };
  to_visit = 2;
  max_ms = time;
}

-- a train for each track, by the ways that they run
abbrev pub trains : ℕ → (ℕ → Bool) → List Train
trains size runs_east = map (λ j. train j (runs_east j)) (one_to size)

-- a within for each train, by the times that they have
abbrev pub withins : ℕ → (ℕ → ℕ) → List Within
withins size time = map (λ j. within j (time j)) (one_to size)
