-- Numbers that are 0 in a tick, trains that cannot enter, and visits that are not there.
use Rattle.std.specs.Prelude.{ℕ, Bool, not, ◌==◌, List, ◌++◌}
use Rattle.std.specs.List.{list_all}
use Rattle.design_table.specs.declared.key.Key.TheVariants as keys
use Rattle.design_table.specs.declared.place.EntryKind.TheVariants as kinds
use Rattle.design_table.specs.declared.place.Place.{Place}
use Rattle.design_table.specs.declared.place.Place.TheVariants.{Top, Field}
use Rattle.design_table.specs.Reads.{at, in_each}
use Rattle.rail_base.specs.declared.station.Station.{Station}
use Rattle.rail_base.specs.declared.station.Edge.{Edge}
use Rattle.rail_base.specs.declared.station.Vehicle.{Vehicle}
use Rattle.rail_base.specs.declared.station.Train.{Train}
use Rattle.rail_base.specs.declared.station.TrainNo.{TrainNo}
use Rattle.rail_base.specs.declared.station.Order.{Order}
use Rattle.rail_base.specs.declared.station.Within.{Within}
use Rattle.rail_base.specs.Stations.{node_of, first_visit, horizon, per_tick_speed, per_tick_accel}
use Rattle.rail_base.specs.Admission.{is_visit}

-- the place, where the number per tick is 0
unfoldable pub if_zero : ℕ → Place → List Place
if_zero rate place = at (rate == 0) place

-- an edge's speed
abbrev pub edge_zeros : Station → ℕ → Edge → List Place
edge_zeros d i e = if_zero (per_tick_speed d e.speed_mm_s) (Field kinds.Edge i keys.SpeedMmS)

-- a vehicle's acceleration, braking and speed
abbrev pub vehicle_zeros : Station → ℕ → Vehicle → List Place
vehicle_zeros d i v =
    if_zero (per_tick_accel d v.accel_mm_s2) (Field kinds.Vehicle i keys.AccelMmS2)
    ++ (if_zero (per_tick_accel d v.brake_mm_s2) (Field kinds.Vehicle i keys.BrakeMmS2)
    ++ if_zero (per_tick_speed d v.speed_mm_s) (Field kinds.Vehicle i keys.SpeedMmS))

-- D09: numbers that are 0 in a tick
unfoldable pub zeros : Station → List Place
zeros d =
    if_zero (horizon d) (Top keys.HorizonMs)
    ++ (in_each (edge_zeros d) d.edges
    ++ in_each (vehicle_zeros d) d.vehicles)

-- the nodes of the train's first visit are boundaries
abbrev pub can_enter : Station → Train → Bool
can_enter d t = list_all (λ n. (node_of d n).boundary) (first_visit t)

-- D10: first visits to nodes that are no boundaries
unfoldable pub inner_starts : Station → List Place
inner_starts d = in_each (λ i t. at (not (can_enter d t)) (Field kinds.Train i keys.Visits)) d.trains

-- the place, where the train has no visit of this number
unfoldable pub unless_visit : Station → TrainNo → ℕ → Place → List Place
unless_visit d train visit place = at (not (is_visit d train visit)) place

-- the visits of an order
abbrev pub order_missing : Station → ℕ → Order → List Place
order_missing d i o =
    unless_visit d o.first_train o.first_visit (Field kinds.Order i keys.FirstVisit)
    ++ unless_visit d o.then_train o.then_visit (Field kinds.Order i keys.ThenVisit)

-- the visits of a within
abbrev pub within_missing : Station → ℕ → Within → List Place
within_missing d i w =
    unless_visit d w.from_train w.from_visit (Field kinds.Within i keys.FromVisit)
    ++ unless_visit d w.to_train w.to_visit (Field kinds.Within i keys.ToVisit)

-- D11: visit numbers that are none of that train's
unfoldable pub missing_visits : Station → List Place
missing_visits d = in_each (order_missing d) d.orders ++ in_each (within_missing d) d.withins
