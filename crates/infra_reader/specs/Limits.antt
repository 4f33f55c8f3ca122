-- Numbers and counts that are out of range. Visit numbers are excepted.
use Rattle.std.specs.Prelude.{ℕ, ℤ, pos, nat_abs, ◌/◌, Bool, true, not, ◌&&◌, ◌==◌, nat_le, int_le, List, [], ◌∷◌}
use Rattle.std.specs.Prelude.{◌++◌, flat_map, length, Option, Some, None}
use Rattle.std.specs.Ordering.{int_eq}
use Rattle.std.specs.List.{list_all}
use Rattle.design_table.specs.declared.key.Key.{Key}
use Rattle.design_table.specs.declared.key.Key.TheVariants as keys
use Rattle.design_table.specs.declared.place.EntryKind.{EntryKind}
use Rattle.design_table.specs.declared.place.EntryKind.TheVariants as kinds
use Rattle.design_table.specs.declared.place.Place.{Place}
use Rattle.design_table.specs.declared.place.Place.TheVariants.{Top, Field}
use Rattle.design_table.specs.Reads.{at, in_each}
use Rattle.design_table.specs.Parsed.{ParsedEdge, ParsedVehicle, ParsedTrain, ParsedWithin, ParsedOverlap}
use Rattle.design_table.specs.Parsed.{ParsedSheet}
use Rattle.rail_base.specs.Admission.{is_from}
use Rattle.rail_base.specs.Numbering.{entry}

-- the place, where the number is not from the one to the other
unfoldable pub unless_from : ℕ → ℕ → ℤ → Place → List Place
unless_from low high n place = at (not (int_le (pos low) n && int_le n (pos high))) place

-- an array that has not so many entries
unfoldable pub count_outside : {X : Type 0} → ℕ → ℕ → Key → List X → List Place
count_outside least most key entries = at (not (is_from least most (length entries))) (Top key)

-- an array that has not so many entries, and then the numbers in its entries
unfoldable pub array_outside : {X : Type 0} → (ℕ → X → List Place) → ℕ → ℕ → Key → List X → List Place
array_outside outside least most key entries = count_outside least most key entries ++ in_each outside entries

-- ---- whole numbers of entries

-- a key of an entry, the least and the greatest number that are allowed there, and the numbers that stand there
pub record Limit : Type 0 where
  pub key : Key
  pub least : ℕ
  pub greatest : ℕ
  pub numbers : List ℤ

abbrev pub limit : Key → ℕ → ℕ → List ℤ → Limit
limit key least greatest numbers = record { key = key; least = least; greatest = greatest; numbers = numbers }

-- all its numbers are allowed
abbrev pub is_kept : Limit → Bool
is_kept l = list_all (λ n. int_le (pos l.least) n && int_le n (pos l.greatest)) l.numbers

-- the keys whose numbers are not, in order
abbrev pub limits_outside : EntryKind → ℕ → List Limit → List Place
limits_outside kind i limits = flat_map (λ l. at (not (is_kept l)) (Field kind i l.key)) limits

-- an edge's length in mm and speed in mm/s
abbrev pub edge_limits : ParsedEdge → List Limit
edge_limits e =
    limit keys.LengthMm 1 10000000 (e.length_mm ∷ [])
    ∷ limit keys.SpeedMmS 1 100000 (e.speed_mm_s ∷ [])
    ∷ []

-- a vehicle's length in mm, acceleration and braking in mm/s2, and speed in mm/s
abbrev pub vehicle_limits : ParsedVehicle → List Limit
vehicle_limits v =
    limit keys.LengthMm 1 2000000 (v.length_mm ∷ [])
    ∷ limit keys.AccelMmS2 1 100000 (v.accel_mm_s2 ∷ [])
    ∷ limit keys.BrakeMmS2 1 100000 (v.brake_mm_s2 ∷ [])
    ∷ limit keys.SpeedMmS 1 100000 (v.speed_mm_s ∷ [])
    ∷ []

-- the greatest time of a within in ms
abbrev pub within_limits : ParsedWithin → List Limit
within_limits w = limit keys.MaxMs 0 86400000 (w.max_ms ∷ []) ∷ []

-- how long an overlap is held in ms
abbrev pub overlap_limits : ParsedOverlap → List Limit
overlap_limits o = limit keys.HoldMs 0 600000 (o.hold_ms ∷ []) ∷ []

abbrev pub edge_outside : ℕ → ParsedEdge → List Place
edge_outside i e = limits_outside kinds.Edge i (edge_limits e)

abbrev pub vehicle_outside : ℕ → ParsedVehicle → List Place
vehicle_outside i v = limits_outside kinds.Vehicle i (vehicle_limits v)

abbrev pub within_outside : ℕ → ParsedWithin → List Place
within_outside i w = limits_outside kinds.Within i (within_limits w)

-- ---- visits, sections, counts and times

-- 1 to 16 visits of 1 to 64 nodes
abbrev pub are_few_visits : List (List (List ℕ)) → Bool
are_few_visits visits = is_from 1 16 (length visits) && list_all (λ visit. is_from 1 64 (length visit)) visits

-- where it is said how long a train stands at each visit in ms: a number in range for each, and 0 for the first
abbrev pub are_good_dwells : List (List (List ℕ)) → Option (List ℤ) → Bool
are_good_dwells visits None = true
are_good_dwells visits (Some dwells) =
    (length dwells == length visits) && is_kept (limit keys.DwellMs 0 3600000 dwells)
    && int_eq (entry (pos 0) dwells 1) (pos 0)

-- a train's visits, and how long it stands at them
abbrev pub train_outside : ℕ → ParsedTrain → List Place
train_outside i t =
    at (not (are_few_visits t.visits)) (Field kinds.Train i keys.Visits)
    ++ at (not (are_good_dwells t.visits t.dwell_ms)) (Field kinds.Train i keys.DwellMs)

-- 1 to 16 sections of an overlap, and how long it is held
abbrev pub overlap_outside : ℕ → ParsedOverlap → List Place
overlap_outside i o =
    at (not (is_from 1 16 (length o.sections))) (Field kinds.Overlap i keys.Sections)
    ++ limits_outside kinds.Overlap i (overlap_limits o)

-- a horizon of 1 ms or more, and of 86,400 ticks at most
abbrev pub is_horizon : ℤ → ℤ → Bool
is_horizon horizon_ms tick_ms = int_le (pos 1) horizon_ms && nat_le (nat_abs horizon_ms / nat_abs tick_ms) 86400

-- the version, the tick in ms and the horizon
unfoldable pub times_outside : ParsedSheet → List Place
times_outside s =
    unless_from 1 4 s.version (Top keys.Version)
    ++ (unless_from 100 1000 s.tick_ms (Top keys.TickMs)
    ++ at (not (is_horizon s.horizon_ms s.tick_ms)) (Top keys.HorizonMs))

-- nodes, edges and signals
unfoldable pub track_outside : ParsedSheet → List Place
track_outside s =
    count_outside 0 2000 keys.Node s.nodes
    ++ (array_outside edge_outside 0 4000 keys.Edge s.edges
    ++ count_outside 0 1000 keys.Signal s.signals)

-- vehicles and trains, and then orders, withins and overlaps
unfoldable pub traffic_outside : ParsedSheet → List Place
traffic_outside s =
    array_outside vehicle_outside 0 64 keys.Vehicle s.vehicles
    ++ (array_outside train_outside 1 128 keys.Train s.trains
    ++ (count_outside 0 256 keys.Order s.orders
    ++ (array_outside within_outside 0 256 keys.Within s.withins
    ++ array_outside overlap_outside 0 1000 keys.Overlap s.overlaps)))

-- D05: numbers and counts that are out of range
unfoldable pub out_of_range : ParsedSheet → List Place
out_of_range s = times_outside s ++ (track_outside s ++ traffic_outside s)
