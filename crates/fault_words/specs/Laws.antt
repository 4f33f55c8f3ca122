-- What the sentences have to do with the refusals.
use Rattle.std.specs.Prelude.{◌≡◌, ℕ, ℤ, List, ◌++◌, not, length}
use Rattle.design_table.specs.declared.key.Key.{Key}
use Rattle.design_table.specs.declared.key.Key.TheVariants as keys
use Rattle.design_table.specs.declared.place.EntryKind.{EntryKind}
use Rattle.design_table.specs.declared.place.EntryKind.TheVariants as kinds
use Rattle.design_table.specs.declared.place.Place.{Place}
use Rattle.design_table.specs.declared.place.Place.TheVariants.{Field}
use Rattle.design_table.specs.Keys.{kind_key}
use Rattle.design_table.specs.Parsed.{ParsedEdge, ParsedVehicle, ParsedWithin, ParsedOverlap, ParsedSheet}
use Rattle.design_table.specs.Reads.{at}
use Rattle.rail_base.specs.Admission.{is_from}
use Rattle.infra_reader.specs.Limits.{array_outside, count_outside, edge_outside, track_outside, traffic_outside}
use Rattle.infra_reader.specs.Limits.{train_outside, unless_from, vehicle_outside, within_outside, overlap_outside}
use Rattle.fault_words.specs.Limits.{fewest_of, greatest_of, least_of, most_of}

-- the place of a number of an entry that is not one of those that are said to be allowed
abbrev pub unless_allowed : EntryKind → ℕ → Key → ℤ → List Place
unless_allowed kind i key n = unless_from (least_of key) (greatest_of kind key) n (Field kind i key)

-- the place of an array with more or fewer entries than are said to be allowed
abbrev pub unless_few : {X : Type 0} → EntryKind → List X → List Place
unless_few kind entries = count_outside (fewest_of kind) (most_of kind) (kind_key kind) entries

-- and then those of its entries
abbrev pub unless_few_allowed : {X : Type 0} → (ℕ → X → List Place) → EntryKind → List X → List Place
unless_few_allowed outside kind entries = array_outside outside (fewest_of kind) (most_of kind) (kind_key kind) entries

-- what is said to be allowed is what no design is refused for with D05
pub record AllowedIsNotRefused : Type 0 where
  pub edges : (i : ℕ) (e : ParsedEdge) → edge_outside i e
      ≡ unless_allowed kinds.Edge i keys.LengthMm e.length_mm ++ unless_allowed kinds.Edge i keys.SpeedMmS e.speed_mm_s
  pub vehicles : (i : ℕ) (v : ParsedVehicle) → vehicle_outside i v
      ≡ unless_allowed kinds.Vehicle i keys.LengthMm v.length_mm
      ++ (unless_allowed kinds.Vehicle i keys.AccelMmS2 v.accel_mm_s2
      ++ (unless_allowed kinds.Vehicle i keys.BrakeMmS2 v.brake_mm_s2
      ++ unless_allowed kinds.Vehicle i keys.SpeedMmS v.speed_mm_s))
  pub withins : (i : ℕ) (w : ParsedWithin) → within_outside i w ≡ unless_allowed kinds.Within i keys.MaxMs w.max_ms
  pub overlaps : (i : ℕ) (o : ParsedOverlap) → overlap_outside i o
      ≡ at (not (is_from 1 16 (length o.sections))) (Field kinds.Overlap i keys.Sections)
      ++ unless_allowed kinds.Overlap i keys.HoldMs o.hold_ms
  pub track : (s : ParsedSheet) → track_outside s
      ≡ unless_few kinds.Node s.nodes
      ++ (unless_few_allowed edge_outside kinds.Edge s.edges
      ++ unless_few kinds.Signal s.signals)
  pub traffic : (s : ParsedSheet) → traffic_outside s
      ≡ unless_few_allowed vehicle_outside kinds.Vehicle s.vehicles
      ++ (unless_few_allowed train_outside kinds.Train s.trains
      ++ (unless_few kinds.Order s.orders
      ++ (unless_few_allowed within_outside kinds.Within s.withins
      ++ unless_few_allowed overlap_outside kinds.Overlap s.overlaps)))
