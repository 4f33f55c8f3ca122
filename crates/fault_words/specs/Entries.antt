-- What the entries of a sheet say at a key.
use Rattle.std.specs.Prelude.{ℕ, ℤ, pos, ◌-◌, List, [], Option, None, slice_get}
use Rattle.std.specs.Option.{option_map_or}
use Rattle.design_table.specs.declared.key.Key.{Key}
use Rattle.design_table.specs.declared.key.Key.TheVariants as keys
use Rattle.design_table.specs.declared.place.EntryKind.{EntryKind}
use Rattle.design_table.specs.declared.place.EntryKind.TheVariants as kinds
use Rattle.design_table.specs.declared.sheet.Side.{Side}
use Rattle.design_table.specs.declared.sheet.Side.TheVariants.{A}
use Rattle.design_table.specs.Parsed.{ParsedNode, ParsedEdge, ParsedSignal, ParsedVehicle, ParsedTrain}
use Rattle.design_table.specs.Parsed.{ParsedOrder, ParsedWithin, ParsedOverlap, ParsedSheet}

-- what is said of the entry of this number, counted from 1, or the other where there is none
abbrev pub of_entry : {X Y : Type 0} → (X → Y) → Y → List X → ℕ → Y
of_entry said other entries i = option_map_or said (slice_get entries (i - 1)) other

-- ---- names

abbrev pub node_text : Key → ParsedNode → List ℕ
node_text keys.Name n = n.name
node_text _ n = []

abbrev pub edge_text : Key → ParsedEdge → List ℕ
edge_text keys.Name e = e.name
edge_text keys.From e = e.from
edge_text keys.To e = e.to
edge_text _ e = []

abbrev pub signal_text : Key → ParsedSignal → List ℕ
signal_text keys.Name s = s.name
signal_text keys.Node s = s.node
signal_text _ s = []

abbrev pub vehicle_text : Key → ParsedVehicle → List ℕ
vehicle_text keys.Name v = v.name
vehicle_text _ v = []

abbrev pub train_text : Key → ParsedTrain → List ℕ
train_text keys.Name t = t.name
train_text keys.Vehicle t = t.vehicle
train_text _ t = []

abbrev pub order_text : Key → ParsedOrder → List ℕ
order_text keys.FirstTrain o = o.first_train
order_text keys.ThenTrain o = o.then_train
order_text _ o = []

abbrev pub within_text : Key → ParsedWithin → List ℕ
within_text keys.FromTrain w = w.from_train
within_text keys.ToTrain w = w.to_train
within_text _ w = []

abbrev pub overlap_text : Key → ParsedOverlap → List ℕ
overlap_text keys.Signal o = o.signal
overlap_text _ o = []

-- the name that an entry has at a key
abbrev pub text_at : ParsedSheet → EntryKind → ℕ → Key → List ℕ
text_at s kinds.Node i key = of_entry (node_text key) [] s.nodes i
text_at s kinds.Edge i key = of_entry (edge_text key) [] s.edges i
text_at s kinds.Signal i key = of_entry (signal_text key) [] s.signals i
text_at s kinds.Vehicle i key = of_entry (vehicle_text key) [] s.vehicles i
text_at s kinds.Train i key = of_entry (train_text key) [] s.trains i
text_at s kinds.Order i key = of_entry (order_text key) [] s.orders i
text_at s kinds.Within i key = of_entry (within_text key) [] s.withins i
text_at s kinds.Overlap i key = of_entry (overlap_text key) [] s.overlaps i

-- ---- whole numbers

abbrev pub edge_number : Key → ParsedEdge → ℤ
edge_number keys.LengthMm e = e.length_mm
edge_number keys.SpeedMmS e = e.speed_mm_s
edge_number _ e = pos 0

abbrev pub vehicle_number : Key → ParsedVehicle → ℤ
vehicle_number keys.LengthMm v = v.length_mm
vehicle_number keys.AccelMmS2 v = v.accel_mm_s2
vehicle_number keys.BrakeMmS2 v = v.brake_mm_s2
vehicle_number keys.SpeedMmS v = v.speed_mm_s
vehicle_number _ v = pos 0

abbrev pub order_number : Key → ParsedOrder → ℤ
order_number keys.FirstVisit o = o.first_visit
order_number keys.ThenVisit o = o.then_visit
order_number _ o = pos 0

abbrev pub within_number : Key → ParsedWithin → ℤ
within_number keys.FromVisit w = w.from_visit
within_number keys.ToVisit w = w.to_visit
within_number keys.MaxMs w = w.max_ms
within_number _ w = pos 0

abbrev pub overlap_number : Key → ParsedOverlap → ℤ
overlap_number keys.HoldMs o = o.hold_ms
overlap_number _ o = pos 0

-- the whole number that an entry has at a key
abbrev pub number_at : ParsedSheet → EntryKind → ℕ → Key → ℤ
number_at s kinds.Edge i key = of_entry (edge_number key) (pos 0) s.edges i
number_at s kinds.Vehicle i key = of_entry (vehicle_number key) (pos 0) s.vehicles i
number_at s kinds.Order i key = of_entry (order_number key) (pos 0) s.orders i
number_at s kinds.Within i key = of_entry (within_number key) (pos 0) s.withins i
number_at s kinds.Overlap i key = of_entry (overlap_number key) (pos 0) s.overlaps i
number_at s _ i key = pos 0

-- the whole number at a key of the top
abbrev pub top_number : ParsedSheet → Key → ℤ
top_number s keys.Version = s.version
top_number s keys.TickMs = s.tick_ms
top_number s keys.HorizonMs = s.horizon_ms
top_number s _ = pos 0

-- ---- visits, sections and sides

-- the visits of the train of this number
abbrev pub visits_at : ParsedSheet → ℕ → List (List (List ℕ))
visits_at s i = of_entry (λ (t : ParsedTrain). t.visits) [] s.trains i

-- how long it stands at them, where that is said
abbrev pub dwells_at : ParsedSheet → ℕ → Option (List ℤ)
dwells_at s i = of_entry (λ (t : ParsedTrain). t.dwell_ms) None s.trains i

-- the sections of the overlap of this number
abbrev pub sections_at : ParsedSheet → ℕ → List (List ℕ)
sections_at s i = of_entry (λ (o : ParsedOverlap). o.sections) [] s.overlaps i

-- the side for which the signal of this number stands
abbrev pub toward_at : ParsedSheet → ℕ → Side
toward_at s i = of_entry (λ (q : ParsedSignal). q.toward) A s.signals i
