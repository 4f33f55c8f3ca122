-- Names: which of them stand twice, and which numbers they have.
use Rattle.std.specs.Prelude.{ℕ, ◌+◌, ◌-◌, List, [], ◌∷◌, ◌++◌, Bool, ◌&&◌, map, fold, take, bytes_eq}
use Rattle.std.specs.Prelude.{if◌then◌else◌, Result}
use Rattle.std.specs.List.{list_any, position_or_len}
use Rattle.design_table.specs.declared.key.Key.TheVariants as keys
use Rattle.design_table.specs.declared.place.EntryKind.{EntryKind}
use Rattle.design_table.specs.declared.place.EntryKind.TheVariants as kinds
use Rattle.design_table.specs.declared.place.Place.{Place}
use Rattle.design_table.specs.declared.place.Place.TheVariants.{Field}
use Rattle.design_table.specs.Reads.{at, in_each, ReadsOrRefuses}
use Rattle.design_table.specs.Parsed.{ParsedNode, ParsedEdge, ParsedSignal, ParsedVehicle, ParsedTrain}
use Rattle.design_table.specs.Parsed.{ParsedOverlap, ParsedSheet}
use Rattle.design_table.specs.declared.fault.Code.TheVariants.{D03}
use Rattle.design_table.specs.declared.fault.DesignFault.{DesignFault}

-- the name is one of these
abbrev pub is_among : List (List ℕ) → List ℕ → Bool
is_among names name = list_any (bytes_eq name) names

-- the number of a name: its place among the names, counted from 1
abbrev pub number_in : List (List ℕ) → List ℕ → ℕ
number_in names name = position_or_len (bytes_eq name) names + 1

-- the names, and one more where it is new
abbrev pub with_name : List (List ℕ) → List ℕ → List (List ℕ)
with_name names name = if is_among names name then names else names ++ name ∷ []

-- each name once, in order of first occurrence
abbrev pub each_once : List (List ℕ) → List (List ℕ)
each_once names = fold with_name [] names

-- ---- the names of a sheet, in the order of their numbers

pub record Names : Type 0 where
  pub nodes : List (List ℕ)
  pub sections : List (List ℕ)
  pub signals : List (List ℕ)
  pub vehicles : List (List ℕ)
  pub trains : List (List ℕ)

abbrev pub node_names : ParsedSheet → List (List ℕ)
node_names s = map (λ (n : ParsedNode). n.name) s.nodes

abbrev pub edge_names : ParsedSheet → List (List ℕ)
edge_names s = map (λ (e : ParsedEdge). e.name) s.edges

abbrev pub section_names : ParsedSheet → List (List ℕ)
section_names s = map (λ (e : ParsedEdge). e.section) s.edges

abbrev pub signal_names : ParsedSheet → List (List ℕ)
signal_names s = map (λ (q : ParsedSignal). q.name) s.signals

abbrev pub vehicle_names : ParsedSheet → List (List ℕ)
vehicle_names s = map (λ (v : ParsedVehicle). v.name) s.vehicles

abbrev pub train_names : ParsedSheet → List (List ℕ)
train_names s = map (λ (t : ParsedTrain). t.name) s.trains

-- the signals at which the overlaps are
abbrev pub overlap_signals : ParsedSheet → List (List ℕ)
overlap_signals s = map (λ (o : ParsedOverlap). o.signal) s.overlaps

-- sections are named by edges alone, and numbered by the first of these
abbrev pub names_of : ParsedSheet → Names
names_of s = record {
  nodes = node_names s;
  sections = each_once (section_names s);
  signals = signal_names s;
  vehicles = vehicle_names s;
  trains = train_names s;
}

-- ---- D03

-- the later entries of an array whose name stands already in an earlier one
unfoldable pub repeated : EntryKind → List (List ℕ) → List Place
repeated kind names = in_each (λ i name. at (is_among (take (i - 1) names) name) (Field kind i keys.Name)) names

-- The names were read, seen by view, and none stands twice; or it is D03 at the first that stands already.
abbrev pub ReadsDistinct : {X : Type 0} → (X → List (List ℕ)) → Result X DesignFault
    → EntryKind → List (List ℕ) → Type 0
ReadsDistinct view result kind names = ReadsOrRefuses view result D03 (repeated kind names) names

-- the overlap of this number is at a signal that has an earlier one; a name that is no signal has none
abbrev pub is_second : List (List ℕ) → List (List ℕ) → ℕ → List ℕ → Bool
is_second signals names i name = is_among (take (i - 1) names) name && is_among signals name

-- the later overlaps at a signal that has an earlier one, by the names of the signals at which they are
unfoldable pub overlaps_repeated : List (List ℕ) → List (List ℕ) → List Place
overlaps_repeated signals names =
    in_each (λ i name. at (is_second signals names i name) (Field kinds.Overlap i keys.Signal)) names

-- names that stand twice in their array, and signals that have two overlaps
unfoldable pub repeated_names : ParsedSheet → List Place
repeated_names s =
    repeated kinds.Node (node_names s)
    ++ (repeated kinds.Edge (edge_names s)
    ++ (repeated kinds.Signal (signal_names s)
    ++ (repeated kinds.Vehicle (vehicle_names s)
    ++ (repeated kinds.Train (train_names s)
    ++ overlaps_repeated (signal_names s) (overlap_signals s)))))
