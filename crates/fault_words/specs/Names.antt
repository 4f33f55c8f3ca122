-- Names that stand twice, or nowhere.
use Rattle.std.specs.Prelude.{ℕ, Bool, List, [], not, Option, None, Some, unwrap_or}
use Rattle.std.specs.List.{find, flat_map}
use Rattle.design_table.specs.declared.key.Key.{Key}
use Rattle.design_table.specs.declared.key.Key.TheVariants as keys
use Rattle.design_table.specs.declared.place.EntryKind.{EntryKind}
use Rattle.design_table.specs.declared.place.EntryKind.TheVariants as kinds
use Rattle.design_table.specs.declared.place.Place.{Place}
use Rattle.design_table.specs.declared.place.Place.TheVariants.{Field}
use Rattle.design_table.specs.Parsed.{ParsedSheet}
use Rattle.infra_reader.specs.Names.{is_among, number_in, node_names, edge_names, section_names}
use Rattle.infra_reader.specs.Names.{signal_names, vehicle_names, train_names, overlap_signals}
use Rattle.fault_words.specs.Entries.{sections_at, text_at, visits_at}

-- the names of the entries of a kind: orders and withins have none, and overlaps those of their signals
abbrev pub names_of : ParsedSheet → EntryKind → List (List ℕ)
names_of s kinds.Node = node_names s
names_of s kinds.Edge = edge_names s
names_of s kinds.Signal = signal_names s
names_of s kinds.Vehicle = vehicle_names s
names_of s kinds.Train = train_names s
names_of s kinds.Order = []
names_of s kinds.Within = []
names_of s kinds.Overlap = overlap_signals s

-- the number of the first entry that has the name that this one has at a key
abbrev pub first_number : ParsedSheet → EntryKind → ℕ → Key → ℕ
first_number s kind i key = number_in (names_of s kind) (text_at s kind i key)

-- where a name that stands twice stands first
abbrev pub first_place : ParsedSheet → Place → Option Place
first_place s (Field kind i keys.Name) = Some (Field kind (first_number s kind i keys.Name) keys.Name)
first_place s (Field kind i keys.Signal) = Some (Field kind (first_number s kind i keys.Signal) keys.Signal)
first_place s _ = None

-- ---- names that nothing has

-- no node has the name
abbrev pub is_unknown : ParsedSheet → List ℕ → Bool
is_unknown s name = not (is_among (node_names s) name)

-- the first name in these visits that is no node's
abbrev pub unknown_in_visits : ParsedSheet → List (List (List ℕ)) → List ℕ
unknown_in_visits s visits = unwrap_or (find (is_unknown s) (flat_map (λ visit. visit) visits)) []

-- no edge has a section of the name
abbrev pub is_nowhere : ParsedSheet → List ℕ → Bool
is_nowhere s name = not (is_among (section_names s) name)

-- the first of these names that is no section's
abbrev pub unknown_section : ParsedSheet → List (List ℕ) → List ℕ
unknown_section s names = unwrap_or (find (is_nowhere s) names) []

-- the name at a key of an entry that nothing has
abbrev pub unknown_name : ParsedSheet → EntryKind → ℕ → Key → List ℕ
unknown_name s kinds.Train i keys.Visits = unknown_in_visits s (visits_at s i)
unknown_name s kinds.Overlap i keys.Sections = unknown_section s (sections_at s i)
unknown_name s kind i key = text_at s kind i key
