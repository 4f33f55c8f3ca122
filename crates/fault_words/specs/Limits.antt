-- What is allowed of numbers and counts, and what is not.
use Rattle.std.specs.Prelude.{ℕ, ℤ, pos, ◌+◌, Bool, true, false, not, ◌&&◌, ◌==◌, int_le, if◌then◌else◌, List, [], ◌++◌}
use Rattle.std.specs.Prelude.{length, slice_get, unwrap_or, Option, Some, None, codes, decimal}
use Rattle.std.specs.Fmt.{signed_decimal}
use Rattle.std.specs.List.{find, position_or_len}
use Rattle.std.specs.Option.{option_map_or}
use Rattle.design_table.specs.declared.key.Key.{Key}
use Rattle.design_table.specs.declared.key.Key.TheVariants as keys
use Rattle.design_table.specs.declared.place.EntryKind.{EntryKind}
use Rattle.design_table.specs.declared.place.EntryKind.TheVariants as kinds
use Rattle.design_table.specs.Parsed.{ParsedSheet}
use Rattle.rail_base.specs.Admission.{is_from}
use Rattle.fault_words.specs.Entries.{dwells_at, number_at, sections_at, visits_at}
use Rattle.fault_words.specs.Words.{allowed_words, is_words, kind_text}

-- ---- numbers

-- the least number that is allowed at a key of an entry
abbrev pub least_of : Key → ℕ
least_of keys.MaxMs = 0
least_of keys.HoldMs = 0
least_of _ = 1

-- the greatest, in mm, mm/s, mm/s2 or ms
abbrev pub greatest_of : EntryKind → Key → ℕ
greatest_of kinds.Edge keys.LengthMm = 10000000
greatest_of kinds.Vehicle keys.LengthMm = 2000000
greatest_of kinds.Within keys.MaxMs = 86400000
greatest_of kinds.Overlap keys.HoldMs = 600000
greatest_of _ _ = 100000

-- `length_mm is 0, and 1 to 10000000 are allowed`
abbrev pub number_words : Key → ℤ → ℕ → ℕ → List ℕ
number_words key n low high = is_words key n ++ allowed_words low high

-- `, and 1 to 86400 ticks of 1000 ms are allowed`
abbrev pub ticks_words : ℤ → List ℕ
ticks_words tick_ms = codes ", and 1 to 86400 ticks of " ++ signed_decimal tick_ms ++ codes " ms are allowed"

-- `horizon_ms is 0, and 1 to 86400 ticks of 1000 ms are allowed`
abbrev pub horizon_words : ParsedSheet → List ℕ
horizon_words s = is_words keys.HorizonMs s.horizon_ms ++ ticks_words s.tick_ms

-- ---- counts

-- how many entries of a kind there are
abbrev pub count_of : ParsedSheet → EntryKind → ℕ
count_of s kinds.Node = length s.nodes
count_of s kinds.Edge = length s.edges
count_of s kinds.Signal = length s.signals
count_of s kinds.Vehicle = length s.vehicles
count_of s kinds.Train = length s.trains
count_of s kinds.Order = length s.orders
count_of s kinds.Within = length s.withins
count_of s kinds.Overlap = length s.overlaps

-- how many there are to be at least, and at most
abbrev pub fewest_of : EntryKind → ℕ
fewest_of kinds.Train = 1
fewest_of _ = 0

abbrev pub most_of : EntryKind → ℕ
most_of kinds.Node = 2000
most_of kinds.Edge = 4000
most_of kinds.Signal = 1000
most_of kinds.Vehicle = 64
most_of kinds.Train = 128
most_of kinds.Order = 256
most_of kinds.Within = 256
most_of kinds.Overlap = 1000

-- `there are 129 trains, and 1 to 128 are allowed`
abbrev pub count_words : ParsedSheet → EntryKind → List ℕ
count_words s kind = codes "there are " ++ decimal (count_of s kind) ++ codes " " ++ kind_text kind ++ codes "s"
    ++ allowed_words (fewest_of kind) (most_of kind)

-- ---- visits

-- the place of the first visit that has no node, or more than 64, counted from 0
abbrev pub first_crowded : List (List (List ℕ)) → ℕ
first_crowded visits = position_or_len (λ visit. not (is_from 1 64 (length visit))) visits

-- how many nodes the visit at a place has
abbrev pub nodes_at : List (List (List ℕ)) → ℕ → ℕ
nodes_at visits k = option_map_or length (slice_get visits k) 0

-- `visit 2 has 65 nodes, and 1 to 64 are allowed`
abbrev pub visit_words : List (List (List ℕ)) → ℕ → List ℕ
visit_words visits k =
    codes "visit " ++ decimal (k + 1) ++ codes " has " ++ decimal (nodes_at visits k) ++ codes " nodes"
    ++ allowed_words 1 64

-- `there are 17 visits, and 1 to 16 are allowed`, or what one of them has
abbrev pub visits_words : List (List (List ℕ)) → List ℕ
visits_words visits =
    if is_from 1 16 (length visits) then visit_words visits (first_crowded visits)
    else codes "there are " ++ decimal (length visits) ++ codes " visits" ++ allowed_words 1 16

-- ---- sections of an overlap

-- `there are 17 sections, and 1 to 16 are allowed`
abbrev pub sections_words : ℕ → List ℕ
sections_words n = codes "there are " ++ decimal n ++ codes " sections" ++ allowed_words 1 16

-- ---- how long a train stands at its visits

-- `dwell_ms has length 2, and is to have length 3, as visits has`
abbrev pub lengths_words : ℕ → ℕ → List ℕ
lengths_words dwells visits =
    codes "dwell_ms has length " ++ decimal dwells ++ codes ", and is to have length " ++ decimal visits
    ++ codes ", as visits has"

-- `dwell_ms has 3600001, and 0 to 3600000 are allowed`
abbrev pub long_words : ℤ → List ℕ
long_words ms = codes "dwell_ms has " ++ signed_decimal ms ++ allowed_words 0 3600000

-- `dwell_ms begins with 5, and is to begin with 0`
abbrev pub begin_words : ℤ → List ℕ
begin_words ms = codes "dwell_ms begins with " ++ signed_decimal ms ++ codes ", and is to begin with 0"

-- a time to stand is allowed
abbrev pub is_dwell : ℤ → Bool
is_dwell ms = int_le (pos 0) ms && int_le ms (pos 3600000)

-- the first that is not, or what they begin with
abbrev pub times_words : List ℤ → List ℕ
times_words dwells =
    option_map_or long_words (find (λ ms. not (is_dwell ms)) dwells) (begin_words (unwrap_or (slice_get dwells 0) (pos 0)))

abbrev pub dwells_words : List (List (List ℕ)) → Option (List ℤ) → List ℕ
dwells_words visits None = []
dwells_words visits (Some dwells) =
    if length dwells == length visits then times_words dwells
    else lengths_words (length dwells) (length visits)

-- ---- at a place

-- a number at the top, or how many entries there are
abbrev pub top_words : ParsedSheet → Key → List ℕ
top_words s keys.Version = number_words keys.Version s.version 1 4
top_words s keys.TickMs = number_words keys.TickMs s.tick_ms 100 1000
top_words s keys.HorizonMs = horizon_words s
top_words s keys.Node = count_words s kinds.Node
top_words s keys.Edge = count_words s kinds.Edge
top_words s keys.Signal = count_words s kinds.Signal
top_words s keys.Vehicle = count_words s kinds.Vehicle
top_words s keys.Train = count_words s kinds.Train
top_words s keys.Order = count_words s kinds.Order
top_words s keys.Within = count_words s kinds.Within
top_words s keys.Overlap = count_words s kinds.Overlap
top_words s _ = []

-- the key is that of visits
abbrev pub is_visits : Key → Bool
is_visits keys.Visits = true
is_visits _ = false

-- that of times to stand
abbrev pub is_dwells : Key → Bool
is_dwells keys.DwellMs = true
is_dwells _ = false

-- that of the sections of an overlap
abbrev pub is_sections : Key → Bool
is_sections keys.Sections = true
is_sections _ = false

-- the visits of an entry, its times to stand, its sections, or a number
abbrev pub field_words : ParsedSheet → EntryKind → ℕ → Key → List ℕ
field_words s kind i key =
    if is_visits key then visits_words (visits_at s i)
    else if is_dwells key then dwells_words (visits_at s i) (dwells_at s i)
    else if is_sections key then sections_words (length (sections_at s i))
    else number_words key (number_at s kind i key) (least_of key) (greatest_of kind key)
