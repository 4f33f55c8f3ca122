-- What is wrong at a place of a sheet, in words.
use Rattle.std.specs.Prelude.{ℕ, ℤ, Bool, true, false, ◌==◌, List, [], ◌∷◌, ◌++◌, codes, decimal, if◌then◌else◌}
use Rattle.std.specs.Fmt.{signed_decimal}
use Rattle.design_table.specs.declared.key.Key.{Key}
use Rattle.design_table.specs.declared.key.Key.TheVariants as keys
use Rattle.design_table.specs.declared.place.EntryKind.{EntryKind}
use Rattle.design_table.specs.declared.place.EntryKind.TheVariants as kinds
use Rattle.design_table.specs.declared.place.Place.{Place}
use Rattle.design_table.specs.declared.place.Place.TheVariants as places
use Rattle.design_table.specs.declared.fault.Code.{Code}
use Rattle.design_table.specs.declared.fault.Code.TheVariants as code
use Rattle.design_table.specs.declared.sheet.Side.{Side}
use Rattle.design_table.specs.declared.sheet.Side.TheVariants.{A, B}
use Rattle.design_table.specs.Parsed.{ParsedSheet}
use Rattle.fault_words.specs.Entries.{number_at, text_at, top_number, toward_at, visits_at}
use Rattle.fault_words.specs.Limits.{field_words, top_words}
use Rattle.fault_words.specs.Names.{first_number, unknown_name}
use Rattle.fault_words.specs.Tracks.{edges_at, inner_node, is_boundary, signal_beside, visits_of}
use Rattle.fault_words.specs.Words.{edges_words, is_words, kind_text, line_of}
use Rattle.design_table.specs.Keys.{key_text}

-- ---- D03: `the name pw stands already at node 3`, or `signal s1 has overlap 2 already, and is to have one at most`

-- the entry of a kind that has first what this one has at a key
abbrev pub first_words : ParsedSheet → EntryKind → ℕ → Key → List ℕ
first_words s kind i key = kind_text kind ++ codes " " ++ decimal (first_number s kind i key)

abbrev pub named_words : ParsedSheet → EntryKind → ℕ → Key → List ℕ
named_words s kind i key =
    codes "the name " ++ text_at s kind i key ++ codes " stands already at " ++ first_words s kind i key

abbrev pub second_words : ParsedSheet → EntryKind → ℕ → Key → List ℕ
second_words s kind i key =
    codes "signal " ++ text_at s kind i key ++ codes " has " ++ first_words s kind i key
    ++ codes " already, and is to have one at most"

-- the key is that of a signal
abbrev pub is_signal : Key → Bool
is_signal keys.Signal = true
is_signal _ = false

abbrev pub repeated_words : ParsedSheet → EntryKind → ℕ → Key → List ℕ
repeated_words s kind i key = if is_signal key then second_words s kind i key else named_words s kind i key

-- ---- D04: `there is no node pw_1`

-- the key by whose word the thing is called of which a key has the name
abbrev pub named_key : Key → Key
named_key keys.Vehicle = keys.Vehicle
named_key keys.FirstTrain = keys.Train
named_key keys.ThenTrain = keys.Train
named_key keys.FromTrain = keys.Train
named_key keys.ToTrain = keys.Train
named_key keys.Signal = keys.Signal
named_key keys.Sections = keys.Section
named_key _ = keys.Node

abbrev pub unknown_words : ParsedSheet → EntryKind → ℕ → Key → List ℕ
unknown_words s kind i key =
    codes "there is no " ++ key_text (named_key key) ++ codes " " ++ unknown_name s kind i key

-- ---- D06: `node pw has edges x1, x2, x3 at side a and edge x4 at side b: ..`, or `edge x joins node pw to itself`

-- the edges at both sides of a node
abbrev pub sides_words : ParsedSheet → List ℕ → List ℕ
sides_words s node = edges_words (edges_at s node A) ++ codes " at side a and " ++ edges_words (edges_at s node B)
    ++ codes " at side b"

abbrev pub node_words : ParsedSheet → ℕ → List ℕ
node_words s i =
    let node = text_at s kinds.Node i keys.Name in
    codes "node " ++ node ++ codes " has " ++ sides_words s node
    ++ codes ": at most two may be at one side, and then one at the other"

abbrev pub loop_words : ParsedSheet → ℕ → List ℕ
loop_words s i =
    codes "edge " ++ text_at s kinds.Edge i keys.Name ++ codes " joins node " ++ text_at s kinds.Edge i keys.From
    ++ codes " to itself"

abbrev pub crowded_words : ParsedSheet → EntryKind → ℕ → List ℕ
crowded_words s kinds.Node i = node_words s i
crowded_words s kinds.Edge i = loop_words s i
crowded_words s _ i = []

-- ---- D07: `boundary b1 has edges x, y, and is to have one`

-- the edges at a node, those at side a first
abbrev pub edges_of : ParsedSheet → List ℕ → List (List ℕ)
edges_of s node = edges_at s node A ++ edges_at s node B

abbrev pub boundary_words : ParsedSheet → ℕ → List ℕ
boundary_words s i =
    let node = text_at s kinds.Node i keys.Name in
    codes "boundary " ++ node ++ codes " has " ++ edges_words (edges_of s node) ++ codes ", and is to have one"

-- ---- D08: `signal s stands at boundary b1`, or `signal s stands at node n toward a, as signal q does`

abbrev pub side_text : Side → List ℕ
side_text A = codes "a"
side_text B = codes "b"

abbrev pub beside_words : ParsedSheet → List ℕ → Side → List ℕ
beside_words s node side =
    codes "node " ++ node ++ codes " toward " ++ side_text side ++ codes ", as signal " ++ signal_beside s node side
    ++ codes " does"

-- where a signal stands, whose node has this name
abbrev pub signal_place_words : ParsedSheet → List ℕ → Side → List ℕ
signal_place_words s node side =
    if is_boundary s node then codes "boundary " ++ node
    else beside_words s node side

abbrev pub signal_words : ParsedSheet → ℕ → List ℕ
signal_words s i =
    codes "signal " ++ text_at s kinds.Signal i keys.Name ++ codes " stands at "
    ++ signal_place_words s (text_at s kinds.Signal i keys.Node) (toward_at s i)

-- ---- D09: `speed_mm_s is 3, which is 0 mm in a tick of 100 ms`

-- what there is none of in a tick
abbrev pub nothing_text : Key → List ℕ
nothing_text keys.HorizonMs = codes ", which is 0 ticks of "
nothing_text keys.SpeedMmS = codes ", which is 0 mm in a tick of "
nothing_text _ = codes ", which is 0 mm per tick in a tick of "

abbrev pub nothing_words : Key → ℤ → List ℕ
nothing_words key tick_ms = nothing_text key ++ signed_decimal tick_ms ++ codes " ms"

abbrev pub zero_words : ParsedSheet → Key → ℤ → List ℕ
zero_words s key n = is_words key n ++ nothing_words key s.tick_ms

-- ---- D10: `train T begins at p1, which is no boundary`

-- the nodes of the first of these visits
abbrev pub first_nodes : List (List (List ℕ)) → List (List ℕ)
first_nodes [] = []
first_nodes (visit ∷ visits) = visit

abbrev pub start_words : ParsedSheet → ℕ → List ℕ
start_words s i =
    codes "train " ++ text_at s kinds.Train i keys.Name ++ codes " begins at "
    ++ inner_node s (first_nodes (visits_at s i)) ++ codes ", which is no boundary"

-- ---- D11: `train A has 2 visits, and no visit 3`

-- the key of the train whose visit a key counts
abbrev pub train_key : Key → Key
train_key keys.FirstVisit = keys.FirstTrain
train_key keys.ThenVisit = keys.ThenTrain
train_key keys.FromVisit = keys.FromTrain
train_key key = keys.ToTrain

-- `1 visit`, `2 visits`
abbrev pub count_visits : ℕ → List ℕ
count_visits n = decimal n ++ (if n == 1 then codes " visit" else codes " visits")

abbrev pub missing_words : ParsedSheet → List ℕ → ℤ → List ℕ
missing_words s train n =
    codes "train " ++ train ++ codes " has " ++ count_visits (visits_of s train) ++ codes ", and no visit "
    ++ signed_decimal n

-- ---- D12: `a way round comes back to edge x`

abbrev pub circle_words : ParsedSheet → ℕ → List ℕ
circle_words s i = codes "a way round comes back to edge " ++ text_at s kinds.Edge i keys.Name

-- ---- each code at its places, and nothing at others

abbrev pub top_fault : ParsedSheet → Code → Key → List ℕ
top_fault s code.D05 key = top_words s key
top_fault s code.D09 key = zero_words s key (top_number s key)
top_fault s _ key = []

abbrev pub entry_fault : ParsedSheet → Code → EntryKind → ℕ → List ℕ
entry_fault s code.D06 kind i = crowded_words s kind i
entry_fault s code.D07 kind i = boundary_words s i
entry_fault s code.D08 kind i = signal_words s i
entry_fault s code.D12 kind i = circle_words s i
entry_fault s _ kind i = []

abbrev pub field_fault : ParsedSheet → Code → EntryKind → ℕ → Key → List ℕ
field_fault s code.D03 kind i key = repeated_words s kind i key
field_fault s code.D04 kind i key = unknown_words s kind i key
field_fault s code.D05 kind i key = field_words s kind i key
field_fault s code.D09 kind i key = zero_words s key (number_at s kind i key)
field_fault s code.D10 kind i key = start_words s i
field_fault s code.D11 kind i key = missing_words s (text_at s kind i (train_key key)) (number_at s kind i key)
field_fault s _ kind i key = []

abbrev pub routes_fault : Code → List ℕ
routes_fault code.D13 = codes "the track has more than 2000 routes"
routes_fault _ = []

abbrev pub fault_words : ParsedSheet → Code → Place → List ℕ
fault_words s c (places.Top key) = top_fault s c key
fault_words s c (places.Entry kind i) = entry_fault s c kind i
fault_words s c (places.Field kind i key) = field_fault s c kind i key
fault_words s c places.Routes = routes_fault c
fault_words s c _ = []

-- what is wrong with the sheet that is refused with this code at this place
abbrev pub fault_sentence : ParsedSheet → Code → Place → List ℕ
fault_sentence s c place = line_of (fault_words s c place)
