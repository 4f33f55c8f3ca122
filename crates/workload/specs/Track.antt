-- The track of a station: tracks side by side, joined at both ends by switches.
use Rattle.std.specs.Prelude.{ℕ, ◌+◌, ◌*◌, ◌-◌, true, false, List, [], ◌∷◌, ◌++◌, map, flat_map, nat_lt, if◌then◌else◌}
use Rattle.std.specs.Prelude.{decimal, codes}
use Rattle.rail_base.specs.declared.station.Node.{Node}
use Rattle.rail_base.specs.declared.station.Edge.{Edge}
use Rattle.rail_base.specs.declared.station.Signal.{Signal}
use Rattle.rail_base.specs.declared.station.Side.TheVariants.{A, B}
use Rattle.rail_base.specs.Numbering.{one_to}
use Rattle.rail_base.specs.declared.station.NodeNo.{NodeNo}
use Rattle.rail_base.specs.declared.station.Side.{Side}

-- letters and then a number
abbrev pub numbered_name : List ℕ → ℕ → List ℕ
numbered_name letters i = letters ++ decimal i

-- ---- nodes

-- a node inside the station
abbrev pub inner : List ℕ → ℕ → Node
inner letters i = record { name = numbered_name letters i; boundary = false }

-- two nodes inside the station, of one number
abbrev pub inner_pair : List ℕ → List ℕ → ℕ → List Node
inner_pair first second i = inner first i ∷ inner second i ∷ []

-- the two ends of a track
abbrev pub track_ends : ℕ → List Node
track_ends = inner_pair (codes "l") (codes "r")

-- the switches before and behind a track
abbrev pub switches : ℕ → List Node
switches = inner_pair (codes "p") (codes "q")

-- the two boundaries, in the west and in the east
abbrev pub boundaries : List Node
boundaries = record { name = codes "w"; boundary = true } ∷ record { name = codes "e"; boundary = true } ∷ []

-- the two boundaries, the ends of all tracks, and the switches of all tracks but the last
abbrev pub nodes : ℕ → List Node
nodes size = boundaries ++ flat_map track_ends (one_to size) ++ flat_map switches (one_to (size - 1))

-- ---- the numbers of nodes

-- the boundary in the west
abbrev pub west_boundary : ℕ
west_boundary = 1

-- the boundary in the east
abbrev pub east_boundary : ℕ
east_boundary = 2

-- the west end of a track
abbrev pub left_node : ℕ → ℕ
left_node i = 2 * i + 1

-- the east end of a track
abbrev pub right : ℕ → ℕ
right i = 2 * i + 2

-- where the way from the west reaches track i: at its switch, or at the end of the last track
abbrev pub fork : ℕ → ℕ → ℕ
fork size i = if nat_lt i size then 2 * size + 2 * i + 1 else left_node i

-- where the way to the east leaves track i: at its switch, or at the end of the last track
abbrev pub join : ℕ → ℕ → ℕ
join size i = if nat_lt i size then 2 * size + 2 * i + 2 else right i

-- ---- edges: they run to the east, from side b to side a

-- an edge of this number, between two nodes
abbrev pub edge : ℕ → ℕ → ℕ → ℕ → ℕ → Edge
edge number from to length section = record {
  name = numbered_name (codes "x") number;
  from = record { node = record { 0 = from }; side = B };
  to = record { node = record { 0 = to }; side = A };
  length_mm = length;
  speed_mm_s = 20000;
  section = record { 0 = section };
}

-- from the switch of a track to it, and on to the next
abbrev pub west_legs : ℕ → ℕ → List Edge
west_legs size i =
    edge (2 * i) (fork size i) (left_node i) 50000 1
    ∷ edge (2 * i + 1) (fork size i) (fork size (i + 1)) 50000 1
    ∷ []

-- section 1, from the boundary in the west to all tracks
abbrev pub west : ℕ → List Edge
west size = edge 1 west_boundary (fork size 1) 200000 1 ∷ flat_map (west_legs size) (one_to (size - 1))

-- a track, with a section of its own
abbrev pub track : ℕ → (ℕ → ℕ) → ℕ → Edge
track size length i = edge (2 * size + i - 1) (left_node i) (right i) (length i) (i + 1)

-- from a track to its switch, and from the next
abbrev pub east_legs : ℕ → ℕ → List Edge
east_legs size i =
    edge (3 * size + 2 * i - 1) (right i) (join size i) 50000 (size + 2)
    ∷ edge (3 * size + 2 * i) (join size (i + 1)) (join size i) 50000 (size + 2)
    ∷ []

-- the last section, from all tracks to the boundary in the east
abbrev pub east : ℕ → List Edge
east size =
    edge (3 * size) (join size 1) east_boundary 200000 (size + 2)
    ∷ flat_map (east_legs size) (one_to (size - 1))

-- all edges, for tracks of these lengths
abbrev pub edges : ℕ → (ℕ → ℕ) → List Edge
edges size length = west size ++ map (track size length) (one_to size) ++ east size

-- ---- sections and signals

-- the names of the sections, by their numbers
abbrev pub sections : ℕ → List (List ℕ)
sections size = codes "W" ∷ map (numbered_name (codes "T")) (one_to size) ++ codes "E" ∷ []

-- a signal with these letters and the number of its track
abbrev pub signal : List ℕ → ℕ → NodeNo → Side → Signal
signal letters i node toward = record { name = numbered_name letters i; node = node; toward = toward }

-- the signals of a track: at its east end to the east, at its west end to the west
abbrev pub signals_of : ℕ → List Signal
signals_of i =
    signal (codes "re") i (record { 0 = right i }) B
    ∷ signal (codes "lw") i (record { 0 = left_node i }) A
    ∷ []

-- the signals of all tracks
abbrev pub signals : ℕ → List Signal
signals size = flat_map signals_of (one_to size)
