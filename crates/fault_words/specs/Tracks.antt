-- The track of a sheet, by names.
use Rattle.std.specs.Prelude.{ℕ, Bool, true, false, not, ◌&&◌, if◌then◌else◌, List, [], ◌∷◌, ◌++◌, bytes_eq, length}
use Rattle.std.specs.Prelude.{unwrap_or}
use Rattle.std.specs.List.{find, flat_map, list_any}
use Rattle.std.specs.Option.{option_map_or}
use Rattle.design_table.specs.declared.sheet.Side.{Side}
use Rattle.design_table.specs.declared.sheet.Side.TheVariants.{A, B}
use Rattle.design_table.specs.Parsed.{ParsedNode, ParsedEdge, ParsedSignal, ParsedTrain, ParsedSheet}

-- both are one side
abbrev pub is_side : Side → Side → Bool
is_side A A = true
is_side B B = true
is_side A B = false
is_side B A = false

-- an edge's name, where an end of it is at this side of the node
abbrev pub name_at : List ℕ → Side → List ℕ → Side → List ℕ → List (List ℕ)
name_at node side end end_side name = if bytes_eq end node && is_side end_side side then name ∷ [] else []

-- the same for both of its ends
abbrev pub ends_at : List ℕ → Side → ParsedEdge → List (List ℕ)
ends_at node side e = name_at node side e.from e.from_side e.name ++ name_at node side e.to e.to_side e.name

-- the edges at a side of the node of this name: one with both ends there stands twice
abbrev pub edges_at : ParsedSheet → List ℕ → Side → List (List ℕ)
edges_at s node side = flat_map (ends_at node side) s.edges

-- a boundary has this name
abbrev pub is_boundary : ParsedSheet → List ℕ → Bool
is_boundary s name = list_any (λ (n : ParsedNode). bytes_eq n.name name && n.boundary) s.nodes

-- the first signal at this node for this side
abbrev pub signal_beside : ParsedSheet → List ℕ → Side → List ℕ
signal_beside s node side =
    let is_there = λ (q : ParsedSignal). bytes_eq q.node node && is_side q.toward side in
    option_map_or (λ (q : ParsedSignal). q.name) (find is_there s.signals) []

-- the first of these names that is no boundary's
abbrev pub inner_node : ParsedSheet → List (List ℕ) → List ℕ
inner_node s names = unwrap_or (find (λ name. not (is_boundary s name)) names) []

-- how many visits the train of this name has
abbrev pub visits_of : ParsedSheet → List ℕ → ℕ
visits_of s name = option_map_or (λ (t : ParsedTrain). length t.visits) (find (λ t. bytes_eq t.name name) s.trains) 0
