-- Phrases that sentences are made of.
use Rattle.std.specs.Prelude.{ℕ, List, [], ◌∷◌, ◌++◌, codes, decimal}
use Rattle.std.specs.List.{flat_map}
use Rattle.rail_base.specs.declared.station.Station.{Station}
use Rattle.rail_base.specs.declared.station.NodeNo.{NodeNo}
use Rattle.rail_base.specs.declared.station.SectionNo.{SectionNo}
use Rattle.rail_base.specs.Names.{node_name, section_name}

-- each of these, after the words
abbrev pub each_after : {X : Type 0} → List ℕ → (X → List ℕ) → List X → List ℕ
each_after between text xs = flat_map (λ x. between ++ text x) xs

-- these, with the words between each and the next
abbrev pub joined : {X : Type 0} → List ℕ → (X → List ℕ) → List X → List ℕ
joined between text [] = []
joined between text (x ∷ xs) = text x ++ each_after between text xs

-- `line <n>: `, with which each sentence about the file's line of this number begins
abbrev pub line_head : ℕ → List ℕ
line_head n = codes "line " ++ decimal n ++ codes ": "

-- a sentence about a line of the file, with its LF
abbrev pub sentence : ℕ → List ℕ → List ℕ
sentence n text = line_head n ++ text ++ codes "\n"

-- nodes, each after ` or `
abbrev pub each_node : Station → List NodeNo → List ℕ
each_node d nodes = each_after (codes " or ") (node_name d) nodes

-- nodes with ` or ` between them
abbrev pub joined_nodes : Station → List NodeNo → List ℕ
joined_nodes d nodes = joined (codes " or ") (node_name d) nodes

-- sections, each after a comma
abbrev pub each_section : Station → List SectionNo → List ℕ
each_section d sections = each_after (codes ", ") (section_name d) sections
