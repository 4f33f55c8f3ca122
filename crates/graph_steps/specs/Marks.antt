-- What a search knows: in how many steps it came to each node, and the nodes to which it came last.
use Rattle.std.specs.Prelude.{ℕ, ◌+◌, List, [], ◌∷◌, ◌++◌, slice_index_or, slice_set, Option, Some, None, is_none}
use Rattle.std.specs.Prelude.{if◌then◌else◌}
use Rattle.graph_steps.specs.Graphs.{next}

-- the steps to each node, and the nodes to which it came last
pub record Marked : Type 0 where
  pub found : List (Option ℕ)
  pub front : List ℕ

-- it comes to a node
abbrev pub mark : ℕ → Marked → ℕ → Marked
mark steps m q =
    if is_none (slice_index_or m.found q None)
    then record { found = slice_set m.found q (Some steps); front = m.front ++ q ∷ [] }
    else m

-- it comes to these nodes, one after another
abbrev pub mark_all : ℕ → Marked → List ℕ → Marked
mark_all steps m [] = m
mark_all steps m (q ∷ qs) = mark_all steps (mark steps m q) qs

-- it comes to what is next after these nodes
abbrev pub mark_next : List (List ℕ) → ℕ → Marked → List ℕ → Marked
mark_next graph steps m [] = m
mark_next graph steps m (p ∷ ps) = mark_next graph steps (mark_all steps m (next graph p)) ps

-- lists with a number more in one of them
abbrev pub with_item : ℕ → List (List ℕ) → ℕ → List (List ℕ)
with_item p lists q = slice_set lists q (next lists q ++ p ∷ [])

-- in each of these
abbrev pub with_items : ℕ → List (List ℕ) → List ℕ → List (List ℕ)
with_items p lists [] = lists
with_items p lists (q ∷ qs) = with_items p (with_item p lists q) qs

-- the lists of nodes in turn, each with its number in those that it names
abbrev pub with_each : ℕ → List (List ℕ) → List (List ℕ) → List (List ℕ)
with_each p lists [] = lists
with_each p lists (qs ∷ rest) = with_each (p + 1) (with_items p lists qs) rest
