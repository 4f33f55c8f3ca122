-- Graphs of nodes that are numbered from 0: for each node those that come next after it.
use Rattle.std.specs.Prelude.{◌≡◌, ◌↔◌, ℕ, zero, suc, ◌≤◌, ◌<◌, List, [], length, slice_index_or, Option, None, Some}
use Rattle.rail_base.specs.Members.{In}

-- the nodes that come next after a node
abbrev pub next : List (List ℕ) → ℕ → List ℕ
next graph p = slice_index_or graph p []

-- whatever comes next is a node
abbrev pub IsGraph : List (List ℕ) → Type 0
IsGraph graph = (p q : ℕ) → In q (next graph p) → q < length graph

-- so many steps lead from the one node to the other
abbrev pub Leads : List (List ℕ) → ℕ → ℕ → ℕ → Type 0
Leads graph zero p q = p ≡ q
Leads graph (suc k) p q = (r : ℕ) × In r (next graph p) × Leads graph k r q

-- so many steps lead to the node from one of the starts
abbrev pub Comes : List (List ℕ) → List ℕ → ℕ → ℕ → Type 0
Comes graph starts k q = (p : ℕ) × In p starts × Leads graph k p q

-- so many steps lead there from a start, and no fewer; or none do
abbrev pub IsLeast : List (List ℕ) → List ℕ → ℕ → Option ℕ → Type 0
IsLeast graph starts q (Some k) = Comes graph starts k q × ((j : ℕ) → Comes graph starts j q → k ≤ j)
IsLeast graph starts q None = (j : ℕ) → Comes graph starts j q → ⊥

-- the least number of steps to each node
pub record AreLeast (graph : List (List ℕ)) (starts : List ℕ) (found : List (Option ℕ)) : Type 0 where
  pub one_a_node : length found ≡ length graph
  pub each : (q : ℕ) → q < length graph → IsLeast graph starts q (slice_index_or found q None)

-- each number of steps is at most n
abbrev pub AreWithin : ℕ → List (Option ℕ) → Type 0
AreWithin n found = (q k : ℕ) → slice_index_or found q None ≡ Some k → k ≤ n

-- a graph with the same nodes, in which each step leads the other way
pub record IsTurned (graph back : List (List ℕ)) : Type 0 where
  pub same_nodes : length back ≡ length graph
  pub is_graph : IsGraph back
  pub steps : (p q : ℕ) → In p (next back q) ↔ In q (next graph p)
