-- The levels of a search.
use Rattle.std.specs.Prelude.{ℕ, ◌≤◌, ◌<◌, List, length}
use Rattle.std.specs.Coded.{le_prop}
use Rattle.rail_base.specs.declared.station.Station.{Station}
use Rattle.rail_base.specs.Members.{In, Pairs}
use Rattle.rail_base.specs.Stations.{leave, IsNode}
use Rattle.rail_routes.specs.declared.search.Level.{Level}
use Rattle.rail_routes.specs.Paths.{pairs-prop}

-- a level is on the path, and has an edge to try
pub record IsOpen (d : Station) (edges : ℕ) (l : Level) : Type 0 where
  pub on_path : l.after ≤ edges
  pub node : IsNode d l.from.node
  pub has_next : l.tried < length (leave d l.from)

-- all of them are
abbrev pub AreOpen : Station → ℕ → List Level → Type 0
AreOpen d edges ls = (l : Level) → In l ls → IsOpen d edges l

-- each is at least as far along the path as those before it
abbrev pub AreNested : List Level → Type 0
AreNested ls = Pairs (λ (k l : Level). k.after ≤ l.after) ls

-- two proofs of that are the same
pub nested-prop : (ls : List Level) → IsProp (AreNested ls)
nested-prop ls = pairs-prop (λ (k l : Level). k.after ≤ l.after) (λ k l. le_prop) ls
