-- Marks that come in turn: what is behind something that has its tick has its tick too.
use Rattle.std.specs.Prelude.{◌≡◌, ℕ, ◌≤◌, ◌<◌, true, List, map, length, Option, None, Some, is_some, slice_index_or}
use Rattle.std.specs.Prelude.{nat_lt, if◌then◌else◌}
use Rattle.rail_base.specs.declared.station.NodeNo.{NodeNo}
use Rattle.rail_base.specs.declared.station.SectionNo.{SectionNo}
use Rattle.rail_base.specs.declared.route.RouteNo.{RouteNo}
use Rattle.rail_base.specs.declared.state.PathNode.{PathNode}
use Rattle.rail_course.specs.declared.journey.Release.{Release}

-- where a grant has its tick, so have those before it
abbrev pub AreGrantedInTurn : List (RouteNo × Option ℕ) → Type 0
AreGrantedInTurn grants = (i j : ℕ) (d : RouteNo × Option ℕ) → i ≤ j → j < length grants
    → is_some (slice_index_or grants j d).1 ≡ true → is_some (slice_index_or grants i d).1 ≡ true

-- where something has its tick, so has all that is nearer
abbrev pub AreInTurn : {X Y : Type 0} → (X → ℕ) → (Y → Option ℕ) → List X → List Y → Type 0
AreInTurn {X} {Y} place mark xs ys = (i j : ℕ) (dx : X) (dy : Y) → i < length xs → j < length xs
    → place (slice_index_or xs i dx) < place (slice_index_or xs j dx)
    → is_some (mark (slice_index_or ys j dy)) ≡ true → is_some (mark (slice_index_or ys i dy)) ≡ true

-- these are marks of the nodes of a path
pub record ArePassedInTurn (path_nodes : List PathNode) (passes : List (NodeNo × Option ℕ)) : Type 0 where
  pub named : map (λ p. p.0) passes ≡ map (λ n. n.node) path_nodes
  pub in_turn : AreInTurn (λ n. n.event.place) (λ p. p.1) path_nodes passes

-- these are marks of releases
pub record AreReleasedInTurn (releases : List Release) (entries : List (RouteNo × SectionNo × Option ℕ)) : Type 0 where
  pub named : map {B = RouteNo × SectionNo} (λ e. (e.0, e.1)) entries
      ≡ map {B = RouteNo × SectionNo} (λ r. (r.route, r.section)) releases
  pub in_turn : AreInTurn (λ r. r.event.place) (λ e. e.2) releases entries

-- up to where all has its tick, where what is at a place has this one
abbrev pub settled_by : Option ℕ → ℕ → ℕ → ℕ → ℕ
settled_by None tick place settled = settled
settled_by (Some earlier) tick place settled = if nat_lt earlier tick then place else settled
