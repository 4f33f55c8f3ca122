-- The path of a search, which marks its edges.
use Rattle.std.specs.Prelude.{◌≡◌, ◌-◌, ◌≤◌, Bool, false, List, [], ◌∷◌, length, slice_index_or}
use Rattle.rail_base.specs.declared.station.EdgeNo.{EdgeNo}
use Rattle.rail_base.specs.Members.{In, Differ, Pairs}
use Rattle.rail_spec.specs.Track.{has_edge}
use Rattle.std.specs.Coded.{×_prop, Unit-prop, Π_prop}

-- an edge of this number has a mark
abbrev pub HasMark : List Bool → EdgeNo → Type 0
HasMark marks e = (1 ≤ e.0) × (e.0 ≤ length marks)

-- each edge is there once, and the marks say which are there
pub record AreMarked (edges : List EdgeNo) (marks : List Bool) : Type 0 where
  pub numbered : (e : EdgeNo) → In e edges → HasMark marks e
  pub once : Differ edges
  pub marked : (e : EdgeNo) → HasMark marks e → slice_index_or marks (e.0 - 1) false ≡ has_edge edges e

-- two proofs that related members stand in order are the same, where two proofs that members are related are
pub pairs-prop : {X : Type 0} (R : X → X → Type 0) → ((x y : X) → IsProp (R x y)) → (xs : List X) → IsProp (Pairs R xs)
pairs-prop R same [] = Unit-prop
pairs-prop R same (x ∷ xs) = ×_prop (Π_prop (λ y. Π_prop (λ m. same x y))) (pairs-prop R same xs)

-- two proofs that members differ are the same
pub differ-prop : {X : Type 0} (xs : List X) → IsProp (Differ xs)
differ-prop xs = pairs-prop (λ x y. x ≡ y → ⊥) (λ x y. Π_prop (λ e. λ a b. absurd a)) xs
