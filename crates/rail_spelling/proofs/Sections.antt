-- Names, each of them once.
use Rattle.std.proofs.Common.{◌≡◌, ℕ, inl, inr, Bool, not, List, [], ◌∷◌, filter, bytes_eq, sym, ap, ◌∙◌, true≢false}
use Rattle.std.proofs.lemmas.Slice.Eq.{bytes_eq-Decides}
use Rattle.rail_base.specs.Members.{In, Pairs}
use Rattle.rail_base.proofs.Lists.{in_filter_back, pairs_filter}
use Rattle.rail_spelling.specs.Designs.{each_once}

-- the test of all names but one
abbrev pub apart : List ℕ → List ℕ → Bool
apart name other = not (bytes_eq name other)

-- no two are the same
pub once_differ : (names : List (List ℕ)) → Pairs (λ (a b : List ℕ). a ≡ b → ⊥) (each_once names)
once_differ [] = tt
once_differ (name ∷ names) = (later, pairs_filter (λ (a b : List ℕ). a ≡ b → ⊥) (apart name) (each_once names) (once_differ names))
  where
    later : (other : List ℕ) → In other (filter (apart name) (each_once names)) → name ≡ other → ⊥
    later other m e =
        let kept = in_filter_back (apart name) (each_once names) other m in
        true≢false (sym kept.1 ∙ ap not ((bytes_eq-Decides name other).1 e))

-- each is one of the names
pub once_back : (names : List (List ℕ)) (name : List ℕ) → In name (each_once names) → In name names
once_back [] name m = m
once_back (n ∷ ns) name (inl e) = inl e
once_back (n ∷ ns) name (inr m) = inr (once_back ns name (in_filter_back (apart n) (each_once ns) name m).0)
