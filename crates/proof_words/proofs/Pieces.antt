-- Pieces of a file, one after the other.
use Rattle.std.proofs.Common.{◌≡◌, inl, inr, List, [], ◌∷◌, ◌++◌, All, suc, flat_map, subst, sym, ap, ◌∙◌, append_assoc, arith}
use Rattle.rail_base.specs.Members.{In}

pub first_all : {X : Type 0} (P : X → Type 0) (xs : List X) (x : X) (more : List X) → xs ≡ x ∷ more → All P xs → P x
first_all P xs x more is h = let all : All P (x ∷ more) = subst (All P) is h in all 0 x (omega arith)

pub rest_all : {X : Type 0} (P : X → Type 0) (xs : List X) (x : X) (more : List X) → xs ≡ x ∷ more → All P xs → All P more
rest_all P xs x more is h = let all : All P (x ∷ more) = subst (All P) is h in λ i other less. all (suc i) other (omega arith)

pub told_more : {X Y : Type 0} (f : X → List Y) (xs : List X) (x : X) (more : List X) (old mid new : List Y) → xs ≡ x ∷ more
    → mid ++ flat_map f xs ≡ old → new ≡ mid ++ f x → new ++ flat_map f more ≡ old
told_more f xs x more old mid new is before last =
    ap (λ zs. zs ++ flat_map f more) last ∙ (append_assoc mid (f x) (flat_map f more) ∙ (ap (λ ys. mid ++ flat_map f ys) (sym is) ∙ before))

pub in_all : {X : Type 0} (P : X → Type 0) (xs : List X) → All P xs → (x : X) → In x xs → P x
in_all P [] h x m = absurd m
in_all P (y ∷ ys) h x (inl e) = subst P e (h 0 y (omega arith))
in_all P (y ∷ ys) h x (inr m) = in_all P ys (λ i other less. h (suc i) other (omega arith)) x m
