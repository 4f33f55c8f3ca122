-- When lists that are made of others are empty.
use Rattle.std.proofs.Common.{◌≡◌, ℕ, ◌≤◌, ◌↔◌, inl, Bool, true, List, [], ◌∷◌, map, filter, flat_map, length, None, refl, subst, arith}
use Rattle.std.specs.Prelude.{IsNone}
use Rattle.rail_base.specs.declared.station.Station.{Station}
use Rattle.rail_base.specs.declared.station.TrainNo.{TrainNo}
use Rattle.rail_base.specs.Members.{In}
use Rattle.rail_base.specs.Numbering.{one_to, first_of_list}
use Rattle.rail_base.specs.Stations.{trains, IsTrain}
use Rattle.rail_base.proofs.Members.{in_filter}
use Rattle.rail_base.proofs.Lists.{in_map, in_map_back, in_flat_map, in_count, in_count_back}

-- a list with no member is empty
pub none_in : {X : Type 0} (xs : List X) → ((x : X) → In x xs → ⊥) → xs ≡ []
none_in [] h = refl
none_in (x ∷ xs) h = absurd (h x (inl refl))

pub none_first : {X : Type 0} (xs : List X) → (IsNone (first_of_list xs)) ↔ (xs ≡ [])
none_first [] = (λ e. refl, λ e. refl)
none_first (x ∷ xs) = (λ e. cc, λ e. cc)

pub empty_of : {X : Type 0} (xs : List X) → None ≡ first_of_list xs → xs ≡ []
empty_of [] e = refl
empty_of (x ∷ xs) e = cc

pub none_mapped : {X Y : Type 0} (f : X → Y) (xs : List X) → map f xs ≡ [] → xs ≡ []
none_mapped f [] e = refl
none_mapped f (x ∷ xs) e = cc

pub none_kept : {X : Type 0} (test : X → Bool) (xs : List X) (x : X) → filter test xs ≡ [] → In x xs → test x ≡ true → ⊥
none_kept test xs x e m p = subst (In x) e (in_filter test xs x m p)

pub none_joined : {X Y : Type 0} (f : X → List Y) (xs : List X) (x : X) → flat_map f xs ≡ [] → In x xs → f x ≡ []
none_joined {X} {Y} f xs x e m = none_in (f x) (λ y n. subst (In y) e (in_flat_map f xs x y m n))

-- ---- numbers of steps and trains

pub in_one_to : (n i : ℕ) → 1 ≤ i → i ≤ n → In i (one_to n)
in_one_to n i low high = in_count 1 n i low (omega arith)

pub in_one_to_back : (n i : ℕ) → In i (one_to n) → (1 ≤ i) × (i ≤ n)
in_one_to_back n i m = let l = in_count_back 1 n i m in let high = l.1 in (l.0, omega arith)

pub in_trains : (d : Station) (t : TrainNo) → IsTrain d t → In t (trains d)
in_trains d t h = in_map (λ n. record { 0 = n }) (one_to (length d.trains)) t.0 (in_one_to (length d.trains) t.0 h.0 h.1)

pub in_trains_back : (d : Station) (t : TrainNo) → In t (trains d) → IsTrain d t
in_trains_back d t m = go (in_map_back (λ n. record { 0 = n }) (one_to (length d.trains)) t m)
  where
    go : (n : ℕ) × In n (one_to (length d.trains)) × (record { 0 = n } ≡ t) → IsTrain d t
    go (n, k, e) = subst (IsTrain d) e (in_one_to_back (length d.trains) n k)
