-- How much of each path the slice has, as the code counts it.
use Rattle.std.proofs.Common.{◌≡◌, ℕ, suc, ◌+◌, max, Bool, true, false, if◌then◌else◌, ◌||◌, nat_lt, nat_le, List, [], ◌∷◌, map, filter, cond, refl, sym, ap, ap₂, ◌∙◌, arith, le-leb}
use Rattle.std.specs.List.{list_any}
use Rattle.rail_base.specs.declared.station.Station.{Station}
use Rattle.rail_base.specs.declared.station.TrainNo.{TrainNo}
use Rattle.rail_base.specs.declared.route.Route.{Route}
use Rattle.rail_base.specs.declared.plan.Command.{Command}
use Rattle.rail_base.specs.Stations.{trains}
use Rattle.cone_spec.specs.declared.ConeTrain.{ConeTrain}
use Rattle.slice_spec.specs.Holders.{count_at, is_holder, is_the}
use Rattle.rail_spec.specs.Plans.{path}
use Rattle.slice_spec.specs.Slices.{past_last, named_count, names, slice_train}
use Rattle.slice_spec.proofs.Alone.{past_last-same}
use Rattle.timing_refuter.specs.Prefixes.{holds_one, needed_count, prefix_of, prefixes_of}
use Rattle.timing_refuter.specs.Raises.{seen_train}

-- the place past the last one found from a place on, or else the one before
abbrev pub or_last : ℕ → ℕ → ℕ → ℕ
or_last past i later = if nat_lt 0 later then i + later else past

pub or_last_next : {X : Type 0} (test : X → Bool) (past i : ℕ) (x : X) (xs : List X) → or_last (if test x then i + 1 else past) (i + 1) (past_last test xs) ≡ or_last past i (past_last test (x ∷ xs))
or_last_next test past i x xs = go (past_last test xs) (nat_lt 0 (past_last test xs)) refl (test x)
  where
    go : (n : ℕ) (b : Bool) → nat_lt 0 n ≡ b → (t : Bool) → (if b then i + 1 + n else if t then i + 1 else past) ≡ or_last past i (if b then suc n else if t then 1 else 0)
    go n true e t =
        let on : nat_lt 0 (suc n) ≡ true = le-leb 1 (suc n) (omega arith) in
        let same : i + 1 + n ≡ i + suc n = omega arith in
        same ∙ ap (λ b. if b then i + suc n else past) (sym on)
    go n false e true = refl
    go n false e false = refl

list_any-map : {X Y : Type 0} (test : Y → Bool) (f : X → Y) (xs : List X) → list_any test (map f xs) ≡ list_any (λ x. test (f x)) xs
list_any-map test f [] = refl
list_any-map test f (x ∷ xs) = ap (λ b. test (f x) || b) (list_any-map test f xs)

-- members of a mapped list that pass a test, each changed
map_filter_map : {X Y Z : Type 0} (f : X → Y) (g : Y → Z) (p : Y → Bool) (k : X → Z) (q : X → Bool) (xs : List X) → ((x : X) → g (f x) ≡ k x) → ((x : X) → p (f x) ≡ q x) → map g (filter p (map f xs)) ≡ map k (filter q xs)
map_filter_map f g p k q [] e b = refl
map_filter_map f g p k q (x ∷ xs) e b = go (p (f x)) (q x) (b x) (map_filter_map f g p k q xs e b)
  where
    go : (a c : Bool) → a ≡ c → map g (filter p (map f xs)) ≡ map k (filter q xs) → map g (cond a (f x ∷ filter p (map f xs)) (filter p (map f xs))) ≡ map k (cond c (x ∷ filter q xs) (filter q xs))
    go true c s r = ap₂ (λ y ys. y ∷ ys) (e x) r ∙ ap (λ c. map k (cond c (x ∷ filter q xs) (filter q xs))) s
    go false c s r = r ∙ ap (λ c. map k (cond c (x ∷ filter q xs) (filter q xs))) s

module _ (d : Station) (routes : List Route) (plan : List (List Command)) (last : ℕ) (h : TrainNo → ℕ) where
  abbrev seen : TrainNo → ConeTrain
  seen t = seen_train d routes plan last (h t) t

  holders_are : (c : Command) → holds_one (map seen (trains d)) c ≡ is_holder d routes plan last h c
  holders_are c = list_any-map (λ (k : ConeTrain). is_the c k.holder) seen (trains d)

  count_is : (t : TrainNo) → needed_count (map seen (trains d)) (seen t) ≡ named_count d routes plan last h t
  count_is t = ap (max (if nat_le 1 (h t) then count_at d routes plan (h t) t + 1 else 0))
      (past_last-same (λ r. holds_one (map seen (trains d)) (record { train = t; route = r })) (λ r. is_holder d routes plan last h (record { train = t; route = r })) (path plan t) (λ r. holders_are (record { train = t; route = r })))

  pub prefixes_are : prefixes_of (map seen (trains d)) (map seen (trains d)) ≡ map (slice_train d routes plan last h (named_count d routes plan last h)) (filter (names (named_count d routes plan last h)) (trains d))
  prefixes_are = map_filter_map seen (λ k. prefix_of k (needed_count (map seen (trains d)) k)) (λ k. nat_le 1 (needed_count (map seen (trains d)) k)) (slice_train d routes plan last h (named_count d routes plan last h)) (names (named_count d routes plan last h)) (trains d)
      (λ t. ap (prefix_of (seen t)) (count_is t)) (λ t. ap (nat_le 1) (count_is t))
