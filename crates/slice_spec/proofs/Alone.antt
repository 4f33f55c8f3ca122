-- There is one least family, and one slice that has it.
use Rattle.std.proofs.Common.{◌≡◌, Some, ◌++◌, subst, ℕ, suc, ◌+◌, ◌≤◌, max, Bool, true, false, ◌&&◌, ◌||◌, if◌then◌else◌, nat_le, nat_lt, cond, List, [], ◌∷◌, map, filter, flat_map, take, inl, inr, Option, refl, sym, ap, ap₂, ◌∙◌, arith}
use Rattle.std.specs.List.{list_any}
use Rattle.rail_base.specs.declared.station.Station.{Station}
use Rattle.rail_base.specs.declared.station.TrainNo.{TrainNo}
use Rattle.rail_base.specs.declared.route.Route.{Route}
use Rattle.rail_base.specs.declared.plan.Command.{Command}
use Rattle.rail_base.specs.declared.plan.Violation.{Violation}
use Rattle.rail_base.specs.declared.plan.Violation.TheVariants as violation
use Rattle.rail_base.specs.Stations.{IsTrain, trains}
use Rattle.rail_base.proofs.Members.{In}
use Rattle.rail_base.proofs.Lists.{in_flat_map_back, in_map_back}
use Rattle.rail_spec.specs.Plans.{path, all_commands, commands_of, route_numbers, has_command, precedes}
use Rattle.rail_spec.specs.Dispatches.{state_at, is_granted}
use Rattle.rail_spec.specs.Dispatches.{of_plan}
use Rattle.cone_spec.specs.declared.ConeTrain.{ConeTrain}
use Rattle.cone_spec.specs.declared.Cone.{Cone}
use Rattle.slice_spec.specs.Holders.{count_at, next_at, is_the, holder_at, is_holder}
use Rattle.slice_spec.specs.Slices.{past_last, is_next, names, is_slice_pair, slice_pairs, slice_train, named_count, slice_of}
use Rattle.slice_spec.specs.Leasts.{IsLeast, HasLeast, IsSliceOf}
use Rattle.rail_base.specs.Admitted.{IsAdmitted}
use Rattle.rail_base.specs.Stations.{horizon}
use Rattle.rail_spec.specs.Feasible.{IsWellFormed}
use Rattle.rail_spec.specs.Requirements.{violation_at}
use Rattle.cone_spec.specs.Laws.{Refutes}
use Rattle.slice_spec.specs.Holders.{GivesEach}
use Rattle.slice_spec.proofs.Slices.{slice_refutes}
use Rattle.slice_spec.proofs.Slicing.{in_trains_back}
use Rattle.slice_spec.proofs.Closing.{own_horizon}

-- ---- lists under tests and functions that agree on their members

list_any-same : {X : Type 0} (p q : X → Bool) (xs : List X) → ((x : X) → In x xs → p x ≡ q x) → list_any p xs ≡ list_any q xs
list_any-same p q [] h = refl
list_any-same p q (x ∷ xs) h = ap₂ (λ a b. a || b) (h x (inl refl)) (list_any-same p q xs (λ y m. h y (inr m)))

pub past_last-same : {X : Type 0} (p q : X → Bool) (xs : List X) → ((x : X) → p x ≡ q x) → past_last p xs ≡ past_last q xs
past_last-same p q [] h = refl
past_last-same p q (x ∷ xs) h = ap₂ (λ (n : ℕ) (b : Bool). if nat_lt 0 n then suc n else if b then 1 else 0) (past_last-same p q xs h) (h x)

map_filter-same : {X Y : Type 0} (f g : X → Y) (p q : X → Bool) (xs : List X) → ((x : X) → In x xs → f x ≡ g x) → ((x : X) → In x xs → p x ≡ q x) → map f (filter p xs) ≡ map g (filter q xs)
map_filter-same f g p q [] h k = refl
map_filter-same f g p q (x ∷ xs) h k = go (p x) (q x) (k x (inl refl)) (map_filter-same f g p q xs (λ y m. h y (inr m)) (λ y m. k y (inr m)))
  where
    go : (a b : Bool) → a ≡ b → map f (filter p xs) ≡ map g (filter q xs) → map f (cond a (x ∷ filter p xs) (filter p xs)) ≡ map g (cond b (x ∷ filter q xs) (filter q xs))
    go true b e r = ap₂ (λ y ys. y ∷ ys) (h x (inl refl)) r ∙ ap (λ b. map g (cond b (x ∷ filter q xs) (filter q xs))) e
    go false b e r = r ∙ ap (λ b. map g (cond b (x ∷ filter q xs) (filter q xs))) e

flat_map-same : {X Y : Type 0} (f g : X → List Y) (xs : List X) → ((x : X) → f x ≡ g x) → flat_map f xs ≡ flat_map g xs
flat_map-same f g [] h = refl
flat_map-same f g (x ∷ xs) h = ap₂ (λ us bs. us ++ bs) (h x) (flat_map-same f g xs h)

module _ (d : Station) (routes : List Route) (plan : List (List Command)) (last : ℕ) where
  -- ---- slices with horizons that agree on the trains

  module _ (g h : TrainNo → ℕ) (same : (t : TrainNo) → In t (trains d) → g t ≡ h t) where
    holder_same : (t : TrainNo) → In t (trains d) → holder_at d routes plan last g t ≡ holder_at d routes plan last h t
    holder_same t m = own_horizon d routes plan last g h t (same t m)

    is_holder_same : (c : Command) → is_holder d routes plan last g c ≡ is_holder d routes plan last h c
    is_holder_same c = list_any-same (λ t. is_the c (holder_at d routes plan last g t)) (λ t. is_the c (holder_at d routes plan last h t)) (trains d) (λ t m. ap (is_the c) (holder_same t m))

    count_same : (t : TrainNo) → In t (trains d) → named_count d routes plan last g t ≡ named_count d routes plan last h t
    count_same t m = ap₂ max (ap (λ i. if nat_le 1 i then count_at d routes plan i t + 1 else 0) (same t m))
        (past_last-same (λ r. is_holder d routes plan last g (record { train = t; route = r })) (λ r. is_holder d routes plan last h (record { train = t; route = r })) (path plan t) (λ r. is_holder_same (record { train = t; route = r })))

    train_same : (t : TrainNo) → In t (trains d) → slice_train d routes plan last g (named_count d routes plan last g) t ≡ slice_train d routes plan last h (named_count d routes plan last h) t
    train_same t m =
        ap₂ (λ (i n : ℕ). record { train = t; horizon = i; free = count_at d routes plan i t; path = take n (path plan t); holder = holder_at d routes plan last g t }) (same t m) (count_same t m)
        ∙ ap (λ o. record { train = t; horizon = h t; free = count_at d routes plan (h t) t; path = take (named_count d routes plan last h t) (path plan t); holder = o }) (holder_same t m)

    listed_same : (e c : Command) → In c.train (trains d) → is_slice_pair d routes plan last g e c ≡ is_slice_pair d routes plan last h e c
    listed_same e c m = ap₂
        (λ (i : ℕ) (o : Option Command). has_command plan e && has_command plan c && precedes routes plan e c && (is_granted d routes (of_plan routes plan) (state_at d routes (of_plan routes plan) i) c || is_next c (next_at d routes plan i c.train) && is_the e o))
        (same c.train m) (holder_same c.train m)

    train_of_all : (c : Command) → In c (all_commands d routes) → In c.train (trains d)
    train_of_all c m = go (in_flat_map_back (commands_of routes) (trains d) c m)
      where
        go : (t : TrainNo) × In t (trains d) × In c (commands_of routes t) → In c.train (trains d)
        go (t, i, j) = let k = in_map_back {Y = Command} (λ r. record { train = t; route = r }) (route_numbers routes) c j in subst (λ u. In u (trains d)) (ap (λ (c : Command). c.train) k.2) i

    pairs_same : slice_pairs d routes plan last g ≡ slice_pairs d routes plan last h
    pairs_same = flat_map-same _ _ (all_commands d routes) (λ e. map_filter-same (λ c. (e, c)) (λ c. (e, c)) (is_slice_pair d routes plan last g e) (is_slice_pair d routes plan last h e) (all_commands d routes) (λ c m. refl) (λ c m. listed_same e c (train_of_all c m)))

    pub slices_same : (v : Violation) → slice_of d routes plan last g v ≡ slice_of d routes plan last h v
    slices_same v = ap₂ (λ (ts : List ConeTrain) ps. record { trains = ts; pairs = ps; violation = v })
        (map_filter-same (slice_train d routes plan last g (named_count d routes plan last g)) (slice_train d routes plan last h (named_count d routes plan last h)) (names (named_count d routes plan last g)) (names (named_count d routes plan last h)) (trains d) train_same (λ t m. ap (nat_le 1) (count_same t m)))
        pairs_same

  -- ---- the least

  pub least_alone : (v : Violation) (g h : TrainNo → ℕ) → IsLeast d routes plan last v g → IsLeast d routes plan last v h → (t : TrainNo) → IsTrain d t → g t ≡ h t
  least_alone v g h a b t is = let low = a.lowest h b.closed t is in let up = b.lowest g a.closed t is in omega arith

  least_slices : (v : Violation) (j k : Cone) → HasLeast d routes plan last v j → HasLeast d routes plan last v k → j ≡ k
  least_slices v j k a b = a.is ∙ slices_same a.horizons b.horizons (λ t m. least_alone v a.horizons b.horizons a.least b.least t (in_trains_back d t m)) v ∙ sym b.is

  pub slices_alone : (v : Violation) (j k : Cone) → IsSliceOf d routes plan last v j → IsSliceOf d routes plan last v k → j ≡ k
  slices_alone (violation.Path t i) j k a b = a ∙ sym b
  slices_alone (violation.Within w) j k a b = least_slices (violation.Within w) j k a b
  slices_alone (violation.Order o) j k a b = least_slices (violation.Order o) j k a b
  slices_alone (violation.Grant t i) j k a b = least_slices (violation.Grant t i) j k a b
  slices_alone (violation.Visit t i) j k a b = least_slices (violation.Visit t i) j k a b

  pub least_refutes : (n : ℕ) (v : Violation) → IsAdmitted d → IsWellFormed d routes n plan → GivesEach d plan → last ≤ horizon d → violation_at d routes plan last ≡ Some v → (k : Cone) → HasLeast d routes plan last v k → Refutes d routes n k plan
  least_refutes n v admitted formed each in_time at k least = subst (λ k. Refutes d routes n k plan) (sym least.is) (slice_refutes d routes n plan last v admitted formed each in_time at least.horizons least.least.closed)
