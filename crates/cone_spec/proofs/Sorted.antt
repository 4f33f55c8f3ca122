-- Lists in order, and parts of them.
use Rattle.std.proofs.Common.{◌≡◌, ℕ, zero, suc, ◌+◌, ◌≤◌, ◌⊎◌, inl, inr, Bool, true, false, cond, nat_lt, List, [], ◌∷◌, ◌++◌, map, filter, flat_map, length, refl, subst, arith, le-leb, eq-eqb}
use Rattle.std.specs.List.{list_all}
use Rattle.rail_base.specs.declared.station.Station.{Station}
use Rattle.rail_base.specs.declared.station.TrainNo.{TrainNo}
use Rattle.rail_base.specs.declared.route.Route.{Route}
use Rattle.rail_base.specs.declared.plan.Command.{Command}
use Rattle.rail_base.specs.Numbering.{count_from, one_to}
use Rattle.rail_base.specs.Members.{all_pairs, all_neighbors}
use Rattle.rail_spec.specs.Plans.{commands_of, route_numbers, all_commands}
use Rattle.rail_base.specs.Stations.{trains}
use Rattle.rail_base.proofs.Members.{In, and_left, and_right, and_both, list_all_at, or_left, or_right}
use Rattle.cone_spec.specs.Validity.{is_before, is_pair_before}
use Rattle.cone_spec.proofs.Saying.{is_command_self}
use Rattle.rail_base.proofs.Lists.{list_all_from, in_append, in_filter_back, in_map_back, in_flat_map_back}

pub pairs_neighbors : {X : Type 0} (test : X → X → Bool) (xs : List X) → all_pairs test xs ≡ true → all_neighbors test xs ≡ true
pairs_neighbors test [] h = refl
pairs_neighbors test (x ∷ []) h = refl
pairs_neighbors test (x ∷ y ∷ xs) h = and_both _ _ (and_left (test x y) _ (and_left (list_all (test x) (y ∷ xs)) _ h)) (pairs_neighbors test (y ∷ xs) (and_right (list_all (test x) (y ∷ xs)) _ h))

pub all_pairs_filter : {X : Type 0} (test : X → X → Bool) (g : X → Bool) (xs : List X) → all_pairs test xs ≡ true → all_pairs test (filter g xs) ≡ true
all_pairs_filter test g [] h = refl
all_pairs_filter {X} test g (x ∷ xs) h = go (g x) (all_pairs_filter test g xs (and_right (list_all (test x) xs) _ h))
  where
    go : (b : Bool) → all_pairs test (filter g xs) ≡ true → all_pairs test (cond b (x ∷ filter g xs) (filter g xs)) ≡ true
    go false k = k
    go true k = and_both _ _ (list_all_from (test x) (filter g xs) (λ y m. list_all_at (test x) xs y (and_left (list_all (test x) xs) _ h) (in_filter_back g xs y m).0)) k

pub all_pairs_map : {X Y : Type 0} (test : Y → Y → Bool) (f : X → Y) (xs : List X) → all_pairs (λ a b. test (f a) (f b)) xs ≡ true → all_pairs test (map f xs) ≡ true
all_pairs_map test f [] h = refl
all_pairs_map test f (x ∷ xs) h = and_both _ _ (list_all_from (test (f x)) (map f xs) (λ y m. let k = in_map_back f xs y m in subst (λ z. test (f x) z ≡ true) k.2 (list_all_at (λ b. test (f x) (f b)) xs k.0 (and_left (list_all (λ b. test (f x) (f b)) xs) _ h) k.1)))
    (all_pairs_map test f xs (and_right (list_all (λ b. test (f x) (f b)) xs) _ h))

pub all_pairs_append : {X : Type 0} (test : X → X → Bool) (xs ys : List X) → all_pairs test xs ≡ true → all_pairs test ys ≡ true → ((x y : X) → In x xs → In y ys → test x y ≡ true) → all_pairs test (xs ++ ys) ≡ true
all_pairs_append test [] ys h k c = k
all_pairs_append {X} test (x ∷ xs) ys h k c = and_both _ _ (list_all_from (test x) (xs ++ ys) (λ z m. each z (in_append z xs ys m))) (all_pairs_append test xs ys (and_right (list_all (test x) xs) _ h) k (λ a b m n. c a b (inr m) n))
  where
    each : (z : X) → In z xs ⊎ In z ys → test x z ≡ true
    each z (inl m) = list_all_at (test x) xs z (and_left (list_all (test x) xs) _ h) m
    each z (inr m) = c x z (inl refl) m

pub all_pairs_flat : {X Y : Type 0} (test : Y → Y → Bool) (order : X → X → Bool) (f : X → List Y) → ((x : X) → all_pairs test (f x) ≡ true)
    → ((x y : X) (a b : Y) → order x y ≡ true → In a (f x) → In b (f y) → test a b ≡ true) → (xs : List X) → all_pairs order xs ≡ true → all_pairs test (flat_map f xs) ≡ true
all_pairs_flat test order f each across [] h = refl
all_pairs_flat test order f each across (x ∷ xs) h = all_pairs_append test (f x) (flat_map f xs) (each x) (all_pairs_flat test order f each across xs (and_right (list_all (order x) xs) _ h))
    (λ a b m n. let k = in_flat_map_back f xs b n in across x k.0 a b (list_all_at (order x) xs k.0 (and_left (list_all (order x) xs) _ h) k.1) m k.2)

pub count_sorted : (a n : ℕ) → all_pairs nat_lt (count_from a n) ≡ true
count_sorted a zero = refl
count_sorted a (suc n) = and_both _ _ (list_all_from (nat_lt a) (count_from (a + 1) n) (λ i m. le-leb (suc a) i (let l = from (a + 1) n i m in omega arith))) (count_sorted (a + 1) n)
  where
    from : (a n i : ℕ) → In i (count_from a n) → a ≤ i
    from a zero i m = absurd m
    from a (suc n) i (inl e) = omega arith
    from a (suc n) i (inr m) = let k = from (a + 1) n i m in omega arith

pub trains_sorted : (d : Station) → all_pairs (λ (t u : TrainNo). nat_lt t.0 u.0) (trains d) ≡ true
trains_sorted d = all_pairs_map (λ (t u : TrainNo). nat_lt t.0 u.0) (λ n. record { 0 = n }) (one_to (length d.trains)) (count_sorted 1 (length d.trains))

pub commands_sorted : (d : Station) (routes : List Route) → all_pairs is_before (all_commands d routes) ≡ true
commands_sorted d routes = all_pairs_flat is_before (λ (t u : TrainNo). nat_lt t.0 u.0) (commands_of routes) each across (trains d) (trains_sorted d)
  where
    same_train : (t : TrainNo) (a b : ℕ) → nat_lt a b ≡ true → is_before (record { train = t; route = record { 0 = a } }) (record { train = t; route = record { 0 = b } }) ≡ true
    same_train t a b l = or_right (nat_lt t.0 t.0) _ (and_both _ _ (eq-eqb t.0 t.0 refl) l)

    weaken : (test other : ℕ → ℕ → Bool) → ((a b : ℕ) → test a b ≡ true → other a b ≡ true) → (xs : List ℕ) → all_pairs test xs ≡ true → all_pairs other xs ≡ true
    weaken test other w [] h = refl
    weaken test other w (x ∷ xs) h = and_both _ _ (list_all_from (other x) xs (λ y m. w x y (list_all_at (test x) xs y (and_left (list_all (test x) xs) _ h) m))) (weaken test other w xs (and_right (list_all (test x) xs) _ h))

    each : (t : TrainNo) → all_pairs is_before (commands_of routes t) ≡ true
    each t = all_pairs_map is_before (λ r. record { train = t; route = r }) (route_numbers routes)
        (all_pairs_map (λ a b. is_before (record { train = t; route = a }) (record { train = t; route = b })) (λ n. record { 0 = n }) (one_to (length routes))
        (weaken nat_lt (λ a b. is_before (record { train = t; route = record { 0 = a } }) (record { train = t; route = record { 0 = b } })) (same_train t) (one_to (length routes)) (count_sorted 1 (length routes))))

    across : (t u : TrainNo) (a b : Command) → nat_lt t.0 u.0 ≡ true → In a (commands_of routes t) → In b (commands_of routes u) → is_before a b ≡ true
    across t u a b l m n =
        let x = in_map_back (λ r. record { train = t; route = r }) (route_numbers routes) a m in
        let y = in_map_back (λ r. record { train = u; route = r }) (route_numbers routes) b n in
        subst (λ z. is_before z b ≡ true) x.2 (subst (λ z. is_before (record { train = t; route = x.0 }) z ≡ true) y.2 (or_left (nat_lt t.0 u.0) _ l))

-- pairs of commands, by the first and then by the second, are in order
pub pairs_sorted : (d : Station) (routes : List Route) (keep : Command → Command → Bool) → all_pairs is_pair_before (flat_map (λ e. map (λ c. (e, c)) (filter (keep e) (all_commands d routes))) (all_commands d routes)) ≡ true
pairs_sorted d routes keep = all_pairs_flat is_pair_before is_before (λ e. map (λ c. (e, c)) (filter (keep e) (all_commands d routes))) each across (all_commands d routes) (commands_sorted d routes)
  where
    weaken : (test other : Command → Command → Bool) → ((a b : Command) → test a b ≡ true → other a b ≡ true) → (xs : List Command) → all_pairs test xs ≡ true → all_pairs other xs ≡ true
    weaken test other w [] h = refl
    weaken test other w (x ∷ xs) h = and_both _ _ (list_all_from (other x) xs (λ y m. w x y (list_all_at (test x) xs y (and_left (list_all (test x) xs) _ h) m))) (weaken test other w xs (and_right (list_all (test x) xs) _ h))

    each : (e : Command) → all_pairs is_pair_before (map (λ c. (e, c)) (filter (keep e) (all_commands d routes))) ≡ true
    each e = all_pairs_map is_pair_before (λ c. (e, c)) (filter (keep e) (all_commands d routes))
        (weaken is_before (λ a b. is_pair_before (e, a) (e, b)) (λ a b l. or_right (is_before e e) _ (and_both _ _ (is_command_self e) l)) (filter (keep e) (all_commands d routes)) (all_pairs_filter is_before (keep e) (all_commands d routes) (commands_sorted d routes)))

    across : (e f : Command) (a b : Command × Command) → is_before e f ≡ true → In a (map (λ c. (e, c)) (filter (keep e) (all_commands d routes))) → In b (map (λ c. (f, c)) (filter (keep f) (all_commands d routes))) → is_pair_before a b ≡ true
    across e f a b l m n =
        let x = in_map_back (λ c. (e, c)) (filter (keep e) (all_commands d routes)) a m in
        let y = in_map_back (λ c. (f, c)) (filter (keep f) (all_commands d routes)) b n in
        subst (λ (z : Command × Command). is_pair_before z b ≡ true) x.2 (subst (λ (z : Command × Command). is_pair_before (e, x.0) z ≡ true) y.2 (or_left (is_before e f) _ l))
