-- A plan is well formed exactly where no place says that it isn't.
use Rattle.std.proofs.Common.{◌≡◌, ℕ, zero, suc, ◌+◌, ◌-◌, ◌<◌, ◌≤◌, ◌↔◌, Bool, true, false, not, cond, ◌&&◌, nat_le, if◌then◌else◌, List, [], ◌∷◌, ◌++◌, map, filter, length, take, drop, get_or, Option, None, Some, refl, sym, ap, subst, ◌∙◌, arith, add-one, Contains, eq-eqb, eqb-true, true≢false}
use Rattle.std.specs.Option.{option_or}
use Rattle.std.specs.List.{list_all}
use Rattle.std.proofs.lemmas.List.{map-append, append_assoc, take_more, take_all, append-nil, take-append-drop, get_or_default}
use Rattle.std.proofs.lemmas.List.Folds.{list_all-append}
use Rattle.std.proofs.lemmas.List.Concat.{flat_map-append}
use Rattle.rail_base.specs.declared.station.Station.{Station}
use Rattle.rail_base.specs.declared.station.Train.{Train}
use Rattle.rail_base.specs.declared.station.TrainNo.{TrainNo}
use Rattle.rail_base.specs.declared.route.Route.{Route}
use Rattle.rail_base.specs.declared.route.RouteNo.{RouteNo}
use Rattle.rail_base.specs.declared.plan.Command.{Command}
use Rattle.rail_base.specs.Members.{In, all_pairs, all_neighbors}
use Rattle.rail_base.specs.Numbering.{entry, one_to}
use Rattle.rail_base.specs.Stations.{trains, train_of, first_visit, IsTrain}
use Rattle.rail_spec.specs.Plans.{is_train, is_start, goes_on, end_at_one_signal, begins_in, is_path, one_each, route_at, routes_given, path, path_routes, commands, is_well_formed}
use Rattle.rail_spec.specs.Feasible.{is_of, names_only}
use Rattle.rail_plan.specs.WellFormed.{last_of_list, begins_well, are_apart, may_follow, may_go_on, is_placed, misplaced_in, placed_badly, misplaced}
use Rattle.rail_plan.specs.declared.place.PlanPlace.{PlanPlace}
use Rattle.rail_plan.specs.declared.place.PlanPlace.TheVariants as place
use Rattle.rail_base.proofs.Members.{and_left, and_right, and_both, list_all_at, in_filter}
use Rattle.rail_base.proofs.Lists.{in_filter_back, in_map, in_map_back, in_flat_map, in_flat_map_back, list_all_from, length-map}
use Rattle.rail_base.proofs.Contained.{in_at, contains_of_in}
use Rattle.rail_plan.proofs.Named.{its_train}
use Rattle.rail_plan.proofs.Empties.{none_in, none_mapped, none_kept, none_joined, in_one_to, in_one_to_back, in_trains, in_trains_back}

-- ---- a path and one more route

pairs_more : {X : Type 0} (test : X → X → Bool) (xs : List X) (x : X) → all_pairs test (xs ++ x ∷ []) ≡ (all_pairs test xs && list_all (λ y. test y x) xs)
pairs_more test [] x = refl
pairs_more test (y ∷ ys) x = ap (λ b. b && all_pairs test (ys ++ x ∷ [])) (list_all-append (test y) ys (x ∷ [])) ∙ ap (λ b. (list_all (test y) ys && (test y x && true)) && b) (pairs_more test ys x) ∙ swap (list_all (test y) ys) (test y x) (all_pairs test ys) (list_all (λ z. test z x) ys)
  where
    swap : (a b p q : Bool) → ((a && (b && true)) && (p && q)) ≡ ((a && p) && (b && q))
    swap a b p q = grind arith

-- the last member is so related to x, where there is one
abbrev after : {X : Type 0} → (X → X → Bool) → Option X → X → Bool
after test None x = true
after test (Some y) x = test y x

neighbors_more : {X : Type 0} (test : X → X → Bool) (xs : List X) (x : X) → all_neighbors test (xs ++ x ∷ []) ≡ (all_neighbors test xs && after test (last_of_list xs) x)
neighbors_more test [] x = refl
neighbors_more test (y ∷ []) x = right (test y x)
  where
    right : (a : Bool) → (a && true) ≡ a
    right true = refl
    right false = refl
neighbors_more {X} test (y ∷ z ∷ zs) x = ap (λ b. test y z && b) (neighbors_more test (z ∷ zs) x) ∙ joined (test y z) (all_neighbors test (z ∷ zs)) (after test (last_of_list (z ∷ zs)) x) ∙ ap (λ o. (test y z && all_neighbors test (z ∷ zs)) && after test o x) (same (last_of_list zs))
  where
    joined : (a b c : Bool) → (a && (b && c)) ≡ ((a && b) && c)
    joined true b c = refl
    joined false b c = refl

    same : (o : Option X) → option_or o (Some z) ≡ option_or (option_or o (Some z)) (Some y)
    same None = refl
    same (Some w) = refl

all_both : {X : Type 0} (p q : X → Bool) (xs : List X) → list_all (λ x. p x && q x) xs ≡ (list_all p xs && list_all q xs)
all_both p q [] = refl
all_both p q (x ∷ xs) = ap (λ b. (p x && q x) && b) (all_both p q xs) ∙ swap (p x) (q x) (list_all p xs) (list_all q xs)
  where
    swap : (a b c e : Bool) → ((a && b) && (c && e)) ≡ ((a && c) && (b && e))
    swap a b c e = grind arith

-- the path with one more route is a path where it was one and the route may follow
pub path_more : (t : Train) (rs : List Route) (r : Route) → is_path t (rs ++ r ∷ []) ≡ (is_path t rs && may_follow t rs r)
path_more t [] r = one (begins_in (first_visit t) (r ∷ []))
  where
    one : (b : Bool) → (((b && true) && true) && true) ≡ (b && true)
    one true = refl
    one false = refl
path_more t (q ∷ qs) r =
    let rs = q ∷ qs in
    let goes = λ (r q : Route). goes_on r.finish q.start in
    let starts = λ (r q : Route). not (is_start r.start q.start) in
    let ends = λ (r q : Route). not (end_at_one_signal r.finish q.finish) in
    let begin = begins_in (first_visit t) (q ∷ qs) in
    ap (λ b. ((begin && b) && all_pairs starts (rs ++ r ∷ [])) && all_pairs ends (rs ++ r ∷ [])) (neighbors_more goes rs r)
    ∙ ap (λ b. ((begin && (all_neighbors goes rs && after goes (last_of_list rs) r)) && b) && all_pairs ends (rs ++ r ∷ [])) (pairs_more starts rs r)
    ∙ ap (λ b. ((begin && (all_neighbors goes rs && after goes (last_of_list rs) r)) && (all_pairs starts rs && list_all (λ p. starts p r) rs)) && b) (pairs_more ends rs r)
    ∙ shuffle begin (all_neighbors goes rs) (after goes (last_of_list rs) r) (all_pairs starts rs) (list_all (λ p. starts p r) rs) (all_pairs ends rs) (list_all (λ p. ends p r) rs)
    ∙ ap (λ b. (((begin && all_neighbors goes rs) && all_pairs starts rs) && all_pairs ends rs) && (after goes (last_of_list rs) r && b)) (sym (all_both (λ p. starts p r) (λ p. ends p r) rs))
    ∙ ap (λ b. (((begin && all_neighbors goes rs) && all_pairs starts rs) && all_pairs ends rs) && (b && list_all (λ p. are_apart p r) rs)) (begins (last_of_list qs))
  where
    shuffle : (b n g s s' e e' : Bool) → (((b && (n && g)) && (s && s')) && (e && e')) ≡ ((((b && n) && s) && e) && (g && (s' && e')))
    shuffle false n g s s' e e' = refl
    shuffle true false g s s' e e' = refl
    shuffle true true g s s' e e' = grind arith

    begins : (o : Option Route) → after (λ (r q : Route). goes_on r.finish q.start) (option_or o (Some q)) r ≡ begins_well (first_visit t) (option_or o (Some q)) r
    begins None = refl
    begins (Some p) = refl

-- what may go on with a path makes a path of it, of one route more at most
go_on_gives : (t : Train) (rs gs : List Route) → is_path t rs ≡ true → may_go_on t rs gs ≡ true → (is_path t (rs ++ gs) ≡ true) × (length gs ≤ 1)
go_on_gives t rs [] p h = (subst (λ qs. is_path t qs ≡ true) (sym (append-nil rs)) p, omega arith)
go_on_gives t rs (g ∷ []) p h = (path_more t rs g ∙ and_both (is_path t rs) (may_follow t rs g) p h, omega arith)
go_on_gives t rs (g ∷ k ∷ gs) p h = cc

go_on_from : (t : Train) (rs gs : List Route) → is_path t (rs ++ gs) ≡ true → length gs ≤ 1 → may_go_on t rs gs ≡ true
go_on_from t rs [] p n = refl
go_on_from t rs (g ∷ []) p n = and_right (is_path t rs) (may_follow t rs g) (sym (path_more t rs g) ∙ p)
go_on_from t rs (g ∷ k ∷ gs) p n = absurd (omega arith)

-- the prefix of a path is a path
path_prefix : (t : Train) (rs gs : List Route) → is_path t (rs ++ gs) ≡ true → is_path t rs ≡ true
path_prefix t rs [] p = subst (λ qs. is_path t qs ≡ true) (append-nil rs) p
path_prefix t rs (g ∷ gs) p =
    let prefix = path_prefix t (rs ++ g ∷ []) gs (subst (λ qs. is_path t qs ≡ true) (sym (append_assoc rs (g ∷ []) gs)) p) in
    and_left (is_path t rs) (may_follow t rs g) (sym (path_more t rs g) ∙ prefix)

-- ---- one step

pub none_given : (t : TrainNo) (cs : List Command) → ((e : Command) → In e cs → is_train e.train t ≡ true → ⊥) → routes_given t cs ≡ []
none_given t cs h = ap (map (λ (c : Command). c.route)) (none_in (filter (λ (c : Command). is_train c.train t) cs) (λ c m. let l = in_filter_back (λ (c : Command). is_train c.train t) cs c m in h c l.0 l.1))

pub few_given : (t : TrainNo) (step : List Command) → one_each step ≡ true → length (routes_given t step) ≤ 1
few_given t [] h = omega arith
few_given t (c ∷ cs) h = go (is_train c.train t) refl (few_given t cs (and_right (list_all (λ (e : Command). not (is_train c.train e.train)) cs) (one_each cs) h))
  where
    apart : is_train c.train t ≡ true → (e : Command) → In e cs → is_train e.train t ≡ true → ⊥
    apart a e m b =
        let x : c.train.0 ≡ t.0 = eqb-true c.train.0 t.0 a in
        let y : e.train.0 ≡ t.0 = eqb-true e.train.0 t.0 b in
        let same = eq-eqb c.train.0 e.train.0 (x ∙ sym y) in
        true≢false (sym (list_all_at (λ (e : Command). not (is_train c.train e.train)) cs e (and_left (list_all (λ (e : Command). not (is_train c.train e.train)) cs) (one_each cs) h) m) ∙ ap not same)

    go : (b : Bool) → is_train c.train t ≡ b → length (routes_given t cs) ≤ 1 → length (map (λ (c : Command). c.route) (cond b (c ∷ filter (λ (c : Command). is_train c.train t) cs) (filter (λ (c : Command). is_train c.train t) cs))) ≤ 1
    go true e k = let none : length (routes_given t cs) ≡ 0 = ap length (none_given t cs (apart e)) in omega arith
    go false e k = k

one_from_few : (d : Station) (routes : List Route) (step : List Command) → list_all (is_of d routes) step ≡ true → ((t : TrainNo) → IsTrain d t → length (routes_given t step) ≤ 1) → one_each step ≡ true
one_from_few d routes [] h few = refl
one_from_few d routes (c ∷ cs) h few =
    and_both (list_all (λ (e : Command). not (is_train c.train e.train)) cs) (one_each cs)
    (list_all_from (λ (e : Command). not (is_train c.train e.train)) cs (λ e m. apart e m (is_train c.train e.train) refl))
    (one_from_few d routes cs (and_right (is_of d routes c) (list_all (is_of d routes) cs) h) (λ t k. fewer t (is_train c.train t) (few t k)))
  where
    fewer : (t : TrainNo) (b : Bool) → length (map (λ (c : Command). c.route) (cond b (c ∷ filter (λ (c : Command). is_train c.train t) cs) (filter (λ (c : Command). is_train c.train t) cs))) ≤ 1 → length (routes_given t cs) ≤ 1
    fewer t true k = omega arith
    fewer t false k = k

    some : (gs : List RouteNo) (r : RouteNo) → In r gs → 1 ≤ length gs
    some [] r m = absurd m
    some (g ∷ gs) r m = omega arith

    apart : (e : Command) → In e cs → (b : Bool) → is_train c.train e.train ≡ b → not (is_train c.train e.train) ≡ true
    apart e m false k = ap not k
    apart e m true k =
        let same : e.train.0 ≡ c.train.0 = sym (eqb-true c.train.0 e.train.0 k) in
        let there = in_map (λ (c : Command). c.route) (filter (λ (f : Command). is_train f.train c.train) cs) e (in_filter (λ (f : Command). is_train f.train c.train) cs e m (eq-eqb e.train.0 c.train.0 same)) in
        let more = some (routes_given c.train cs) e.route there in
        let first : length (routes_given c.train (c ∷ cs)) ≡ suc (length (routes_given c.train cs)) = ap (λ b. length (map (λ (c : Command). c.route) (cond b (c ∷ filter (λ (f : Command). is_train f.train c.train) cs) (filter (λ (f : Command). is_train f.train c.train) cs)))) (eq-eqb c.train.0 c.train.0 refl) in
        let one = few c.train (its_train d routes c (and_left (is_of d routes c) (list_all (is_of d routes) cs) h)) in
        absurd (omega arith)

-- ---- all steps

module _ (d : Station) (routes : List Route) (plan : List (List Command)) where
  path_joined : (t : TrainNo) (xs ys : List (List Command)) → path_routes routes (xs ++ ys) t ≡ path_routes routes xs t ++ path_routes routes ys t
  path_joined t xs ys = ap (map (route_at routes)) (flat_map-append (routes_given t) xs ys) ∙ map-append (route_at routes) (path xs t) (path ys t)

  path_step : (t : TrainNo) (i : ℕ) → i < length plan → path_routes routes (take (i + 1) plan) t ≡ path_routes routes (take i plan) t ++ map (route_at routes) (routes_given t (get_or plan i []))
  path_step t i h =
      ap (λ xs. path_routes routes xs t) (take_more plan i [] h)
      ∙ path_joined t (take i plan) (get_or plan i [] ∷ [])
      ∙ ap (λ qs. path_routes routes (take i plan) t ++ map (route_at routes) qs) (append-nil (routes_given t (get_or plan i [])))

  -- the train's command in the step of this index is right
  abbrev is_right : ℕ → TrainNo → Bool
  is_right i t = is_placed d routes (take i plan) (get_or plan i []) t

  paths_so_far : (t : TrainNo) → ((i : ℕ) → i < length plan → is_right i t ≡ true) → (n : ℕ) → n ≤ length plan → is_path (train_of d t) (path_routes routes (take n plan) t) ≡ true
  paths_so_far t right zero h = refl
  paths_so_far t right (suc n) h =
      let before = paths_so_far t right n (omega arith) in
      let more = go_on_gives (train_of d t) (path_routes routes (take n plan) t) (map (route_at routes) (routes_given t (get_or plan n []))) before (right n h) in
      subst (λ m. is_path (train_of d t) (path_routes routes (take m plan) t) ≡ true) (add-one n) (subst (λ rs. is_path (train_of d t) rs ≡ true) (sym (path_step t n h)) more.0)

  pub path_of_right : (t : TrainNo) → ((i : ℕ) → i < length plan → is_right i t ≡ true) → is_path (train_of d t) (path_routes routes plan t) ≡ true
  path_of_right t right = subst (λ xs. is_path (train_of d t) (path_routes routes xs t) ≡ true) (take_all (length plan) plan (omega arith)) (paths_so_far t right (length plan) (omega arith))

  few_of_right : (t : TrainNo) → ((i : ℕ) → i < length plan → is_right i t ≡ true) → (i : ℕ) → i < length plan → length (routes_given t (get_or plan i [])) ≤ 1
  few_of_right t right i h =
      let before = paths_so_far t right i (omega arith) in
      let more = go_on_gives (train_of d t) (path_routes routes (take i plan) t) (map (route_at routes) (routes_given t (get_or plan i []))) before (right i h) in
      subst (λ n. n ≤ 1) (length-map (route_at routes) (routes_given t (get_or plan i []))) more.1

  right_of_path : (t : TrainNo) → is_path (train_of d t) (path_routes routes plan t) ≡ true → (i : ℕ) → i < length plan → length (routes_given t (get_or plan i [])) ≤ 1 → is_right i t ≡ true
  right_of_path t p i h few =
      let whole = path_joined t (take (i + 1) plan) (drop (i + 1) plan) in
      let split = subst (λ xs. is_path (train_of d t) (path_routes routes xs t) ≡ true) (sym (take-append-drop (i + 1) plan)) p in
      let prefix = path_prefix (train_of d t) (path_routes routes (take (i + 1) plan) t) (path_routes routes (drop (i + 1) plan) t) (subst (λ rs. is_path (train_of d t) rs ≡ true) whole split) in
      go_on_from (train_of d t) (path_routes routes (take i plan) t) (map (route_at routes) (routes_given t (get_or plan i []))) (subst (λ rs. is_path (train_of d t) rs ≡ true) (path_step t i h) prefix) (subst (λ n. n ≤ 1) (sym (length-map (route_at routes) (routes_given t (get_or plan i [])))) few)

  -- ---- the places

  number_right : (i : ℕ) (t : TrainNo) → is_placed d routes (take ((i + 1) - 1) plan) (entry [] plan (i + 1)) t ≡ is_right i t
  number_right i t =
      let back : (i + 1) - 1 ≡ i = omega arith in
      ap (λ n. is_placed d routes (take n plan) (entry [] plan (i + 1)) t) back ∙ ap (λ n. is_placed d routes (take i plan) (entry [] plan n) t) (add-one i)

  right_of_none : placed_badly d routes plan ≡ [] → (t : TrainNo) → IsTrain d t → (i : ℕ) → i < length plan → is_right i t ≡ true
  right_of_none none t k i h = sym (number_right i t) ∙ right (is_placed d routes (take ((i + 1) - 1) plan) (entry [] plan (i + 1)) t) refl
    where
      here : misplaced_in d routes plan (i + 1) ≡ []
      here = none_mapped (place.Train (i + 1)) (misplaced_in d routes plan (i + 1)) (none_joined (λ j. map (place.Train j) (misplaced_in d routes plan j)) (one_to (length plan)) (i + 1) none (in_one_to (length plan) (i + 1) (omega arith) (omega arith)))

      right : (b : Bool) → is_placed d routes (take ((i + 1) - 1) plan) (entry [] plan (i + 1)) t ≡ b → b ≡ true
      right true e = refl
      right false e = absurd (none_kept (λ u. not (is_placed d routes (take ((i + 1) - 1) plan) (entry [] plan (i + 1)) u)) (trains d) t here (in_trains d t k) (ap not e))

  none_of_right : ((t : TrainNo) → IsTrain d t → (i : ℕ) → i < length plan → is_right i t ≡ true) → placed_badly d routes plan ≡ []
  none_of_right right = none_in (placed_badly d routes plan) (λ p m. go p (in_flat_map_back (λ i. map (place.Train i) (misplaced_in d routes plan i)) (one_to (length plan)) p m))
    where
      clash : (i : ℕ) → 1 ≤ i → i ≤ length plan → (t : TrainNo) → IsTrain d t → not (is_placed d routes (take (i - 1) plan) (entry [] plan i) t) ≡ true → ⊥
      clash i low high t k n =
          let back : i ≡ (i - 1) + 1 = omega arith in
          let placed = number_right (i - 1) t ∙ right t k (i - 1) (omega arith) in
          true≢false (sym n ∙ ap (λ j. not (is_placed d routes (take (j - 1) plan) (entry [] plan j) t)) back ∙ ap not placed)

      go : (p : PlanPlace) → (i : ℕ) × In i (one_to (length plan)) × In p (map (place.Train i) (misplaced_in d routes plan i)) → ⊥
      go p (i, m, n) = at (in_map_back (place.Train i) (misplaced_in d routes plan i) p n)
        where
          at : (t : TrainNo) × In t (misplaced_in d routes plan i) × (place.Train i t ≡ p) → ⊥
          at (t, k, e) =
              let l = in_filter_back (λ u. not (is_placed d routes (take (i - 1) plan) (entry [] plan i) u)) (trains d) t k in
              let range = in_one_to_back (length plan) i m in
              clash i range.0 range.1 t (in_trains_back d t l.0) l.1

  module _ (named : names_only d routes plan ≡ true) where
    step_named : (i : ℕ) → i < length plan → list_all (is_of d routes) (get_or plan i []) ≡ true
    step_named i h = list_all_from (is_of d routes) (get_or plan i []) (λ c m. list_all_at (is_of d routes) (commands plan) c named (in_flat_map (λ s. s) plan (get_or plan i []) c (in_at plan i [] h) m))

    steps_of_none : placed_badly d routes plan ≡ [] → (list_all one_each plan ≡ true) × (list_all (λ t. is_path (train_of d t) (path_routes routes plan t)) (trains d) ≡ true)
    steps_of_none none = (
      list_all_from one_each plan (λ step m. one step (contains_of_in plan step m)),
      list_all_from (λ t. is_path (train_of d t) (path_routes routes plan t)) (trains d) (λ t m. path_of_right t (right_of_none none t (in_trains_back d t m))),
    )
      where
        one : (step : List Command) → Contains plan step → one_each step ≡ true
        one step (i, h, e) = subst (λ s. one_each s ≡ true) e (subst (λ s. one_each s ≡ true) (get_or_default plan i [] step h) (one_from_few d routes (get_or plan i []) (step_named i h) (λ t k. few_of_right t (right_of_none none t k) i h)))

    none_of_steps : list_all one_each plan ≡ true → list_all (λ t. is_path (train_of d t) (path_routes routes plan t)) (trains d) ≡ true → placed_badly d routes plan ≡ []
    none_of_steps one paths = none_of_right (λ t k i h. right_of_path t (list_all_at (λ t. is_path (train_of d t) (path_routes routes plan t)) (trains d) t paths (in_trains d t k)) i h
        (few_given t (get_or plan i []) (list_all_at one_each plan (get_or plan i []) one (in_at plan i [] h))))

    -- a plan is well formed exactly where there is no such place
    pub formed_where_none : (n : ℕ) → (is_well_formed d routes n plan ≡ true) ↔ (misplaced d routes n plan ≡ [])
    formed_where_none n = (λ h. from h, λ h. to (nat_le (length plan) n) refl h)
      where
        from : is_well_formed d routes n plan ≡ true → misplaced d routes n plan ≡ []
        from h =
            let prefix = and_left (nat_le (length plan) n && list_all one_each plan) (list_all (λ t. is_path (train_of d t) (path_routes routes plan t)) (trains d)) h in
            let short = and_left (nat_le (length plan) n) (list_all one_each plan) prefix in
            ap (λ b. (if b then [] else place.Step (n + 1) ∷ []) ++ placed_badly d routes plan) short
            ∙ none_of_steps (and_right (nat_le (length plan) n) (list_all one_each plan) prefix) (and_right (nat_le (length plan) n && list_all one_each plan) (list_all (λ t. is_path (train_of d t) (path_routes routes plan t)) (trains d)) h)

        to : (b : Bool) → nat_le (length plan) n ≡ b → (if b then [] else place.Step (n + 1) ∷ []) ++ placed_badly d routes plan ≡ [] → is_well_formed d routes n plan ≡ true
        to true e h =
            let l = steps_of_none h in
            and_both (nat_le (length plan) n && list_all one_each plan) (list_all (λ t. is_path (train_of d t) (path_routes routes plan t)) (trains d)) (and_both (nat_le (length plan) n) (list_all one_each plan) e l.0) l.1
        to false e h = cc

pub paths_of_formed : (d : Station) (routes : List Route) (plan : List (List Command)) (n : ℕ) → is_well_formed d routes n plan ≡ true → list_all (λ t. is_path (train_of d t) (path_routes routes plan t)) (trains d) ≡ true
paths_of_formed d routes plan n h = and_right (nat_le (length plan) n && list_all one_each plan) (list_all (λ t. is_path (train_of d t) (path_routes routes plan t)) (trains d)) h

-- and gives no train two routes in a step
pub one_each_of : (d : Station) (routes : List Route) (plan : List (List Command)) (n : ℕ) → is_well_formed d routes n plan ≡ true → list_all one_each plan ≡ true
one_each_of d routes plan n h = and_right (nat_le (length plan) n) (list_all one_each plan) (and_left (nat_le (length plan) n && list_all one_each plan) (list_all (λ t. is_path (train_of d t) (path_routes routes plan t)) (trains d)) h)
