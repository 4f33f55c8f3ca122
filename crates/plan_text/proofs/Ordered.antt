-- A plan with the trains of each step in file order gives each train the same as the plan.
use Rattle.std.proofs.Common.{◌≡◌, ℕ, zero, suc, ◌+◌, ◌-◌, ◌≤◌, ◌<◌, inl, inr, Bool, true, false, not, cond, ◌&&◌, ◌||◌, ◌==◌, nat_le, nat_lt, if◌then◌else◌, List, [], ◌∷◌, ◌++◌, map, filter, flat_map, length, take, sum_by, refl, sym, ap, ap₂, subst, ◌∙◌, arith, eqb-true, eq-eqb, true≢false}
use Rattle.std.specs.List.{list_any, list_all}
use Rattle.std.proofs.lemmas.List.{append-nil, length-map}
use Rattle.rail_base.specs.declared.station.Station.{Station}
use Rattle.rail_base.specs.declared.station.TrainNo.{TrainNo}
use Rattle.rail_base.specs.declared.route.Route.{Route}
use Rattle.rail_base.specs.declared.plan.Command.{Command}
use Rattle.rail_base.specs.Members.{In}
use Rattle.rail_base.specs.Numbering.{count_from, one_to, entry}
use Rattle.rail_base.specs.Stations.{IsTrain, train_of, train_length, trains}
use Rattle.rail_base.proofs.Members.{and_left, false_unless, filter-append, list_all_at}
use Rattle.rail_base.proofs.Lists.{in_filter_back, in_flat_map, in_flat_map_back, in_map_back, list_all_from}
use Rattle.rail_spec.specs.Plans.{is_train, is_command, commands, routes_given, path, step_of, given_between, may_stand, is_executable, route_at, length_mm, release_offset, exits, share, own_shared}
use Rattle.rail_spec.specs.Feasible.{is_of, names_only}
use Rattle.rail_plan.specs.WellFormed.{is_placed, may_go_on, misplaced, misplaced_in, placed_badly}
use Rattle.rail_plan.specs.declared.place.PlanPlace.TheVariants as place
use Rattle.rail_plan.proofs.Blocked.{kept_same, joined_same}
use Rattle.rail_plan.proofs.Empties.{in_trains_back}
use Rattle.rail_plan.proofs.Named.{its_train}
use Rattle.plan_text.specs.Text.{in_file_order}

-- ---- one step

-- commands that pass the test are the train's
abbrev OfTrain : TrainNo → (Command → Bool) → Type 0
OfTrain t test = (c : Command) → test c ≡ true → c.train.0 ≡ t.0

pub none_kept : {X : Type 0} (test : X → Bool) (cs : List X) → ((c : X) → In c cs → test c ≡ false) → filter test cs ≡ []
none_kept test [] none = refl
none_kept test (c ∷ cs) none = ap (λ b. cond b (c ∷ filter test cs) (filter test cs)) (none c (inl refl)) ∙ none_kept test cs (λ e m. none e (inr m))

module _ (t : TrainNo) (test : Command → Bool) (of_train : OfTrain t test) (step : List Command) where
  abbrev given : ℕ → List Command
  given n = filter (λ c. is_train c.train (record { 0 = n })) step

  -- the other trains' commands don't pass
  others : (n : ℕ) → (n ≡ t.0 → ⊥) → filter test (given n) ≡ []
  others n other = none_kept test (given n) (λ c m. let l = in_filter_back (λ (c : Command). is_train c.train (record { 0 = n })) step c m in
      false_unless (test c) (λ e. other (sym (eqb-true c.train.0 n l.1) ∙ of_train c e)))

  -- all that pass are the train's
  kept : (cs : List Command) → filter test (filter (λ c. is_train c.train t) cs) ≡ filter test cs
  kept [] = refl
  kept (c ∷ cs) = go (is_train c.train t) refl (kept cs)
    where
      go : (b : Bool) → is_train c.train t ≡ b → filter test (filter (λ c. is_train c.train t) cs) ≡ filter test cs → filter test (cond b (c ∷ filter (λ c. is_train c.train t) cs) (filter (λ c. is_train c.train t) cs)) ≡ filter test (c ∷ cs)
      go true e later = ap (λ ds. cond (test c) (c ∷ ds) ds) later
      go false e later =
          let fails : test c ≡ false = false_unless (test c) (λ h. true≢false (sym (eq-eqb c.train.0 t.0 (of_train c h)) ∙ e)) in
          later ∙ sym (ap (λ b. cond b (c ∷ filter test cs) (filter test cs)) fails)

  abbrev in_order : List ℕ → List Command
  in_order ns = flat_map (λ u. filter (λ c. is_train c.train u) step) (map (λ n. record { 0 = n }) ns)

  none_from : (a n : ℕ) → t.0 < a → filter test (in_order (count_from a n)) ≡ []
  none_from a zero h = refl
  none_from a (suc n) h =
      filter-append test (given a) (in_order (count_from (a + 1) n))
      ∙ ap₂ (λ xs ys. xs ++ ys) (others a (λ e. omega arith)) (none_from (a + 1) n (omega arith))

  all_from : (a n : ℕ) → a ≤ t.0 → t.0 < a + n → filter test (in_order (count_from a n)) ≡ filter test step
  all_from a zero low high = absurd (omega arith)
  all_from a (suc n) low high = filter-append test (given a) (in_order (count_from (a + 1) n)) ∙ go (a == t.0) refl (λ (other : a ≡ t.0 → ⊥). all_from (a + 1) n (omega arith) (omega arith))
    where
      go : (b : Bool) → (a == t.0) ≡ b → ((a ≡ t.0 → ⊥) → filter test (in_order (count_from (a + 1) n)) ≡ filter test step) → filter test (given a) ++ filter test (in_order (count_from (a + 1) n)) ≡ filter test step
      go true e later =
          let same : a ≡ t.0 = eqb-true a t.0 e in
          ap₂ (λ xs ys. xs ++ ys) (ap (λ m. filter test (given m)) same ∙ kept step) (none_from (a + 1) n (omega arith)) ∙ append-nil (filter test step)
      go false e later =
          let other : a ≡ t.0 → ⊥ = λ same. true≢false (sym (eq-eqb a t.0 same) ∙ e) in
          ap (λ xs. xs ++ filter test (in_order (count_from (a + 1) n))) (others a other) ∙ later other

module _ (d : Station) where
  -- what passes a test of one train's commands stays as it stands
  pub own : (t : TrainNo) → IsTrain d t → (test : Command → Bool) → OfTrain t test → (step : List Command) → filter test (in_file_order d step) ≡ filter test step
  own t k test of_train step = let low = k.0 in let high = k.1 in all_from t test of_train step 1 (length d.trains) low (omega arith)

  pub in_step : (step : List Command) (c : Command) → In c (in_file_order d step) → In c step
  in_step step c m = let f = in_flat_map_back (λ (t : TrainNo). filter (λ c. is_train c.train t) step) (trains d) c m in (in_filter_back (λ (c : Command). is_train c.train f.0) step c f.2).0

  -- ---- the plan

  abbrev pub ordered : List (List Command) → List (List Command)
  ordered plan = map (in_file_order d) plan

  pub in_plan : (plan : List (List Command)) (c : Command) → In c (commands (ordered plan)) → In c (commands plan)
  in_plan plan c m =
      let f = in_flat_map_back (λ (s : List Command). s) (ordered plan) c m in
      let g = in_map_back (in_file_order d) plan f.0 f.1 in
      in_flat_map (λ (s : List Command). s) plan g.0 c g.1 (in_step g.0 c (subst (In c) (sym g.2) f.2))

  pub own_commands : (t : TrainNo) → IsTrain d t → (test : Command → Bool) → OfTrain t test → (plan : List (List Command)) → filter test (commands (ordered plan)) ≡ filter test (commands plan)
  own_commands t k test of_train [] = refl
  own_commands t k test of_train (s ∷ ss) =
      filter-append test (in_file_order d s) (commands (ordered ss))
      ∙ ap₂ (λ xs ys. xs ++ ys) (own t k test of_train s) (own_commands t k test of_train ss)
      ∙ sym (filter-append test s (commands ss))

  same_train : (t : TrainNo) (c : Command) → is_train c.train t ≡ true → c.train.0 ≡ t.0
  same_train t c e = eqb-true c.train.0 t.0 e

  own_routes : (t : TrainNo) → IsTrain d t → (step : List Command) → routes_given t (in_file_order d step) ≡ routes_given t step
  own_routes t k step = ap (map (λ (c : Command). c.route)) (own t k (λ c. is_train c.train t) (same_train t) step)

  own_path : (t : TrainNo) → IsTrain d t → (plan : List (List Command)) → path (ordered plan) t ≡ path plan t
  own_path t k [] = refl
  own_path t k (s ∷ ss) = ap₂ (λ xs ys. xs ++ ys) (own_routes t k s) (own_path t k ss)

  -- ---- well formed

  prefix : (n : ℕ) (plan : List (List Command)) → take n (ordered plan) ≡ ordered (take n plan)
  prefix zero plan = refl
  prefix (suc n) [] = refl
  prefix (suc n) (s ∷ ss) = ap (λ zs. in_file_order d s ∷ zs) (prefix n ss)

  entry_routes : (t : TrainNo) → IsTrain d t → (plan : List (List Command)) (i : ℕ) → routes_given t (entry [] (ordered plan) i) ≡ routes_given t (entry [] plan i)
  entry_routes t k plan zero = refl
  entry_routes t k [] (suc i) = refl
  entry_routes t k (s ∷ ss) (suc zero) = own_routes t k s
  entry_routes t k (s ∷ ss) (suc (suc i)) = entry_routes t k ss (suc i)

  module _ (routes : List Route) where
    same_place : (plan : List (List Command)) (i : ℕ) (t : TrainNo) → IsTrain d t → is_placed d routes (take (i - 1) (ordered plan)) (entry [] (ordered plan) i) t ≡ is_placed d routes (take (i - 1) plan) (entry [] plan i) t
    same_place plan i t k =
        ap₂ (λ ps rs. may_go_on (train_of d t) (map (route_at routes) ps) (map (route_at routes) rs)) (ap (λ p. path p t) (prefix (i - 1) plan) ∙ own_path t k (take (i - 1) plan)) (entry_routes t k plan i)

    pub same_misplaced : (n : ℕ) (plan : List (List Command)) → misplaced d routes n (ordered plan) ≡ misplaced d routes n plan
    same_misplaced n plan =
        ap₂ (λ a b. a ++ b) (ap (λ k. if nat_le k n then [] else place.Step (n + 1) ∷ []) long) badly
      where
        long : length (ordered plan) ≡ length plan
        long = length-map plan (in_file_order d)

        badly : placed_badly d routes (ordered plan) ≡ placed_badly d routes plan
        badly =
            joined_same (λ i. map (place.Train i) (misplaced_in d routes (ordered plan) i)) (λ i. map (place.Train i) (misplaced_in d routes plan i)) (one_to (length (ordered plan)))
            (λ i m. ap (map (place.Train i)) (kept_same (λ t. not (is_placed d routes (take (i - 1) (ordered plan)) (entry [] (ordered plan) i) t)) (λ t. not (is_placed d routes (take (i - 1) plan) (entry [] plan i) t)) (trains d) (λ t k. ap not (same_place plan i t (in_trains_back d t k)))))
            ∙ ap (λ k. flat_map (λ i. map (place.Train i) (misplaced_in d routes plan i)) (one_to k)) long

    -- ---- executable

    any_kept : (test : Command → Bool) (cs : List Command) → list_any test cs ≡ list_any (λ c. true) (filter test cs)
    any_kept test [] = refl
    any_kept test (c ∷ cs) = go (test c) (any_kept test cs)
      where
        go : (b : Bool) → list_any test cs ≡ list_any (λ (c : Command). true) (filter test cs) → (b || list_any test cs) ≡ list_any (λ (c : Command). true) (cond b (c ∷ filter test cs) (filter test cs))
        go true e = refl
        go false e = e

    stands : (c : Command) → IsTrain d c.train → (step : List Command) → list_any (is_command c) (in_file_order d step) ≡ list_any (is_command c) step
    stands c k step =
        any_kept (is_command c) (in_file_order d step)
        ∙ ap (list_any (λ (c : Command). true)) (own c.train k (is_command c) (λ e h. sym (eqb-true c.train.0 e.train.0 (and_left (is_train c.train e.train) _ h))) step)
        ∙ sym (any_kept (is_command c) step)

    same_step : (c : Command) → IsTrain d c.train → (plan : List (List Command)) → step_of (ordered plan) c ≡ step_of plan c
    same_step c k [] = refl
    same_step c k (s ∷ ss) = ap₂ (λ b n. if b then 1 else n + 1) (stands c k s) (same_step c k ss)

    module _ (plan : List (List Command)) (named : names_only d routes plan ≡ true) where
      pub train_there : (c : Command) → In c (commands plan) → IsTrain d c.train
      train_there c m = its_train d routes c (list_all_at (is_of d routes) (commands plan) c named m)

      pub ordered_named : names_only d routes (ordered plan) ≡ true
      ordered_named = list_all_from (is_of d routes) (commands (ordered plan)) (λ c m. list_all_at (is_of d routes) (commands plan) c named (in_plan plan c m))

      module _ (e c : Command) (m : In e (commands plan)) (n : In c (commands plan)) where
        abbrev between : List (List Command) → Command → Bool
        between p g = is_train g.train e.train && nat_le (step_of p e) (step_of p g) && nat_lt (step_of p g) (step_of p c)

        same_between : (g : Command) → In g (commands plan) → between (ordered plan) g ≡ between plan g
        same_between g l =
            ap₂ (λ a b. is_train g.train e.train && nat_le a b && nat_lt b (step_of (ordered plan) c)) (same_step e (train_there e m) plan) (same_step g (train_there g l) plan)
            ∙ ap (λ a. is_train g.train e.train && nat_le (step_of plan e) (step_of plan g) && nat_lt (step_of plan g) a) (same_step c (train_there c n) plan)

        same_given : given_between (ordered plan) e c ≡ given_between plan e c
        same_given =
            own_commands e.train (train_there e m) (between (ordered plan)) (λ g h. eqb-true g.train.0 e.train.0 (and_left (is_train g.train e.train) _ (and_left _ (nat_lt (step_of (ordered plan) g) (step_of (ordered plan) c)) h))) plan
            ∙ kept_same (between (ordered plan)) (between plan) (commands plan) same_between

        abbrev stand : ℕ → ℕ → List Command → Bool
        stand a b given =
            is_train e.train c.train || not (share (route_at routes e.route) (route_at routes c.route)) || nat_lt b a
            || (nat_lt a b && list_all (λ z. nat_le (release_offset (route_at routes e.route) z + train_length d e.train) (sum_by length_mm (map (λ g. route_at routes g.route) given)) || list_any exits (map (λ g. route_at routes g.route) given)) (own_shared (route_at routes e.route) (route_at routes c.route)))

        same_stand : may_stand d routes (ordered plan) e c ≡ may_stand d routes plan e c
        same_stand =
            ap₂ (λ a b. stand a b (given_between (ordered plan) e c)) (same_step e (train_there e m) plan) (same_step c (train_there c n) plan)
            ∙ ap (stand (step_of plan e) (step_of plan c)) same_given

      pub ordered_executable : is_executable d routes plan ≡ true → is_executable d routes (ordered plan) ≡ true
      ordered_executable h =
          list_all_from (λ e. list_all (may_stand d routes (ordered plan) e) (commands (ordered plan))) (commands (ordered plan))
          (λ e m. list_all_from (may_stand d routes (ordered plan) e) (commands (ordered plan))
          (λ c n. let k = in_plan plan e m in let l = in_plan plan c n in
          same_stand e c k l ∙ list_all_at (may_stand d routes plan e) (commands plan) c (list_all_at (λ e. list_all (may_stand d routes plan e) (commands plan)) (commands plan) e h k) l))
