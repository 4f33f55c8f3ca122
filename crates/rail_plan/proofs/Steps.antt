-- In which step a command of a well-formed plan stands.
use Rattle.std.proofs.Common.{◌≡◌, suc, ◌+◌, ◌≤◌, ◌<◌, inl, inr, Bool, true, false, not, ◌&&◌, if◌then◌else◌, List, [], ◌∷◌, ◌++◌, map, length, refl, sym, ap, subst, ◌∙◌, arith, eq-eqb, true≢false}
use Rattle.std.specs.List.{list_any, list_all}
use Rattle.std.proofs.lemmas.List.{append_assoc, map-append, length-append}
use Rattle.std.proofs.lemmas.List.Concat.{flat_map-append}
use Rattle.rail_base.specs.declared.station.Station.{Station}
use Rattle.rail_base.specs.declared.station.TrainNo.{TrainNo}
use Rattle.rail_base.specs.declared.route.Route.{Route}
use Rattle.rail_base.specs.declared.route.Start.{Start}
use Rattle.rail_base.specs.declared.route.Start.TheVariants as start
use Rattle.rail_base.specs.declared.plan.Command.{Command}
use Rattle.rail_base.specs.Members.{In, all_pairs, all_neighbors}
use Rattle.rail_base.specs.Stations.{trains, train_of, first_visit, IsTrain}
use Rattle.rail_spec.specs.Plans.{is_train, is_route, is_command, is_start, is_path, goes_on, end_at_one_signal, begins_in, commands, route_at, routes_given, path, path_routes, step_of}
use Rattle.rail_spec.specs.Feasible.{is_of, names_only}
use Rattle.rail_base.proofs.Members.{and_left, and_right, and_both, list_all_at, list_any_from, list_any_gives, false_unless}
use Rattle.rail_base.proofs.Lists.{in_append_right, in_map, in_flat_map, in_flat_map_back}
use Rattle.rail_laws.proofs.Given.{same_train, same_route, command_in_path}
use Rattle.rail_plan.proofs.Named.{its_train}
use Rattle.rail_plan.proofs.Empties.{in_trains}

-- a list about one of its members
pub split_at : {X : Type 0} (xs : List X) (x : X) → In x xs → (prefix : List X) × (back : List X) × (xs ≡ prefix ++ x ∷ back)
split_at [] x m = absurd m
split_at (y ∷ ys) x (inl e) = ([], ys, ap (λ z. z ∷ ys) e)
split_at (y ∷ ys) x (inr m) = let l = split_at ys x m in (y ∷ l.0, l.1, ap (λ zs. y ∷ zs) l.2)

pub all_pairs_across : {X : Type 0} (test : X → X → Bool) (xs ys : List X) (x y : X) → all_pairs test (xs ++ ys) ≡ true → In x xs → In y ys → test x y ≡ true
all_pairs_across test [] ys x y h m n = absurd m
all_pairs_across test (z ∷ zs) ys x y h (inl e) n = subst (λ w. test w y ≡ true) e (list_all_at (test z) (zs ++ ys) y (and_left (list_all (test z) (zs ++ ys)) (all_pairs test (zs ++ ys)) h) (in_append_right y zs ys n))
all_pairs_across test (z ∷ zs) ys x y h (inr m) n = all_pairs_across test zs ys x y (and_right (list_all (test z) (zs ++ ys)) (all_pairs test (zs ++ ys)) h) m n

starts_itself : (s : Start) → is_start s s ≡ true
starts_itself (start.Boundary n) = eq-eqb n.0 n.0 refl
starts_itself (start.Signal s) = eq-eqb s.0 s.0 refl

is_itself : (c : Command) → is_command c c ≡ true
is_itself c = and_both (is_train c.train c.train) (is_route c.route c.route) (eq-eqb c.train.0 c.train.0 refl) (eq-eqb c.route.0 c.route.0 refl)

-- the first step that has the command
step_at : (xs : List (List Command)) (s : List Command) (ys : List (List Command)) (e : Command) → ((x : List Command) → In x xs → list_any (is_command e) x ≡ false) → In e s → step_of (xs ++ s ∷ ys) e ≡ length xs + 1
step_at [] s ys e none m = ap (λ b. if b then 1 else step_of ys e + 1) (list_any_from (is_command e) s e m (is_itself e))
step_at (x ∷ xs) s ys e none m =
    let later = step_at xs s ys e (λ y k. none y (inr k)) m in
    ap (λ b. if b then 1 else step_of (xs ++ s ∷ ys) e + 1) (none x (inl refl)) ∙ omega arith

module _ (d : Station) (routes : List Route) (plan : List (List Command)) (named : names_only d routes plan ≡ true) (paths : list_all (λ t. is_path (train_of d t) (path_routes routes plan t)) (trains d) ≡ true) where
  starts_differ : (t : TrainNo) → IsTrain d t → all_pairs (λ (r q : Route). not (is_start r.start q.start)) (path_routes routes plan t) ≡ true
  starts_differ t k =
      let rs = path_routes routes plan t in
      let whole = list_all_at (λ t. is_path (train_of d t) (path_routes routes plan t)) (trains d) t paths (in_trains d t k) in
      let begins = begins_in (first_visit (train_of d t)) rs && all_neighbors (λ (r q : Route). goes_on r.finish q.start) rs in
      let starts = all_pairs (λ (r q : Route). not (is_start r.start q.start)) rs in
      and_right begins starts (and_left (begins && starts) (all_pairs (λ (r q : Route). not (end_at_one_signal r.finish q.finish)) rs) whole)

  -- no command stands in an earlier step too
  not_earlier : (xs : List (List Command)) (s : List Command) (ys : List (List Command)) (e : Command) → plan ≡ xs ++ s ∷ ys → In e s → (x : List Command) → In x xs → list_any (is_command e) x ≡ false
  not_earlier xs s ys e split m x k = false_unless (list_any (is_command e) x) (λ h. clash (list_any_gives (is_command e) x h))
    where
      there : In e (commands plan)
      there = subst (λ p. In e (commands p)) (sym split) (in_flat_map (λ s. s) (xs ++ s ∷ ys) s e (in_append_right s xs (s ∷ ys) (inl refl)) m)

      train : IsTrain d e.train
      train = its_train d routes e (list_all_at (is_of d routes) (commands plan) e named there)

      joined : path_routes routes plan e.train ≡ path_routes routes xs e.train ++ path_routes routes (s ∷ ys) e.train
      joined = ap (λ p. path_routes routes p e.train) split ∙ ap (map (route_at routes)) (flat_map-append (routes_given e.train) xs (s ∷ ys)) ∙ map-append (route_at routes) (path xs e.train) (path (s ∷ ys) e.train)

      routes_of : (zs : List (List Command)) (z : List Command) (f : Command) → In z zs → In f z → In (route_at routes f.route) (path_routes routes zs f.train)
      routes_of zs z f j n = in_map (route_at routes) (path zs f.train) f.route (command_in_path zs f (in_flat_map (λ s. s) zs z f j n))

      clash : (f : Command) × In f x × (is_command e f ≡ true) → ⊥
      clash (f, j, same) =
          let one = same_train e.train f.train (and_left (is_train e.train f.train) (is_route e.route f.route) same) in
          let two = same_route e.route f.route (and_right (is_train e.train f.train) (is_route e.route f.route) same) in
          let before = subst (λ q. In (route_at routes q) (path_routes routes xs e.train)) (sym two) (subst (λ u. In (route_at routes f.route) (path_routes routes xs u)) (sym one) (routes_of xs x f k j)) in
          let here = routes_of (s ∷ ys) s e (inl refl) m in
          let r = route_at routes e.route in
          let apart = all_pairs_across (λ (r q : Route). not (is_start r.start q.start)) (path_routes routes xs e.train) (path_routes routes (s ∷ ys) e.train) r r (subst (λ rs. all_pairs (λ (r q : Route). not (is_start r.start q.start)) rs ≡ true) joined (starts_differ e.train train)) before here in
          true≢false (sym apart ∙ ap not (starts_itself r.start))

  pub step_is : (xs : List (List Command)) (s : List Command) (ys : List (List Command)) (e : Command) → plan ≡ xs ++ s ∷ ys → In e s → step_of plan e ≡ length xs + 1
  step_is xs s ys e split m = ap (λ p. step_of p e) split ∙ step_at xs s ys e (not_earlier xs s ys e split m) m

  -- a command of some steps in a row stands in one of them
  pub step_within : (xs ys zs : List (List Command)) (e : Command) → plan ≡ xs ++ (ys ++ zs) → In e (commands ys) → (length xs < step_of plan e) × (step_of plan e ≤ length xs + length ys)
  step_within xs ys zs e split m = go (in_flat_map_back (λ s. s) ys e m)
    where
      go : (s : List Command) × In s ys × In e s → (length xs < step_of plan e) × (step_of plan e ≤ length xs + length ys)
      go (s, k, n) =
          let parts = split_at ys s k in
          let whole : plan ≡ (xs ++ parts.0) ++ s ∷ (parts.1 ++ zs) =
          split ∙ ap (λ p. xs ++ (p ++ zs)) parts.2 ∙ ap (λ p. xs ++ p) (append_assoc parts.0 (s ∷ parts.1) zs) ∙ sym (append_assoc xs parts.0 (s ∷ (parts.1 ++ zs))) in
          let number = step_is (xs ++ parts.0) s (parts.1 ++ zs) e whole n in
          let all : length ys ≡ length parts.0 + suc (length parts.1) = ap length parts.2 ∙ length-append parts.0 (s ∷ parts.1) in
          let prefix = length-append xs parts.0 in
          (omega arith, omega arith)
