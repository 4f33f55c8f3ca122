-- Where trains come in turn, each command of the later one has a beginning of the earlier one by its step.
use Rattle.std.proofs.Common.{◌≡◌, ℕ, suc, ◌+◌, ◌≤◌, ◌⊎◌, inl, inr, Bool, true, false, cond, not, ◌&&◌, ◌||◌, if◌then◌else◌, nat_le, List, [], ◌∷◌, ◌++◌, map, filter, length, refl, sym, ap, subst, ◌∙◌, arith, leb-true, eqb-true, eq-eqb, true≢false}
use Rattle.std.specs.List.{list_any, list_all}
use Rattle.rail_base.specs.declared.station.Station.{Station}
use Rattle.rail_base.specs.declared.station.TrainNo.{TrainNo}
use Rattle.rail_base.specs.declared.route.Route.{Route}
use Rattle.rail_base.specs.declared.route.RouteNo.{RouteNo}
use Rattle.rail_base.specs.declared.plan.Command.{Command}
use Rattle.rail_base.specs.Members.{In, all_pairs, all_neighbors}
use Rattle.rail_base.specs.Stations.{train_of, trains, first_visit, IsTrain}
use Rattle.rail_spec.specs.Plans.{route_at, commands, path, path_routes, routes_given, step_of, has_command, is_train, is_route, is_command, is_path, begins_in, starts_in, goes_on, is_start, end_at_one_signal, one_each}
use Rattle.rail_spec.specs.Feasible.{IsWellFormed}
use Rattle.rail_spec.specs.Feasible as feasible
use Rattle.rail_base.proofs.Members.{and_left, and_right, and_both, list_all_at, list_any_gives, list_any_from}
use Rattle.rail_base.proofs.Lists.{in_append}
use Rattle.rail_laws.proofs.Standing.{in_path, in_routes_given}
use Rattle.rail_alike.specs.Renaming.{first_step}
use Rattle.rail_alike.specs.Turns.{HasBegunBy}
use Rattle.rail_alike.proofs.Equivariant.{same_train}
use Rattle.rail_alike.proofs.Feasibility.{in_trains}

abbrev is_of_train : TrainNo → Command → Bool
is_of_train t c = is_train c.train t

-- a train's first step is no later than that of any command of it
first_is_first : (plan : List (List Command)) (c : Command) → first_step plan c.train ≤ step_of plan c
first_is_first [] c = omega arith
first_is_first (s ∷ ss) c = go (list_any (is_command c) s) refl (list_any (is_of_train c.train) s) refl (first_is_first ss c)
  where
    go : (a : Bool) → list_any (is_command c) s ≡ a → (b : Bool) → list_any (is_of_train c.train) s ≡ b → first_step ss c.train ≤ step_of ss c
        → (if b then 1 else first_step ss c.train + 1) ≤ (if a then 1 else step_of ss c + 1)
    go true x true y l = omega arith
    go false x true y l = omega arith
    go false x false y l = omega arith
    go true x false y l = at (list_any_gives (is_command c) s x)
      where
        at : ((e : Command) × In e s × (is_command c e ≡ true)) → (if false then 1 else first_step ss c.train + 1) ≤ 1
        at (e, m, h) =
            let same : c.train ≡ e.train = same_train c.train e.train (eqb-true c.train.0 e.train.0 (and_left (is_train c.train e.train) (is_route c.route e.route) h)) in
            absurd (true≢false (sym (list_any_from (is_of_train c.train) s e m (eq-eqb e.train.0 c.train.0 (ap (λ (t : TrainNo). t.0) (sym same)))) ∙ y))

-- a command of the plan stands in one of its steps
step_within : (plan : List (List Command)) (c e : Command) → In e (commands plan) → is_command c e ≡ true → step_of plan c ≤ length plan
step_within [] c e m h = absurd m
step_within (s ∷ ss) c e m h = go (in_append e s (commands ss) m) (list_any (is_command c) s) refl (λ k. step_within ss c e k h)
  where
    go : In e s ⊎ In e (commands ss) → (b : Bool) → list_any (is_command c) s ≡ b → (In e (commands ss) → step_of ss c ≤ length ss) → (if b then 1 else step_of ss c + 1) ≤ suc (length ss)
    go k true x later = omega arith
    go (inr k) false x later = let l = later k in omega arith
    go (inl k) false x later = absurd (true≢false (sym (list_any_from (is_command c) s e k h) ∙ x))

-- the first route that a step gives to a train
pub record FirstOf (t : TrainNo) (rs : List RouteNo) : Type 0 where
  pub route : RouteNo
  pub rest : List RouteNo
  pub whole : rs ≡ route ∷ rest

given_some : (t : TrainNo) (s : List Command) → list_any (is_of_train t) s ≡ true → FirstOf t (routes_given t s)
given_some t [] h = absurd (true≢false (sym h))
given_some t (c ∷ cs) h = go (is_train c.train t) h (given_some t cs)
  where
    go : (b : Bool) → (b || list_any (is_of_train t) cs) ≡ true → (list_any (is_of_train t) cs ≡ true → FirstOf t (routes_given t cs))
        → FirstOf t (map (λ e. e.route) (cond b (c ∷ filter (λ e. is_train e.train t) cs) (filter (λ e. is_train e.train t) cs)))
    go true k later = record { route = c.route; rest = routes_given t cs; whole = refl }
    go false k later = later k

given_none : (t : TrainNo) (s : List Command) → list_any (is_of_train t) s ≡ false → routes_given t s ≡ []
given_none t [] h = refl
given_none t (c ∷ cs) h = go (is_train c.train t) h (given_none t cs)
  where
    go : (b : Bool) → (b || list_any (is_of_train t) cs) ≡ false → (list_any (is_of_train t) cs ≡ false → routes_given t cs ≡ [])
        → map (λ e. e.route) (cond b (c ∷ filter (λ e. is_train e.train t) cs) (filter (λ e. is_train e.train t) cs)) ≡ []
    go true k later = absurd (true≢false k)
    go false k later = later k

-- the first command of a train stands in its first step
pub record Begun (plan : List (List Command)) (t : TrainNo) : Type 0 where
  pub route : RouteNo
  pub rest : List RouteNo
  pub whole : path plan t ≡ route ∷ rest
  pub by : step_of plan (record { train = t; route = route }) ≤ first_step plan t

command_same : (c : Command) → is_command c c ≡ true
command_same c = and_both _ _ (eq-eqb c.train.0 c.train.0 refl) (eq-eqb c.route.0 c.route.0 refl)

in_given : (t : TrainNo) (s : List Command) (r : RouteNo) (rest : List RouteNo) → routes_given t s ≡ r ∷ rest → list_any (is_command (record { train = t; route = r })) s ≡ true
in_given t s r rest e = list_any_from (is_command (record { train = t; route = r })) s (record { train = t; route = r }) (in_routes_given t s r (subst (In r) (sym e) (inl refl))) (command_same (record { train = t; route = r }))

begun : (plan : List (List Command)) (t : TrainNo) → first_step plan t ≤ length plan → Begun plan t
begun [] t l = absurd (omega arith)
begun (s ∷ ss) t l = go (list_any (is_of_train t) s) refl l (begun ss t)
  where
    go : (b : Bool) → list_any (is_of_train t) s ≡ b → (if b then 1 else first_step ss t + 1) ≤ suc (length ss) → (first_step ss t ≤ length ss → Begun ss t) → Begun (s ∷ ss) t
    go true x k later =
        let f = given_some t s x in
        record {
          route = f.route;
          rest = f.rest ++ path ss t;
          whole = ap (λ rs. rs ++ path ss t) f.whole;
          by = subst (λ b. (if b then 1 else step_of ss (record { train = t; route = f.route }) + 1) ≤ first_step (s ∷ ss) t) (sym (in_given t s f.route f.rest f.whole))
              (subst (λ b. 1 ≤ (if b then 1 else first_step ss t + 1)) (sym x) (omega arith));
        }
    go false x k later =
        let f = later (omega arith) in
        record {
          route = f.route;
          rest = f.rest;
          whole = ap (λ rs. rs ++ path ss t) (given_none t s x) ∙ f.whole;
          by = subst (λ b. step_of (s ∷ ss) (record { train = t; route = f.route }) ≤ (if b then 1 else first_step ss t + 1)) (sym x) (at (list_any (is_command (record { train = t; route = f.route })) s) f.by);
        }
      where
        at : {n m : ℕ} (b : Bool) → n ≤ m → (if b then 1 else n + 1) ≤ m + 1
        at true h = omega arith
        at false h = omega arith

module _ (d : Station) (routes : List Route) (n : ℕ) (plan : List (List Command)) (formed : IsWellFormed d routes n plan) where
  path_formed : (t : TrainNo) → IsTrain d t → is_path (train_of d t) (path_routes routes plan t) ≡ true
  path_formed t h = list_all_at (λ u. is_path (train_of d u) (path_routes routes plan u)) (trains d) t (and_right (nat_le (length plan) n && list_all one_each plan) _ formed.formed) (in_trains d t h)

  first_starts : (t : TrainNo) (r : RouteNo) (rest : List RouteNo) → IsTrain d t → path plan t ≡ r ∷ rest → starts_in (first_visit (train_of d t)) (route_at routes r).start ≡ true
  first_starts t r rest h e =
      let f : is_path (train_of d t) (map (route_at routes) (r ∷ rest)) ≡ true = subst (λ ps. is_path (train_of d t) (map (route_at routes) ps) ≡ true) e (path_formed t h) in
      let rs : List Route = map (route_at routes) (r ∷ rest) in
      and_left (begins_in (first_visit (train_of d t)) rs) (all_neighbors (λ r q. goes_on r.finish q.start) rs)
      (and_left _ (all_pairs (λ r q. not (is_start r.start q.start)) rs) (and_left _ (all_pairs (λ r q. not (end_at_one_signal r.finish q.finish)) rs) f))

  pub has_begun : (t : TrainNo) (c : Command) → IsTrain d t → first_step plan t ≤ first_step plan c.train → has_command plan c ≡ true → HasBegunBy d routes plan t c
  has_begun t c h l given =
      let e = list_any_gives (is_command c) (commands plan) given in
      let within = step_within plan c e.0 e.1 e.2 in
      let first = first_is_first plan c in
      let b = begun plan t (omega arith) in
      let by = b.by in
      let mine : Command = record { train = t; route = b.route } in
      let there : In mine (commands plan) = in_path t plan b.route (subst (In b.route) (sym b.whole) (inl refl)) in
      let named = list_all_at (feasible.is_of d routes) (commands plan) mine formed.named there in
      record {
        route = b.route;
        there = (
          leb-true 1 b.route.0 (and_right (nat_le 1 t.0 && nat_le t.0 (length d.trains)) (nat_le 1 b.route.0) (and_left (nat_le 1 t.0 && nat_le t.0 (length d.trains) && nat_le 1 b.route.0) (nat_le b.route.0 (length routes)) named)),
          leb-true b.route.0 (length routes) (and_right (nat_le 1 t.0 && nat_le t.0 (length d.trains) && nat_le 1 b.route.0) (nat_le b.route.0 (length routes)) named),
        );
        starts = first_starts t b.route b.rest h b.whole;
        given = list_any_from (is_command mine) (commands plan) mine there (command_same mine);
        no_later = omega arith;
      }
