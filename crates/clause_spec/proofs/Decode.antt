-- The plan that a model of the base gives is well formed and can be carried out, and its model agrees.
use Rattle.std.proofs.Common.{◌≡◌, ℕ, zero, suc, ◌+◌, ◌-◌, ◌≤◌, ◌⊎◌, inl, inr, Bool, true, false, not, ◌&&◌, List, [], ◌∷◌, ◌++◌, map, flat_map, length, refl, sym, ap, subst, ◌∙◌, arith, true≢false, leb-true, le-leb, nat_le, append-nil}
use Rattle.std.specs.List.{list_all}
use Rattle.rail_base.specs.declared.station.Station.{Station}
use Rattle.rail_base.specs.declared.station.TrainNo.{TrainNo}
use Rattle.rail_base.specs.declared.route.Route.{Route}
use Rattle.rail_base.specs.declared.route.RouteNo.{RouteNo}
use Rattle.rail_base.specs.declared.plan.Command.{Command}
use Rattle.rail_base.specs.Numbering.{one_to}
use Rattle.rail_base.specs.Stations.{trains, train_of, first_visit}
use Rattle.rail_spec.specs.Plans.{route_at, path, path_routes, commands, step_of, routes_given, one_each, is_start, goes_on, end_at_one_signal, begins_in, is_path, is_well_formed, is_executable, all_commands, has_command}
use Rattle.rail_base.specs.Members.{all_pairs, all_neighbors}
use Rattle.rail_spec.specs.Feasible.{is_of, names_only}
use Rattle.rail_base.proofs.Members.{In, and_left, and_right, and_both, false_unless, same_bool}
use Rattle.sat_clause.specs.Clauses.{clause_holds}
use Rattle.clause_spec.specs.Variables.{Variable, Given, Before, pairs, number_of}
use Rattle.clause_spec.specs.Clauses.{exclude, base_clauses}
use Rattle.clause_spec.specs.Models.{is_so, model_of, given_by, with_step, cut_off, decoded}
use Rattle.clause_spec.proofs.Lists.{all_pairs-map, all_neighbors-map, all_pairs_from}
use Rattle.clause_spec.proofs.Steps.{cmd, has_gives, has_from, in_or_not, step_here, step_later, step_low, in_path}
use Rattle.clause_spec.proofs.Places.{IsOf, command_of, IsPair, pair_of}
use Rattle.clause_spec.proofs.Numbers.{model_says}
use Rattle.clause_spec.proofs.Facts.{AllTrue, all_true, given_up_to, one_of, exclude_starts, exclude_ends, before_used, before_earlier, earlier_before}
use Rattle.clause_spec.proofs.Decoded.{New, steps, its_step, in_steps, length-steps, InOrder, in_order, all_one_each}
use Rattle.clause_spec.proofs.Clears.{Told, since, until, by_then, can_run}
use Rattle.rail_base.proofs.Lists.{list_all_from, in_map_back, in_count_back, in_append}

-- ---- empty steps at the end

flat-with : {Y : Type 0} (f : List Command → List Y) (s : List Command) (ss : List (List Command)) → f [] ≡ [] → flat_map f (with_step s ss) ≡ f s ++ flat_map f ss
flat-with f [] [] e = sym e ∙ sym (append-nil (f []))
flat-with f [] (s ∷ ss) e = refl
flat-with f (c ∷ cs) ss e = refl

flat-cut : {Y : Type 0} (f : List Command → List Y) (plan : List (List Command)) → f [] ≡ [] → flat_map f (cut_off plan) ≡ flat_map f plan
flat-cut f [] e = refl
flat-cut f (s ∷ ss) e = flat-with f s (cut_off ss) e ∙ ap (λ rest. f s ++ rest) (flat-cut f ss e)

commands-cut : (plan : List (List Command)) → commands (cut_off plan) ≡ commands plan
commands-cut plan = flat-cut (λ s. s) plan refl

path-cut : (plan : List (List Command)) (t : TrainNo) → path (cut_off plan) t ≡ path plan t
path-cut plan t = flat-cut (routes_given t) plan refl

length-with : (s : List Command) (ss : List (List Command)) → length (with_step s ss) ≤ suc (length ss)
length-with [] [] = omega arith
length-with [] (s ∷ ss) = omega arith
length-with (c ∷ cs) ss = omega arith

length-cut : (plan : List (List Command)) → length (cut_off plan) ≤ length plan
length-cut [] = omega arith
length-cut (s ∷ ss) = let a = length-with s (cut_off ss) in let b = length-cut ss in omega arith

all-with : (test : List Command → Bool) (s : List Command) (ss : List (List Command)) → test s ≡ true → list_all test ss ≡ true → list_all test (with_step s ss) ≡ true
all-with test [] [] h k = refl
all-with test [] (s ∷ ss) h k = and_both (test []) (list_all test (s ∷ ss)) h k
all-with test (c ∷ cs) ss h k = and_both (test (c ∷ cs)) (list_all test ss) h k

all-cut : (test : List Command → Bool) (plan : List (List Command)) → list_all test plan ≡ true → list_all test (cut_off plan) ≡ true
all-cut test [] h = refl
all-cut test (s ∷ ss) h = all-with test s (cut_off ss) (and_left (test s) (list_all test ss) h) (all-cut test ss (and_right (test s) (list_all test ss) h))

step_of-with : (s : List Command) (ss : List (List Command)) (c : Command) → In c (s ++ commands ss) → step_of (with_step s ss) c ≡ step_of (s ∷ ss) c
step_of-with [] [] c m = absurd m
step_of-with [] (s ∷ ss) c m = refl
step_of-with (x ∷ xs) ss c m = refl

step_of-cut : (plan : List (List Command)) (c : Command) → In c (commands plan) → step_of (cut_off plan) c ≡ step_of plan c
step_of-cut [] c m = absurd m
step_of-cut (s ∷ ss) c m = step_of-with s (cut_off ss) c (subst (λ cs. In c (s ++ cs)) (sym (commands-cut ss)) m) ∙ go (in_or_not s c) (in_append c s (commands ss) m) (step_of-cut ss c)
  where
    go : In c s ⊎ (In c s → ⊥) → In c s ⊎ In c (commands ss) → (In c (commands ss) → step_of (cut_off ss) c ≡ step_of ss c) → step_of (s ∷ cut_off ss) c ≡ step_of (s ∷ ss) c
    go (inl here) x rest = step_here s (cut_off ss) c here ∙ sym (step_here s ss c here)
    go (inr out) (inl here) rest = absurd (out here)
    go (inr out) (inr later) rest = step_later s (cut_off ss) c out ∙ (ap (λ k. k + 1) (rest later) ∙ sym (step_later s ss c out))

-- ---- the decoded plan

module _ (d : Station) (routes : List Route) (n : ℕ) (values : ℕ → Bool) (true_base : list_all (clause_holds values) (base_clauses d routes n) ≡ true) where
  abbrev says : Variable → Bool
  says v = values (number_of d routes n v)

  all : AllTrue d routes n (λ v. values (number_of d routes n v))
  all = all_true d routes n values true_base

  abbrev whole : List (List Command)
  whole = steps d routes n (λ v. values (number_of d routes n v)) n

  abbrev plan : List (List Command)
  plan = decoded d routes n values

  in_whole : (c : Command) → In c (commands plan) → In c (commands whole)
  in_whole c m = subst (λ cs. In c cs) (commands-cut whole) m

  told : Told d routes n (λ v. values (number_of d routes n v)) all plan
  told = record {
    low = λ c m. step_low plan c;
    high = λ c m. (let s = its_step d routes n (λ v. values (number_of d routes n v)) n c (in_whole c m) in let e = step_of-cut whole c (in_whole c m) in let h = s.high in omega arith);
    is = λ c m. (let s = its_step d routes n (λ v. values (number_of d routes n v)) n c (in_whole c m) in subst (λ i. New d routes n (λ v. values (number_of d routes n v)) c i) (sym (step_of-cut whole c (in_whole c m))) s.is);
    has = λ c i m l g. subst (λ cs. In c cs) (sym (commands-cut whole)) (in_steps d routes n (λ v. values (number_of d routes n v)) n c m (given_up_to d routes n (λ v. values (number_of d routes n v)) all c i n m l (omega arith) g));
  }

  known : (c : Command) → In c (commands plan) → In c (all_commands d routes)
  known c m = (told.is c m).known

  -- the plan names only trains and routes of the design
  pub decoded_names : names_only d routes (decoded d routes n values) ≡ true
  decoded_names = list_all_from (is_of d routes) (commands plan) (λ c m. one c (command_of d routes c (known c m)))
    where
      one : (c : Command) → IsOf d routes c → is_of d routes c ≡ true
      one c o =
          let number : ℕ → TrainNo = λ t. record { 0 = t } in
          let route : ℕ → RouteNo = λ r. record { 0 = r } in
          let t = in_map_back number (one_to (length d.trains)) c.train o.train in
          let r = in_map_back route (one_to (length routes)) c.route o.route in
          let tn : t.0 ≡ c.train.0 = ap (λ (u : TrainNo). u.0) t.2 in
          let rn : r.0 ≡ c.route.0 = ap (λ (q : RouteNo). q.0) r.2 in
          let tr = in_count_back 1 (length d.trains) t.0 t.1 in
          let rr = in_count_back 1 (length routes) r.0 r.1 in
          let tl = tr.0 in let th = tr.1 in let rl = rr.0 in let rh = rr.1 in
          and_both (nat_le 1 c.train.0 && nat_le c.train.0 (length d.trains) && nat_le 1 c.route.0) _
          (and_both (nat_le 1 c.train.0 && nat_le c.train.0 (length d.trains)) _
          (and_both (nat_le 1 c.train.0) _ (le-leb _ _ (omega arith)) (le-leb _ _ (omega arith)))
          (le-leb _ _ (omega arith)))
          (le-leb _ _ (omega arith))

  says_used : (c : Command) → In c (commands plan) → says (Given c n) ≡ true
  says_used c m = at n (since d routes n says all plan told c n m (told.high c m) (omega arith))
    where
      at : (i : ℕ) → given_by (λ v. values (number_of d routes n v)) c i ≡ true → values (number_of d routes n (Given c i)) ≡ true
      at zero g = absurd (true≢false (sym g))
      at (suc i) g = g

  -- it is well formed
  pub decoded_formed : is_well_formed d routes n (decoded d routes n values) ≡ true
  decoded_formed = and_both (nat_le (length plan) n && list_all one_each plan) _
      (and_both (nat_le (length plan) n) _ (le-leb _ _ (let a = length-cut whole in let b = length-steps d routes n says n in omega arith)) (all-cut one_each whole (all_one_each d routes n says all)))
      (list_all_from (λ t. is_path (train_of d t) (path_routes routes plan t)) (trains d) paths)
    where
      paths : (t : TrainNo) → In t (trains d) → is_path (train_of d t) (path_routes routes plan t) ≡ true
      paths t m = subst (λ rs. is_path (train_of d t) (map (route_at routes) rs) ≡ true) (sym (path-cut whole t)) (go (in_order d routes n says all t m n (omega arith)))
        where
          standing : (r : RouteNo) → In r (path whole t) → In (cmd t r) (commands plan)
          standing r k = in_path plan t r (subst (λ rs. In r rs) (sym (path-cut whole t)) k)

          apart : (r q : RouteNo) → In r (path whole t) → In q (path whole t) → (r ≡ q → ⊥) → exclude (route_at routes r) (route_at routes q) ≡ true → ⊥
          apart r q a b differ x = differ (one_of d routes n says all t r q m (command_of d routes (cmd t r) (known (cmd t r) (standing r a))).route (command_of d routes (cmd t q) (known (cmd t q) (standing q b))).route (says_used (cmd t r) (standing r a)) (says_used (cmd t q) (standing q b)) x)

          go : InOrder d routes n says all t m n → is_path (train_of d t) (map (route_at routes) (path whole t)) ≡ true
          go o =
              let rs : List RouteNo = path whole t in
              let ss : List Route = map (route_at routes) rs in
              and_both (begins_in (first_visit (train_of d t)) ss && all_neighbors (λ r q. goes_on r.finish q.start) ss && all_pairs (λ r q. not (is_start r.start q.start)) ss) _
              (and_both (begins_in (first_visit (train_of d t)) ss && all_neighbors (λ r q. goes_on r.finish q.start) ss) _
              (and_both (begins_in (first_visit (train_of d t)) ss) _ o.begins (all_neighbors-map (λ r q. goes_on r.finish q.start) (route_at routes) rs ∙ o.near))
              (all_pairs-map (λ r q. not (is_start r.start q.start)) (route_at routes) rs ∙ all_pairs_from (λ r q. not (is_start (route_at routes r).start (route_at routes q).start)) rs o.apart
              (λ r q a b differ. ap not (false_unless (is_start (route_at routes r).start (route_at routes q).start) (λ h. apart r q a b differ (exclude_starts (route_at routes r) (route_at routes q) h))))))
              (all_pairs-map (λ r q. not (end_at_one_signal r.finish q.finish)) (route_at routes) rs ∙ all_pairs_from (λ r q. not (end_at_one_signal (route_at routes r).finish (route_at routes q).finish)) rs o.apart
              (λ r q a b differ. ap not (false_unless (end_at_one_signal (route_at routes r).finish (route_at routes q).finish) (λ h. apart r q a b differ (exclude_ends (route_at routes r) (route_at routes q) h)))))

  -- it can be carried out
  pub decoded_runs : is_executable d routes (decoded d routes n values) ≡ true
  decoded_runs = can_run d routes n says all plan told

  so_given : (c : Command) (i : ℕ) → In c (all_commands d routes) → 1 ≤ i → i ≤ n → is_so plan (Given c i) ≡ says (Given c i)
  so_given c zero k low high = absurd (omega arith)
  so_given c (suc i) k low high = same_bool (is_so plan (Given c (suc i))) (says (Given c (suc i)))
      (λ h. since d routes n says all plan told c (suc i) (has_gives (commands plan) c (and_left (has_command plan c) _ h)) (leb-true _ _ (and_right (has_command plan c) _ h)) high)
      (λ h. (let m = told.has c (suc i) k high h in and_both (has_command plan c) _ (has_from (commands plan) c m) (le-leb _ _ (by_then d routes n says all plan told c (suc i) m h))))

  so_before : 1 ≤ n → (e c : Command) → In (e, c) (pairs d routes) → is_so plan (Before e c) ≡ says (Before e c)
  so_before some e c m = same_bool (is_so plan (Before e c)) (says (Before e c)) forth back
    where
      pair : IsPair d routes e c
      pair = pair_of d routes (e, c) m

      at : (x : Command) (i : ℕ) → given_by (λ v. values (number_of d routes n v)) x i ≡ true → values (number_of d routes n (Given x i)) ≡ true
      at x zero g = absurd (true≢false (sym g))
      at x (suc i) g = g

      not_at : (x : Command) (i : ℕ) → 1 ≤ i → given_by (λ v. values (number_of d routes n v)) x i ≡ false → values (number_of d routes n (Given x i)) ≡ false
      not_at x zero h g = absurd (omega arith)
      not_at x (suc i) h g = g

      said : (x : Command) (i : ℕ) → 1 ≤ i → values (number_of d routes n (Given x i)) ≡ true → given_by (λ v. values (number_of d routes n v)) x i ≡ true
      said x zero h g = absurd (omega arith)
      said x (suc i) h g = g

      forth : is_so plan (Before e c) ≡ true → values (number_of d routes n (Before e c)) ≡ true
      forth h =
          let both = and_left (has_command plan e && has_command plan c) _ h in
          let a = has_gives (commands plan) e (and_left (has_command plan e) _ both) in
          let b = has_gives (commands plan) c (and_right (has_command plan e) _ both) in
          let l = leb-true _ _ (and_right (has_command plan e && has_command plan c) _ h) in
          let low = told.low e a in
          let high = told.high c b in
          earlier_before d routes n says all e c (step_of plan e) m low (omega arith) (at e (step_of plan e) (told.is e a).given)
          (not_at c (step_of plan e) low (until d routes n says all plan told c (step_of plan e) b l)) (says_used c b)

      back : values (number_of d routes n (Before e c)) ≡ true → is_so plan (Before e c) ≡ true
      back h =
          let used = before_used d routes n says all e c m h in
          let b = told.has c n pair.other (omega arith) (said c n some used) in
          let low = told.low c b in
          let high = told.high c b in
          let earlier = before_earlier d routes n says all e c (step_of plan c) m low high h (at c (step_of plan c) (told.is c b).given) in
          let a = told.has e (step_of plan c - 1) pair.one (omega arith) earlier in
          let l = by_then d routes n says all plan told e (step_of plan c - 1) a earlier in
          and_both (has_command plan e && has_command plan c) _ (and_both (has_command plan e) _ (has_from (commands plan) e a) (has_from (commands plan) c b)) (le-leb _ _ (omega arith))

  -- its model agrees on what is given, and on which is before
  pub decoded_given : (c : Command) (i : ℕ) → In c (all_commands d routes) → 1 ≤ i → i ≤ n → model_of d routes n (decoded d routes n values) (number_of d routes n (Given c i)) ≡ values (number_of d routes n (Given c i))
  decoded_given c i k low high = model_says d routes n plan (Given c i) (k, low, high) ∙ so_given c i k low high

  pub decoded_before : 1 ≤ n → (e c : Command) → In (e, c) (pairs d routes) → model_of d routes n (decoded d routes n values) (number_of d routes n (Before e c)) ≡ values (number_of d routes n (Before e c))
  decoded_before some e c m = model_says d routes n plan (Before e c) m ∙ so_before some e c m
