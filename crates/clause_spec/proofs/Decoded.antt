-- The steps of a decoded plan, and the paths that they give to trains.
use Rattle.std.proofs.Common.{◌≡◌, ℕ, zero, suc, ◌+◌, ◌-◌, ◌≤◌, ◌<◌, ◌⊎◌, inl, inr, Bool, true, false, not, ◌&&◌, List, [], ◌∷◌, ◌++◌, map, filter, length, Some, None, refl, sym, ap, subst, ◌∙◌, arith, true≢false, append-nil}
use Rattle.std.specs.List.{list_all}
use Rattle.rail_base.specs.declared.station.Station.{Station}
use Rattle.rail_base.specs.declared.station.TrainNo.{TrainNo}
use Rattle.rail_base.specs.declared.route.Route.{Route}
use Rattle.rail_base.specs.declared.route.RouteNo.{RouteNo}
use Rattle.rail_base.specs.declared.plan.Command.{Command}
use Rattle.rail_base.specs.Numbering.{one_to, count_from}
use Rattle.rail_base.specs.Stations.{trains, train_of, first_visit}
use Rattle.rail_spec.specs.Plans.{route_at, path, commands, step_of, routes_given, one_each, is_train, goes_on, starts_in, begins_in, commands_of, route_numbers, all_commands}
use Rattle.rail_base.specs.Members.{all_neighbors}
use Rattle.rail_base.proofs.Members.{In, and_left, and_right, and_both, in_filter, below_or_not, is_false, false_unless}
use Rattle.clause_spec.specs.Variables.{Variable, Given}
use Rattle.clause_spec.specs.Clauses.{exclude}
use Rattle.clause_spec.specs.Models.{given_by, given_in}
use Rattle.clause_spec.proofs.Lists.{Distinct, distinct_filter, distinct_map, distinct_map_in, distinct_flat_map, distinct_count, last_of, last_push, near_push, distinct_push, one_at_most, map-push, flat_map-push, one_to-push, all_pairs_from}
use Rattle.clause_spec.proofs.Steps.{cmd, in_or_not, step_here, step_later, step_low, step_high, in_path, in_path_from}
use Rattle.clause_spec.proofs.Places.{command_of, command_from, distinct_routes, one_start}
use Rattle.clause_spec.proofs.Facts.{AllTrue, given_up_to, Led, led, one_of, starts_at_boundary, exclude_boundaries, exclude_starts}
use Rattle.rail_base.proofs.Lists.{list_all_from, in_map_back, in_filter_back, in_count_back, length-map, in_append_left, in_append_right, in_append, length-count}
use Rattle.rail_laws.proofs.Given.{same_train}

true_or_false : (b : Bool) → (b ≡ true) ⊎ (b ≡ false)
true_or_false true = inl refl
true_or_false false = inr refl

module _ (d : Station) (routes : List Route) (n : ℕ) (says : Variable → Bool) where
  abbrev pub step : ℕ → List Command
  step i = given_in d routes n says i

  abbrev pub steps : ℕ → List (List Command)
  steps j = map (given_in d routes n says) (one_to j)

  -- what is in a step is given by it and not by the one before
  pub record New (c : Command) (i : ℕ) : Type 0 where
    pub known : In c (all_commands d routes)
    pub given : given_by says c i ≡ true
    pub fresh : given_by says c (i - 1) ≡ false

  pub new : (c : Command) (i : ℕ) → In c (step i) → New c i
  new c i m =
      let f = in_filter_back (λ c. given_by says c i && not (given_by says c (i - 1))) (all_commands d routes) c m in
      record { known = f.0; given = and_left (given_by says c i) _ f.1; fresh = is_false (given_by says c (i - 1)) (and_right (given_by says c i) _ f.1) }

  pub new_from : (c : Command) (i : ℕ) → New c i → In c (step i)
  new_from c i w = in_filter (λ c. given_by says c i && not (given_by says c (i - 1))) (all_commands d routes) c w.known (and_both (given_by says c i) _ w.given (ap not w.fresh))

  step_at : (a m : ℕ) (c : Command) → In c (commands (map (given_in d routes n says) (count_from a m))) → In c (step (a + (step_of (map (given_in d routes n says) (count_from a m)) c - 1)))
  step_at a zero c k = absurd k
  step_at a (suc m) c k = go (in_or_not (step a) c) (in_append c (step a) (commands (map (given_in d routes n says) (count_from (a + 1) m))) k) (step_at (a + 1) m c)
    where
      rest : List (List Command)
      rest = map (given_in d routes n says) (count_from (a + 1) m)

      go : In c (step a) ⊎ (In c (step a) → ⊥) → In c (step a) ⊎ In c (commands (map (given_in d routes n says) (count_from (a + 1) m)))
          → (In c (commands (map (given_in d routes n says) (count_from (a + 1) m))) → In c (step (a + 1 + (step_of (map (given_in d routes n says) (count_from (a + 1) m)) c - 1))))
          → In c (step (a + (step_of (step a ∷ map (given_in d routes n says) (count_from (a + 1) m)) c - 1)))
      go (inl here) x more = let e = step_here (step a) (map (given_in d routes n says) (count_from (a + 1) m)) c here in subst (λ i. In c (step i)) (sum a _ e) here
        where
          sum : (a s : ℕ) → s ≡ 1 → a ≡ a + (s - 1)
          sum a s e = omega arith
      go (inr out) (inl here) more = absurd (out here)
      go (inr out) (inr later) more =
          let e = step_later (step a) (map (given_in d routes n says) (count_from (a + 1) m)) c out in
          let low = step_low (map (given_in d routes n says) (count_from (a + 1) m)) c in
          subst (λ i. In c (step i)) (sum a _ _ low e) (more later)
        where
          sum : (a s r : ℕ) → 1 ≤ r → s ≡ r + 1 → a + 1 + (r - 1) ≡ a + (s - 1)
          sum a s r h e = omega arith

  found : (a m i : ℕ) (c : Command) → In c (all_commands d routes) → given_by says c (a - 1) ≡ false → a ≤ i → i < a + m → given_by says c i ≡ true → In c (commands (map (given_in d routes n says) (count_from a m)))
  found a zero i c k x low high g = absurd (omega arith)
  found a (suc m) i c k x low high g = go (true_or_false (given_by says c a)) (found (a + 1) m i c k)
    where
      less : (a : ℕ) → a ≡ a + 1 - 1
      less a = omega arith

      go : (given_by says c a ≡ true) ⊎ (given_by says c a ≡ false) → (given_by says c (a + 1 - 1) ≡ false → a + 1 ≤ i → i < a + 1 + m → given_by says c i ≡ true → In c (commands (map (given_in d routes n says) (count_from (a + 1) m)))) → In c (step a ++ commands (map (given_in d routes n says) (count_from (a + 1) m)))
      go (inl y) more = in_append_left c (step a) (commands (map (given_in d routes n says) (count_from (a + 1) m))) (new_from c a (record { known = k; given = y; fresh = x }))
      go (inr y) more = in_append_right c (step a) (commands (map (given_in d routes n says) (count_from (a + 1) m)))
          (more (subst (λ j. given_by says c j ≡ false) (less a) y) (up (below_or_not a i)) (omega arith) g)
        where
          up : (a < i) ⊎ (i ≤ a) → a + 1 ≤ i
          up (inl l) = omega arith
          up (inr l) = let same : i ≡ a = omega arith in absurd (true≢false (sym g ∙ (ap (given_by says c) same ∙ y)))

  pub length-steps : (j : ℕ) → length (steps j) ≡ j
  length-steps j = length-map (given_in d routes n says) (one_to j) ∙ length-count 1 j

  -- a command of the plan is new in its step
  pub record In_its_step (j : ℕ) (c : Command) : Type 0 where
    pub low : 1 ≤ step_of (steps j) c
    pub high : step_of (steps j) c ≤ j
    pub is : New c (step_of (steps j) c)

  pub its_step : (j : ℕ) (c : Command) → In c (commands (steps j)) → In_its_step j c
  its_step j c m =
      let l = step_low (steps j) c in
      let h = step_high (steps j) c m in
      let e = length-steps j in
      record { low = l; high = omega arith; is = new c (step_of (steps j) c) (subst (λ i. In c (step i)) (sum _ l) (step_at 1 j c m)) }
    where
      sum : (s : ℕ) → 1 ≤ s → 1 + (s - 1) ≡ s
      sum s h = omega arith

  pub in_steps : (j : ℕ) (c : Command) → In c (all_commands d routes) → given_by says c j ≡ true → In c (commands (steps j))
  in_steps zero c m g = absurd (true≢false (sym g))
  in_steps (suc j) c m g = found 1 (suc j) (suc j) c m refl (omega arith) (omega arith) g

  distinct_commands : Distinct (all_commands d routes)
  distinct_commands =
      let number : ℕ → TrainNo = λ t. record { 0 = t } in
      distinct_flat_map (commands_of routes) (λ (c : Command). c.train) (trains d)
      (λ t. distinct_map (cmd t) (route_numbers routes) (λ x y e. ap (λ (c : Command). c.route) e) (distinct_routes routes))
      (λ t c m. (let f = in_map_back (cmd t) (route_numbers routes) c m in ap (λ (c : Command). c.train) (sym f.2)))
      (distinct_map number (one_to (length d.trains)) (λ x y e. ap (λ (t : TrainNo). t.0) e) (distinct_count 1 (length d.trains)))

  pub distinct_step : (i : ℕ) → Distinct (step i)
  distinct_step i = distinct_filter (λ c. given_by says c i && not (given_by says c (i - 1))) (all_commands d routes) distinct_commands

  module _ (all : AllTrue d routes n says) where
    -- what is in the steps up to j is given by step j, and so on to the end
    pub given_since : (j i : ℕ) (c : Command) → In c (commands (steps j)) → step_of (steps j) c ≤ i → i ≤ n → given_by says c i ≡ true
    given_since j i c m h l = let s = its_step j c m in given_up_to d routes n says all c (step_of (steps j) c) i s.is.known h l s.is.given

    pub not_before : (j i : ℕ) (c : Command) → In c (commands (steps j)) → i < step_of (steps j) c → j ≤ n → given_by says c i ≡ false
    not_before j i c m h l =
        let s = its_step j c m in
        let top = s.high in
        false_unless (given_by says c i) (λ g. true≢false (sym (given_up_to d routes n says all c i (step_of (steps j) c - 1) s.is.known (omega arith) (omega arith) g) ∙ s.is.fresh))

    -- ---- the path of a train

    module _ (t : TrainNo) (known : In t (trains d)) where
      abbrev pub links : RouteNo → RouteNo → Bool
      links r q = goes_on (route_at routes r).finish (route_at routes q).start

      on_path : (j : ℕ) (r : RouteNo) → j ≤ n → In r (path (steps j) t) → In r (route_numbers routes) × (given_by says (cmd t r) j ≡ true)
      on_path j r l m =
          let k = in_path (steps j) t r m in
          let s = its_step j (cmd t r) k in
          ((command_of d routes (cmd t r) s.is.known).route, given_since j j (cmd t r) k s.high l)

      to_path : (j : ℕ) (r : RouteNo) → In r (route_numbers routes) → given_by says (cmd t r) j ≡ true → In r (path (steps j) t)
      to_path j r m g = in_path_from (steps j) t r (in_steps j (cmd t r) (command_from d routes t r known m) g)

      used : (j : ℕ) (r : RouteNo) → j ≤ n → In r (route_numbers routes) → given_by says (cmd t r) j ≡ true → says (Given (cmd t r) n) ≡ true
      used j r l m g = at n (given_up_to d routes n says all (cmd t r) j n (command_from d routes t r known m) l (omega arith) g)
        where
          at : (i : ℕ) → given_by says (cmd t r) i ≡ true → says (Given (cmd t r) i) ≡ true
          at zero g = absurd (true≢false (sym g))
          at (suc i) g = g

      -- the path so far is in order
      pub record InOrder (j : ℕ) : Type 0 where
        pub near : all_neighbors links (path (steps j) t) ≡ true
        pub apart : Distinct (path (steps j) t)
        pub begins : begins_in (first_visit (train_of d t)) (map (route_at routes) (path (steps j) t)) ≡ true
        pub goes : (r : RouteNo) → In r (path (steps j) t) → (last_of (path (steps j) t) ≡ Some r) ⊎ ((q : RouteNo) × In q (path (steps j) t) × (links r q ≡ true))

      -- a route that is given next begins the path, or goes on from the last
      abbrev pub Follows : ℕ → RouteNo → Type 0
      Follows j x = ((path (steps j) t ≡ []) × (starts_in (first_visit (train_of d t)) (route_at routes x).start ≡ true)) ⊎ ((q : RouteNo) × (last_of (path (steps j) t) ≡ Some q) × (links q x ≡ true))

      module _ (j : ℕ) (within : suc j ≤ n) (so_far : InOrder j) where
        same : (r q : RouteNo) → In r (route_numbers routes) → In q (route_numbers routes) → given_by says (cmd t r) (suc j) ≡ true → given_by says (cmd t q) (suc j) ≡ true → exclude (route_at routes r) (route_at routes q) ≡ true → r ≡ q
        same r q a b g h x = one_of d routes n says all t r q known a b (used (suc j) r within a g) (used (suc j) q within b h) x

        still : (r : RouteNo) → In r (route_numbers routes) → given_by says (cmd t r) j ≡ true → given_by says (cmd t r) (suc j) ≡ true
        still r m g = given_up_to d routes n says all (cmd t r) j (suc j) (command_from d routes t r known m) (omega arith) within g

        follows : (x : RouteNo) → In (cmd t x) (step (suc j)) → Follows j x
        follows x m = go (led d routes n says all (cmd t x) (suc j) w.known (omega arith) within w.given)
          where
            w : New (cmd t x) (suc j)
            w = new (cmd t x) (suc j) m

            route : In x (route_numbers routes)
            route = (command_of d routes (cmd t x) (new (cmd t x) (suc j) m).known).route

            back : (j : ℕ) → suc j - 1 ≡ j
            back j = omega arith

            fresh : given_by says (cmd t x) j ≡ false
            fresh = subst (λ i. given_by says (cmd t x) i ≡ false) (back j) (new (cmd t x) (suc j) m).fresh

            empty : starts_in (first_visit (train_of d t)) (route_at routes x).start ≡ true → (rs : List RouteNo) → path (steps j) t ≡ rs → begins_in (first_visit (train_of d t)) (map (route_at routes) rs) ≡ true → path (steps j) t ≡ []
            empty s [] e b = e
            empty s (r ∷ rs) e b =
                let o = on_path j r (omega arith) (subst (λ ys. In r ys) (sym e) (inl refl)) in
                let one = same r x o.0 route (still r o.0 o.1) w.given (exclude_boundaries (route_at routes r) (route_at routes x) (starts_at_boundary (first_visit (train_of d t)) (route_at routes r).start b) (starts_at_boundary (first_visit (train_of d t)) (route_at routes x).start s)) in
                absurd (true≢false (sym (subst (λ y. given_by says (cmd t y) j ≡ true) one o.1) ∙ fresh))

            next : (q : RouteNo) → links q x ≡ true → (last_of (path (steps j) t) ≡ Some q) ⊎ ((v : RouteNo) × In v (path (steps j) t) × (links q v ≡ true)) → Follows j x
            next q g (inl e) = inr (q, e, g)
            next q g (inr (v, k, h)) =
                let o = on_path j v (omega arith) k in
                let one = same v x o.0 route (still v o.0 o.1) w.given (exclude_starts (route_at routes v) (route_at routes x) (one_start (route_at routes q).finish (route_at routes v).start (route_at routes x).start h g)) in
                absurd (true≢false (sym (subst (λ y. given_by says (cmd t y) j ≡ true) one o.1) ∙ fresh))

            go : (starts_in (first_visit (train_of d t)) (route_at routes x).start ≡ true) ⊎ Led d routes n says all (cmd t x) (suc j) → Follows j x
            go (inl s) = inl (empty s (path (steps j) t) refl so_far.begins, s)
            go (inr l) = next l.route l.goes (so_far.goes l.route (to_path j l.route l.known (subst (λ i. given_by says (cmd t l.route) i ≡ true) (back j) l.given)))

        -- only one route is given next
        one_next : (x y : RouteNo) → In (cmd t x) (step (suc j)) → In (cmd t y) (step (suc j)) → x ≡ y
        one_next x y m k = go (follows x m) (follows y k)
          where
            a : In x (route_numbers routes)
            a = (command_of d routes (cmd t x) (new (cmd t x) (suc j) m).known).route

            b : In y (route_numbers routes)
            b = (command_of d routes (cmd t y) (new (cmd t y) (suc j) k).known).route

            alike : exclude (route_at routes x) (route_at routes y) ≡ true → x ≡ y
            alike e = same x y a b (new (cmd t x) (suc j) m).given (new (cmd t y) (suc j) k).given e

            go : Follows j x → Follows j y → x ≡ y
            go (inl f) (inl g) = alike (exclude_boundaries (route_at routes x) (route_at routes y) (starts_at_boundary (first_visit (train_of d t)) (route_at routes x).start f.1) (starts_at_boundary (first_visit (train_of d t)) (route_at routes y).start g.1))
            go (inl f) (inr (q, e, g)) = absurd (none (sym (ap last_of f.0) ∙ e))
              where
                none : None ≡ Some q → ⊥
                none e = cc
            go (inr (q, e, g)) (inl f) = absurd (none (sym (ap last_of f.0) ∙ e))
              where
                none : None ≡ Some q → ⊥
                none e = cc
            go (inr (q, e, g)) (inr (p, f, h)) =
                let one : q ≡ p = only (sym e ∙ f) in
                alike (exclude_starts (route_at routes x) (route_at routes y) (one_start (route_at routes p).finish (route_at routes x).start (route_at routes y).start (subst (λ z. links z x ≡ true) one g) h))
              where
                only : Some q ≡ Some p → q ≡ p
                only e = cc

        abbrev given : List RouteNo
        given = routes_given t (step (suc j))

        given_member : (x : RouteNo) → In x given → In (cmd t x) (step (suc j))
        given_member x m =
            let f = in_map_back (λ (c : Command). c.route) (filter (λ c. is_train c.train t) (step (suc j))) x m in
            let g = in_filter_back (λ (c : Command). is_train c.train t) (step (suc j)) f.0 f.1 in
            let one : f.0 ≡ cmd t x = ap (λ u. cmd u f.0.route) (same_train f.0.train t g.1) ∙ ap (cmd t) f.2 in
            subst (λ c. In c (step (suc j))) one g.0

        distinct_given : Distinct given
        distinct_given = distinct_map_in (λ (c : Command). c.route) (filter (λ c. is_train c.train t) (step (suc j))) apart (distinct_filter (λ (c : Command). is_train c.train t) (step (suc j)) (distinct_step (suc j)))
          where
            apart : (c e : Command) → In c (filter (λ (c : Command). is_train c.train t) (step (suc j))) → In e (filter (λ (c : Command). is_train c.train t) (step (suc j))) → c.route ≡ e.route → c ≡ e
            apart c e m k h =
                let f = in_filter_back (λ (c : Command). is_train c.train t) (step (suc j)) c m in
                let g = in_filter_back (λ (c : Command). is_train c.train t) (step (suc j)) e k in
                ap (λ u. cmd u c.route) (same_train c.train t f.1) ∙ (ap (cmd t) h ∙ sym (ap (λ u. cmd u e.route) (same_train e.train t g.1)))

        path_next : path (steps (suc j)) t ≡ path (steps j) t ++ given
        path_next = ap (λ is. path (map (given_in d routes n says) is) t) (one_to-push j) ∙ (ap (λ p. path p t) (map-push (given_in d routes n says) (one_to j) (suc j)) ∙ flat_map-push (routes_given t) (steps j) (step (suc j)))

        -- the same in one more step
        in_order_next : InOrder (suc j)
        in_order_next = go (one_at_most given distinct_given (λ x y m k. one_next x y (given_member x m) (given_member y k)))
          where
            none : path (steps (suc j)) t ≡ path (steps j) t → InOrder (suc j)
            none e = record {
              near = subst (λ rs. all_neighbors links rs ≡ true) (sym e) so_far.near;
              apart = subst (λ rs. Distinct rs) (sym e) so_far.apart;
              begins = subst (λ rs. begins_in (first_visit (train_of d t)) (map (route_at routes) rs) ≡ true) (sym e) so_far.begins;
              goes = subst (λ rs. (r : RouteNo) → In r rs → (last_of rs ≡ Some r) ⊎ ((q : RouteNo) × In q rs × (links r q ≡ true))) (sym e) so_far.goes;
            }

            module_links : (x q : RouteNo) → Follows j x → last_of (path (steps j) t) ≡ Some q → links q x ≡ true
            module_links x q (inl f) e = absurd (no_last (sym (ap last_of f.0) ∙ e))
              where
                no_last : None ≡ Some q → ⊥
                no_last e = cc
            module_links x q (inr (p, f, g)) e = subst (λ z. links z x ≡ true) (only (sym f ∙ e)) g
              where
                only : Some p ≡ Some q → p ≡ q
                only e = cc

            begin : (x : RouteNo) → Follows j x → (rs : List RouteNo) → path (steps j) t ≡ rs → begins_in (first_visit (train_of d t)) (map (route_at routes) rs) ≡ true → begins_in (first_visit (train_of d t)) (map (route_at routes) (rs ++ x ∷ [])) ≡ true
            begin x f (r ∷ rs) e b = b
            begin x (inl f) [] e b = f.1
            begin x (inr (q, f, g)) [] e b = absurd (no_last (sym (ap last_of e) ∙ f))
              where
                no_last : None ≡ Some q → ⊥
                no_last e = cc

            some : (x : RouteNo) → In (cmd t x) (step (suc j)) → path (steps (suc j)) t ≡ path (steps j) t ++ x ∷ [] → InOrder (suc j)
            some x m e = record {
              near = subst (λ rs. all_neighbors links rs ≡ true) (sym e) (near_push links (path (steps j) t) x so_far.near (λ q h. module_links x q (follows x m) h));
              apart = subst (λ rs. Distinct rs) (sym e) (distinct_push (path (steps j) t) x so_far.apart out);
              begins = subst (λ rs. begins_in (first_visit (train_of d t)) (map (route_at routes) rs) ≡ true) (sym e) (begin x (follows x m) (path (steps j) t) refl so_far.begins);
              goes = subst (λ rs. (r : RouteNo) → In r rs → (last_of rs ≡ Some r) ⊎ ((q : RouteNo) × In q rs × (links r q ≡ true))) (sym e) (λ r k. goes r (in_append r (path (steps j) t) (x ∷ []) k));
            }
              where
                back : (j : ℕ) → suc j - 1 ≡ j
                back j = omega arith

                out : In x (path (steps j) t) → ⊥
                out k = true≢false (sym (on_path j x (omega arith) k).1 ∙ subst (λ i. given_by says (cmd t x) i ≡ false) (back j) (new (cmd t x) (suc j) m).fresh)

                old : (r : RouteNo) → (last_of (path (steps j) t) ≡ Some r) ⊎ ((q : RouteNo) × In q (path (steps j) t) × (links r q ≡ true)) → (last_of (path (steps j) t ++ x ∷ []) ≡ Some r) ⊎ ((q : RouteNo) × In q (path (steps j) t ++ x ∷ []) × (links r q ≡ true))
                old r (inl h) = inr (x, in_append_right x (path (steps j) t) (x ∷ []) (inl refl), module_links x r (follows x m) h)
                old r (inr (q, k, h)) = inr (q, in_append_left q (path (steps j) t) (x ∷ []) k, h)

                goes : (r : RouteNo) → In r (path (steps j) t) ⊎ In r (x ∷ []) → (last_of (path (steps j) t ++ x ∷ []) ≡ Some r) ⊎ ((q : RouteNo) × In q (path (steps j) t ++ x ∷ []) × (links r q ≡ true))
                goes r (inl k) = old r (so_far.goes r k)
                goes r (inr (inl h)) = inl (last_push (path (steps j) t) x ∙ ap Some h)
                goes r (inr (inr k)) = absurd k

            go : (given ≡ []) ⊎ ((x : RouteNo) × (given ≡ x ∷ [])) → InOrder (suc j)
            go (inl e) = none (path_next ∙ (ap (λ rs. path (steps j) t ++ rs) e ∙ append-nil (path (steps j) t)))
            go (inr (x, e)) = some x (given_member x (subst (λ rs. In x rs) (sym e) (inl refl))) (path_next ∙ ap (λ rs. path (steps j) t ++ rs) e)

      pub in_order : (j : ℕ) → j ≤ n → InOrder j
      in_order zero l = record { near = refl; apart = tt; begins = refl; goes = λ r m. absurd m }
      in_order (suc j) l = in_order_next j l (in_order j (omega arith))

    -- no train has two commands in a step
    pub each_one : (j : ℕ) → suc j ≤ n → one_each (step (suc j)) ≡ true
    each_one j l = all_pairs_from (λ (c e : Command). not (is_train c.train e.train)) (step (suc j)) (distinct_step (suc j)) apart
      where
        apart : (c e : Command) → In c (step (suc j)) → In e (step (suc j)) → (c ≡ e → ⊥) → not (is_train c.train e.train) ≡ true
        apart c e m k differ = ap not (false_unless (is_train c.train e.train) (λ h.
            let one = same_train c.train e.train h in
            let there : In (cmd c.train e.route) (step (suc j)) = subst (λ u. In (cmd u e.route) (step (suc j))) (sym one) k in
            let known = (command_of d routes c (new c (suc j) m).known).train in
            let route = one_next c.train known j l (in_order c.train known j (omega arith)) c.route e.route m there in
            differ (ap (cmd c.train) route ∙ ap (λ u. cmd u e.route) one)))

    pub all_one_each : list_all one_each (steps n) ≡ true
    all_one_each = list_all_from one_each (steps n) (λ s m. (let f = in_map_back (given_in d routes n says) (one_to n) s m in let r = in_count_back 1 n f.0 f.1 in let low = r.0 in let high = r.1 in
        subst (λ x. one_each x ≡ true) f.2 (go f.0 low high)))
      where
        go : (i : ℕ) → 1 ≤ i → i < 1 + n → one_each (step i) ≡ true
        go zero low high = absurd (omega arith)
        go (suc i) low high = each_one i (omega arith)
