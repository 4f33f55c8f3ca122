-- The model of a plan makes every clause true.
use Rattle.std.proofs.Common.{◌≡◌, ℕ, zero, suc, ◌+◌, ◌-◌, ◌≤◌, ◌<◌, ◌⊎◌, inl, inr, Bool, true, false, not, ◌&&◌, ◌||◌, if◌then◌else◌, List, [], ◌∷◌, ◌++◌, map, flat_map, filter, length, Some, refl, sym, ap, subst, ◌∙◌, arith, true≢false, leb-true, le-leb, nat_le, nat_lt}
use Rattle.std.specs.List.{list_all}
use Rattle.rail_base.specs.declared.station.Station.{Station}
use Rattle.rail_base.specs.declared.station.TrainNo.{TrainNo}
use Rattle.rail_base.specs.declared.route.Route.{Route}
use Rattle.rail_base.specs.declared.route.RouteNo.{RouteNo}
use Rattle.rail_base.specs.declared.route.Start.{Start}
use Rattle.rail_base.specs.declared.route.Start.TheVariants as start
use Rattle.rail_base.specs.declared.plan.Command.{Command}
use Rattle.rail_base.specs.Numbering.{one_to, first_of_list}
use Rattle.rail_base.specs.Stations.{trains, train_of, first_visit}
use Rattle.rail_spec.specs.Plans.{route_at, path, path_routes, commands, step_of, one_each, is_train, is_start, goes_on, end_at_one_signal, begins_in, starts_in, has_node, is_path, is_well_formed, is_executable, may_stand, can_clear, share, own_shared, exits, route_numbers, all_commands, contend, has_command}
use Rattle.rail_base.specs.Members.{all_pairs, all_neighbors}
use Rattle.rail_base.proofs.Members.{In, and_left, and_right, and_both, list_all_at, in_filter, below_or_not, is_false}
use Rattle.clause_spec.specs.Variables.{Given, Before, By, yes, no, if_given}
use Rattle.clause_spec.specs.Clauses.{Clause, at_boundary, exclude, later_pairs, leading_to, extends, onward, chain_length, chains, stays_given, start_clause, starts_rightly, not_both, excluded, not_at_once, in_order, all_given}
use Rattle.clause_spec.specs.Models.{holds, is_so, given_by}
use Rattle.clause_spec.proofs.Lists.{Distinct, distinct_from, all_pairs_at, all_pairs-map, all_neighbors-map, in_later}
use Rattle.clause_spec.proofs.Steps.{cmd, has_gives, has_from, step_low, step_high, in_path_from, Placed, placed}
use Rattle.clause_spec.proofs.Truth.{Fails, at_clause, no_false, yes_false, if_given_false}
use Rattle.clause_spec.proofs.Places.{start_self, start_sym, finish_sym, boundary_first, IsOf, command_of, distinct_routes}
use Rattle.rail_base.proofs.Lists.{in_map_back, in_flat_map_back, in_flat_map, in_filter_back, in_count_back, in_append_left, in_append_right, in_append}

-- ---- chains

-- a chain of routes: each but the last is followed by one in it, none exits, and all are shorter than the bound
pub record IsChain (routes : List Route) (bound : ℕ) (chain : List RouteNo × RouteNo) : Type 0 where
  pub short : chain_length routes chain.0 < bound
  pub stays : (r : RouteNo) → In r chain.0 → exits (route_at routes r) ≡ false
  pub goes : (r : RouteNo) → In r chain.0 → (r ≡ chain.1) ⊎ ((q : RouteNo) × In q chain.0 × (goes_on (route_at routes r).finish (route_at routes q).start ≡ true))

-- what is known of the routes before one that is added
pub record Leads (routes : List Route) (before : List RouteNo) (w : RouteNo) : Type 0 where
  pub stays : (r : RouteNo) → In r before → exits (route_at routes r) ≡ false
  pub goes : (r : RouteNo) → In r before → (q : RouteNo) × In q (before ++ w ∷ []) × (goes_on (route_at routes r).finish (route_at routes q).start ≡ true)

pub record Found (routes : List Route) (bound : ℕ) (before : List RouteNo) (w : RouteNo) (chain : List RouteNo × RouteNo) : Type 0 where
  pub is : IsChain routes bound chain
  pub has : (r : RouteNo) → In r (before ++ w ∷ []) → In r chain.0

pub chains_are : (routes : List Route) (more bound : ℕ) (before : List RouteNo) (w : RouteNo) (chain : List RouteNo × RouteNo) → Leads routes before w → In chain (chains routes more bound before w) → Found routes bound before w chain
chains_are routes zero bound before w chain l m = absurd m
chains_are routes (suc more) bound before w chain l m = go (not (exits (route_at routes w)) && nat_lt (chain_length routes (before ++ w ∷ [])) bound) refl m (chains_are routes more bound (before ++ w ∷ []))
  where
    stays : exits (route_at routes w) ≡ false → (r : RouteNo) → In r before ⊎ In r (w ∷ []) → exits (route_at routes r) ≡ false
    stays e r (inl k) = l.stays r k
    stays e r (inr (inl f)) = ap (λ q. exits (route_at routes q)) (sym f) ∙ e
    stays e r (inr (inr k)) = absurd k

    this : exits (route_at routes w) ≡ false → chain_length routes (before ++ w ∷ []) < bound → Found routes bound before w (before ++ w ∷ [], w)
    this e s = record { is = record { short = s; stays = λ r k. stays e r (in_append r before (w ∷ []) k); goes = λ r k. goes r (in_append r before (w ∷ []) k) }; has = λ r k. k }
      where
        goes : (r : RouteNo) → In r before ⊎ In r (w ∷ []) → (r ≡ w) ⊎ ((q : RouteNo) × In q (before ++ w ∷ []) × (goes_on (route_at routes r).finish (route_at routes q).start ≡ true))
        goes r (inl k) = inr (l.goes r k)
        goes r (inr (inl f)) = inl (sym f)
        goes r (inr (inr k)) = absurd k

    leads : exits (route_at routes w) ≡ false → (v : RouteNo) → extends routes (before ++ w ∷ []) w v ≡ true → Leads routes (before ++ w ∷ []) v
    leads e v x = record { stays = λ r k. stays e r (in_append r before (w ∷ []) k); goes = λ r k. goes r (in_append r before (w ∷ []) k) }
      where
        goes : (r : RouteNo) → In r before ⊎ In r (w ∷ []) → (q : RouteNo) × In q ((before ++ w ∷ []) ++ v ∷ []) × (goes_on (route_at routes r).finish (route_at routes q).start ≡ true)
        goes r (inl k) = let g = l.goes r k in (g.0, in_append_left g.0 (before ++ w ∷ []) (v ∷ []) g.1, g.2)
        goes r (inr (inl f)) = (
          v,
          in_append_right v (before ++ w ∷ []) (v ∷ []) (inl refl),
          ap (λ q. goes_on (route_at routes q).finish (route_at routes v).start) (sym f) ∙ and_left (goes_on (route_at routes w).finish (route_at routes v).start) _ x,
        )
        goes r (inr (inr k)) = absurd k

    further : exits (route_at routes w) ≡ false → (v : RouteNo) × In v (onward routes (before ++ w ∷ []) w) × In chain (chains routes more bound (before ++ w ∷ []) v)
        → ((v : RouteNo) (c : List RouteNo × RouteNo) → Leads routes (before ++ w ∷ []) v → In c (chains routes more bound (before ++ w ∷ []) v) → Found routes bound (before ++ w ∷ []) v c) → Found routes bound before w chain
    further e (v, k, i) rest =
        let x = in_filter_back (extends routes (before ++ w ∷ []) w) (route_numbers routes) v k in
        let f = rest v chain (leads e v x.1) i in
        record { is = f.is; has = λ r j. f.has r (in_append_left r (before ++ w ∷ []) (v ∷ []) j) }

    go : (b : Bool) → (not (exits (route_at routes w)) && nat_lt (chain_length routes (before ++ w ∷ [])) bound) ≡ b
        → In chain (if b then (before ++ w ∷ [], w) ∷ flat_map (chains routes more bound (before ++ w ∷ [])) (onward routes (before ++ w ∷ []) w) else [])
        → ((v : RouteNo) (c : List RouteNo × RouteNo) → Leads routes (before ++ w ∷ []) v → In c (chains routes more bound (before ++ w ∷ []) v) → Found routes bound (before ++ w ∷ []) v c) → Found routes bound before w chain
    go false e k rest = absurd k
    go true e (inl f) rest =
        let a = is_false (exits (route_at routes w)) (and_left (not (exits (route_at routes w))) _ e) in
        let b = leb-true _ _ (and_right (not (exits (route_at routes w))) _ e) in
        subst (λ c. Found routes bound before w c) f (this a b)
    go true e (inr k) rest =
        let a = is_false (exits (route_at routes w)) (and_left (not (exits (route_at routes w))) _ e) in
        further a (in_flat_map_back (chains routes more bound (before ++ w ∷ [])) (onward routes (before ++ w ∷ []) w) chain k) rest

-- ---- a plan that is well formed, names only what there is, and can be carried out

module _ (d : Station) (routes : List Route) (n : ℕ) (plan : List (List Command)) where
  abbrev pub links : RouteNo → RouteNo → Bool
  links r q = goes_on (route_at routes r).finish (route_at routes q).start

  abbrev pub starts_apart : RouteNo → RouteNo → Bool
  starts_apart r q = not (is_start (route_at routes r).start (route_at routes q).start)

  abbrev pub ends_apart : RouteNo → RouteNo → Bool
  ends_apart r q = not (end_at_one_signal (route_at routes r).finish (route_at routes q).finish)

  pub record Fit : Type 0 where
    pub named : (c : Command) → In c (commands plan) → In c (all_commands d routes)
    pub formed : is_well_formed d routes n plan ≡ true
    pub can_run : is_executable d routes plan ≡ true

  pub record Way (t : TrainNo) : Type 0 where
    pub begins : begins_in (first_visit (train_of d t)) (path_routes routes plan t) ≡ true
    pub near : all_neighbors links (path plan t) ≡ true
    pub starts : all_pairs starts_apart (path plan t) ≡ true
    pub ends : all_pairs ends_apart (path plan t) ≡ true
    pub apart : Distinct (path plan t)

  module _ (fit : Fit) where
    pub one : list_all one_each plan ≡ true
    one = and_right (nat_le (length plan) n) _ (and_left (nat_le (length plan) n && list_all one_each plan) _ fit.formed)

    pub short : length plan ≤ n
    short = leb-true _ _ (and_left (nat_le (length plan) n) _ (and_left (nat_le (length plan) n && list_all one_each plan) _ fit.formed))

    pub way : (t : TrainNo) → In t (trains d) → Way t
    way t m =
        let rs = path_routes routes plan t in
        let p : is_path (train_of d t) rs ≡ true = list_all_at (λ u. is_path (train_of d u) (path_routes routes plan u)) (trains d) t (and_right (nat_le (length plan) n && list_all one_each plan) _ fit.formed) m in
        let abc = and_left (begins_in (first_visit (train_of d t)) rs && all_neighbors (λ r q. goes_on r.finish q.start) rs && all_pairs (λ r q. not (is_start r.start q.start)) rs) _ p in
        let ab = and_left (begins_in (first_visit (train_of d t)) rs && all_neighbors (λ r q. goes_on r.finish q.start) rs) _ abc in
        let s : all_pairs starts_apart (path plan t) ≡ true = sym (all_pairs-map (λ r q. not (is_start r.start q.start)) (route_at routes) (path plan t)) ∙ and_right (begins_in (first_visit (train_of d t)) rs && all_neighbors (λ r q. goes_on r.finish q.start) rs) _ abc in
        record {
          begins = and_left (begins_in (first_visit (train_of d t)) rs) _ ab;
          near = sym (all_neighbors-map (λ r q. goes_on r.finish q.start) (route_at routes) (path plan t)) ∙ and_right (begins_in (first_visit (train_of d t)) rs) _ ab;
          starts = s;
          ends = sym (all_pairs-map (λ r q. not (end_at_one_signal r.finish q.finish)) (route_at routes) (path plan t)) ∙ and_right (begins_in (first_visit (train_of d t)) rs && all_neighbors (λ r q. goes_on r.finish q.start) rs && all_pairs (λ r q. not (is_start r.start q.start)) rs) _ p;
          apart = distinct_from starts_apart (path plan t) (λ r. ap not (start_self (route_at routes r).start)) s;
        }

    pub of : (c : Command) → In c (commands plan) → IsOf d routes c
    of c m = command_of d routes c (fit.named c m)

    pub place : (c : Command) → In c (commands plan) → Placed links plan c.train c.route
    place c m = let w = way c.train (of c m).train in placed links plan c.train c.route one w.apart w.near m

    pub same_start : (t : TrainNo) (r q : RouteNo) → In (cmd t r) (commands plan) → In (cmd t q) (commands plan) → is_start (route_at routes r).start (route_at routes q).start ≡ true → r ≡ q
    same_start t r q m k h = go (all_pairs_at starts_apart (path plan t) r q (way t (of (cmd t r) m).train).starts (in_path_from plan t r m) (in_path_from plan t q k))
      where
        go : (r ≡ q) ⊎ ((starts_apart r q ≡ true) ⊎ (starts_apart q r ≡ true)) → r ≡ q
        go (inl e) = e
        go (inr (inl e)) = absurd (true≢false (sym h ∙ is_false (is_start (route_at routes r).start (route_at routes q).start) e))
        go (inr (inr e)) = absurd (true≢false (sym (start_sym (route_at routes r).start (route_at routes q).start h) ∙ is_false (is_start (route_at routes q).start (route_at routes r).start) e))

    pub same_end : (t : TrainNo) (r q : RouteNo) → In (cmd t r) (commands plan) → In (cmd t q) (commands plan) → end_at_one_signal (route_at routes r).finish (route_at routes q).finish ≡ true → r ≡ q
    same_end t r q m k h = go (all_pairs_at ends_apart (path plan t) r q (way t (of (cmd t r) m).train).ends (in_path_from plan t r m) (in_path_from plan t q k))
      where
        go : (r ≡ q) ⊎ ((ends_apart r q ≡ true) ⊎ (ends_apart q r ≡ true)) → r ≡ q
        go (inl e) = e
        go (inr (inl e)) = absurd (true≢false (sym h ∙ is_false (end_at_one_signal (route_at routes r).finish (route_at routes q).finish) e))
        go (inr (inr e)) = absurd (true≢false (sym (finish_sym (route_at routes r).finish (route_at routes q).finish h) ∙ is_false (end_at_one_signal (route_at routes q).finish (route_at routes r).finish) e))

    -- ---- what the model says

    pub so_in : (c : Command) (i : ℕ) → is_so plan (Given c i) ≡ true → In c (commands plan)
    so_in c i h = has_gives (commands plan) c (and_left (has_command plan c) _ h)

    pub so_step : (c : Command) (i : ℕ) → is_so plan (Given c i) ≡ true → step_of plan c ≤ i
    so_step c i h = leb-true _ _ (and_right (has_command plan c) _ h)

    pub so_from : (c : Command) (i : ℕ) → In c (commands plan) → step_of plan c ≤ i → is_so plan (Given c i) ≡ true
    so_from c i m h = and_both (has_command plan c) _ (has_from (commands plan) c m) (le-leb _ _ h)

    pub so_not : (c : Command) (i : ℕ) → In c (commands plan) → is_so plan (Given c i) ≡ false → i < step_of plan c
    so_not c i m h = go (below_or_not i (step_of plan c))
      where
        go : (i < step_of plan c) ⊎ (step_of plan c ≤ i) → i < step_of plan c
        go (inl k) = k
        go (inr k) = absurd (true≢false (sym (so_from c i m k) ∙ h))

    pub not_by : (c : Command) (i : ℕ) → In c (commands plan) → given_by (is_so plan) c i ≡ false → i < step_of plan c
    not_by c zero m h = step_low plan c
    not_by c (suc i) m h = so_not c (suc i) m h

    pub used_from : (c : Command) → In c (commands plan) → is_so plan (Given c n) ≡ true
    used_from c m = so_from c n m (let h = step_high plan c m in let k = short in omega arith)

    -- ---- family by family

    pub stays_given_holds : (c : Command) (cl : Clause) → In cl (stays_given d routes n c) → holds (is_so plan) cl ≡ true
    stays_given_holds c cl m =
        let f = in_map_back (λ i. no (Given c i) ∷ yes (Given c (i + 1)) ∷ []) (one_to (n - 1)) cl m in
        at_clause (is_so plan) f.2 (λ h.
        let a = no_false (is_so plan) (Given c f.0) h (inl refl) in
        let b = so_not c (f.0 + 1) (so_in c f.0 a) (yes_false (is_so plan) (Given c (f.0 + 1)) h (inr (inl refl))) in
        let k = so_step c f.0 a in
        absurd (omega arith))

    pub begins_at : (t : TrainNo) (r : RouteNo) → In t (trains d) → first_of_list (path plan t) ≡ Some r → starts_in (first_visit (train_of d t)) (route_at routes r).start ≡ true
    begins_at t r m e = go (path plan t) (way t m).begins e
      where
        go : (rs : List RouteNo) → begins_in (first_visit (train_of d t)) (map (route_at routes) rs) ≡ true → first_of_list rs ≡ Some r → starts_in (first_visit (train_of d t)) (route_at routes r).start ≡ true
        go [] h e = absurd (cc)
        go (q ∷ qs) h e = let same : q ≡ r = cc in subst (λ p. starts_in (first_visit (train_of d t)) (route_at routes p).start ≡ true) same h

    start_holds : (c : Command) (s : Start) (i : ℕ) (cl : Clause) → (route_at routes c.route).start ≡ s → 1 ≤ i → In cl (start_clause d routes n c s i) → holds (is_so plan) cl ≡ true
    start_holds c (start.Boundary b) i cl e low m = go (has_node (first_visit (train_of d c.train)) b) refl m
      where
        first_or_next : In c (commands plan) → has_node (first_visit (train_of d c.train)) b ≡ false → Placed links plan c.train c.route → ⊥
        first_or_next k f (inl x) =
            let g = begins_at c.train c.route (of c k).train x.head in
            true≢false (sym g ∙ (ap (starts_in (first_visit (train_of d c.train))) e ∙ f))
        first_or_next k f (inr (q, x)) = true≢false (ap at_boundary (sym e) ∙ boundary_first _ _ x.linked)

        go : (h : Bool) → has_node (first_visit (train_of d c.train)) b ≡ h → In cl (if h then [] else (no (Given c i) ∷ []) ∷ []) → holds (is_so plan) cl ≡ true
        go true f k = absurd k
        go false f (inr k) = absurd k
        go false f (inl g) = at_clause (is_so plan) g (λ h.
            let k = so_in c i (no_false (is_so plan) (Given c i) h (inl refl)) in
            first_or_next k f (place c k))
    start_holds c (start.Signal s) i cl e low (inr m) = absurd m
    start_holds c (start.Signal s) i cl e low (inl g) = at_clause (is_so plan) g (λ h.
        let a = no_false (is_so plan) (Given c i) h (inl refl) in
        go (so_in c i a) (so_step c i a) h (place c (so_in c i a)))
      where
        clause : Clause
        clause = no (Given c i) ∷ flat_map (λ q. if_given (cmd c.train q) (i - 1)) (leading_to routes (start.Signal s))

        go : In c (commands plan) → step_of plan c ≤ i → Fails (is_so plan) (no (Given c i) ∷ flat_map (λ q. if_given (cmd c.train q) (i - 1)) (leading_to routes (start.Signal s))) → Placed links plan c.train c.route → ⊥
        go k l h (inl x) = true≢false (sym (begins_at c.train c.route (of c k).train x.head) ∙ ap (starts_in (first_visit (train_of d c.train))) e)
        go k l h (inr (q, x)) =
            let linked : goes_on (route_at routes q).finish (start.Signal s) ≡ true = ap (goes_on (route_at routes q).finish) (sym e) ∙ x.linked in
            let there = in_filter (λ p. goes_on (route_at routes p).finish (start.Signal s)) (route_numbers routes) q (of (cmd c.train q) x.member).route linked in
            let b = if_given_false (is_so plan) (cmd c.train q) (i - 1) h (λ lit j. inr (in_flat_map (λ p. if_given (cmd c.train p) (i - 1)) (leading_to routes (start.Signal s)) q lit there j)) in
            let later = not_by (cmd c.train q) (i - 1) x.member b in
            let earlier = x.earlier in
            absurd (omega arith)

    pub starts_rightly_holds : (c : Command) (cl : Clause) → In cl (starts_rightly d routes n c) → holds (is_so plan) cl ≡ true
    starts_rightly_holds c cl m =
        let f = in_flat_map_back (start_clause d routes n c (route_at routes c.route).start) (one_to n) cl m in
        start_holds c (route_at routes c.route).start f.0 cl refl (in_count_back 1 n f.0 f.1).0 f.2

    first_of_two : (t : TrainNo) (r : RouteNo) → In (cmd t r) (commands plan) → at_boundary (route_at routes r).start ≡ true → Placed links plan t r → first_of_list (path plan t) ≡ Some r
    first_of_two t r m b (inl x) = x.head
    first_of_two t r m b (inr (q, x)) = absurd (true≢false (sym b ∙ boundary_first _ _ x.linked))

    pub not_excluded : (t : TrainNo) (r q : RouteNo) → In (cmd t r) (commands plan) → In (cmd t q) (commands plan) → exclude (route_at routes r) (route_at routes q) ≡ true → r ≡ q
    not_excluded t r q m k h = go (at_boundary (route_at routes r).start && at_boundary (route_at routes q).start) (is_start (route_at routes r).start (route_at routes q).start) (end_at_one_signal (route_at routes r).finish (route_at routes q).finish) refl refl refl h
      where
        go : (a b c : Bool) → (at_boundary (route_at routes r).start && at_boundary (route_at routes q).start) ≡ a → is_start (route_at routes r).start (route_at routes q).start ≡ b → end_at_one_signal (route_at routes r).finish (route_at routes q).finish ≡ c → (a || b || c) ≡ true → r ≡ q
        go true b c e f g h =
            let one = first_of_two t r m (and_left (at_boundary (route_at routes r).start) _ e) (place (cmd t r) m) in
            let two = first_of_two t q k (and_right (at_boundary (route_at routes r).start) _ e) (place (cmd t q) k) in
            cc
        go false true c e f g h = same_start t r q m k f
        go false false true e f g h = same_end t r q m k g
        go false false false e f g h = absurd (true≢false (sym h))

    pub excluded_holds : (t : TrainNo) (cl : Clause) → In cl (excluded d routes n t) → holds (is_so plan) cl ≡ true
    excluded_holds t cl m =
        let f = in_map_back (not_both d routes n t) (filter (λ p. exclude (route_at routes p.0) (route_at routes p.1)) (later_pairs (route_numbers routes))) cl m in
        let k = in_filter_back (λ p. exclude (route_at routes p.0) (route_at routes p.1)) (later_pairs (route_numbers routes)) f.0 f.1 in
        let l = in_later (route_numbers routes) f.0 (distinct_routes routes) k.0 in
        at_clause (is_so plan) f.2 (λ h.
        let a = so_in (cmd t f.0.0) n (no_false (is_so plan) (Given (cmd t f.0.0) n) h (inl refl)) in
        let b = so_in (cmd t f.0.1) n (no_false (is_so plan) (Given (cmd t f.0.1) n) h (inr (inl refl))) in
        l.differ (not_excluded t f.0.0 f.0.1 a b k.1))

    -- ---- pairs

    stand : (e c : Command) → In e (commands plan) → In c (commands plan) → may_stand d routes plan e c ≡ true
    stand e c m k = list_all_at (may_stand d routes plan e) (commands plan) c (list_all_at (λ u. list_all (may_stand d routes plan u) (commands plan)) (commands plan) e fit.can_run m) k

    -- of two that contend, one is given before the other, and then it can clear
    ordered : (same shares later earlier clears : Bool) → (not same && shares) ≡ true → (same || not shares || later || (earlier && clears)) ≡ true → (later ≡ true) ⊎ ((earlier && clears) ≡ true)
    ordered true shares later earlier clears h k = absurd (true≢false (sym h))
    ordered false false later earlier clears h k = absurd (true≢false (sym h))
    ordered false true true earlier clears h k = inl refl
    ordered false true false earlier clears h k = inr k

    pub in_turn : (e c : Command) → contend routes e c ≡ true → In e (commands plan) → In c (commands plan) → (step_of plan c < step_of plan e) ⊎ ((step_of plan e < step_of plan c) × (list_all (can_clear d routes plan e c) (own_shared (route_at routes e.route) (route_at routes c.route)) ≡ true))
    in_turn e c h m k = go (ordered (is_train e.train c.train) (share (route_at routes e.route) (route_at routes c.route)) (nat_lt (step_of plan c) (step_of plan e)) (nat_lt (step_of plan e) (step_of plan c)) (list_all (can_clear d routes plan e c) (own_shared (route_at routes e.route) (route_at routes c.route))) h (stand e c m k))
      where
        go : (nat_lt (step_of plan c) (step_of plan e) ≡ true) ⊎ ((nat_lt (step_of plan e) (step_of plan c) && list_all (can_clear d routes plan e c) (own_shared (route_at routes e.route) (route_at routes c.route))) ≡ true)
            → (step_of plan c < step_of plan e) ⊎ ((step_of plan e < step_of plan c) × (list_all (can_clear d routes plan e c) (own_shared (route_at routes e.route) (route_at routes c.route)) ≡ true))
        go (inl f) = inl (leb-true _ _ f)
        go (inr f) = inr (leb-true _ _ (and_left (nat_lt (step_of plan e) (step_of plan c)) _ f), and_right (nat_lt (step_of plan e) (step_of plan c)) _ f)

    pub not_at_once_holds : (e c : Command) (cl : Clause) → contend routes e c ≡ true → In cl (not_at_once d routes n (e, c)) → holds (is_so plan) cl ≡ true
    not_at_once_holds e c cl con m =
        let f = in_map_back (λ i. no (Given e i) ∷ if_given e (i - 1) ++ no (Given c i) ∷ if_given c (i - 1)) (one_to n) cl m in
        at_clause (is_so plan) f.2 (λ h. both f.0 h)
      where
        both : (i : ℕ) → Fails (is_so plan) (no (Given e i) ∷ if_given e (i - 1) ++ no (Given c i) ∷ if_given c (i - 1)) → ⊥
        both i h =
            let rest = no (Given c i) ∷ if_given c (i - 1) in
            let a = no_false (is_so plan) (Given e i) h (inl refl) in
            let b = no_false (is_so plan) (Given c i) h (inr (in_append_right (no (Given c i)) (if_given e (i - 1)) rest (inl refl))) in
            let p = not_by e (i - 1) (so_in e i a) (if_given_false (is_so plan) e (i - 1) h (λ l k. inr (in_append_left l (if_given e (i - 1)) rest k))) in
            let q = not_by c (i - 1) (so_in c i b) (if_given_false (is_so plan) c (i - 1) h (λ l k. inr (in_append_right l (if_given e (i - 1)) rest (inr k)))) in
            let x = so_step e i a in
            let y = so_step c i b in
            go i p q x y (in_turn e c con (so_in e i a) (so_in c i b))
          where
            go : (i : ℕ) → i - 1 < step_of plan e → i - 1 < step_of plan c → step_of plan e ≤ i → step_of plan c ≤ i → (step_of plan c < step_of plan e) ⊎ ((step_of plan e < step_of plan c) × (list_all (can_clear d routes plan e c) (own_shared (route_at routes e.route) (route_at routes c.route)) ≡ true)) → ⊥
            go i p q x y (inl l) = absurd (omega arith)
            go i p q x y (inr l) = let k = l.0 in absurd (omega arith)

    pub in_order_holds : (e c : Command) (cl : Clause) → In cl (in_order d routes n (e, c)) → holds (is_so plan) cl ≡ true
    in_order_holds e c cl (inl f) = at_clause (is_so plan) f (λ h.
        let a = no_false (is_so plan) (Before e c) h (inl refl) in
        let b = yes_false (is_so plan) (Given c n) h (inr (inl refl)) in
        let m = has_gives (commands plan) c (and_right (has_command plan e) _ (and_left (has_command plan e && has_command plan c) _ a)) in
        true≢false (sym (used_from c m) ∙ b))
    in_order_holds e c cl (inr m) = go (in_append cl (map first (one_to n)) (map second (one_to (n - 1))) m)
      where
        first : ℕ → Clause
        first i = no (Before e c) ∷ no (Given c i) ∷ if_given e (i - 1)

        second : ℕ → Clause
        second i = yes (Before e c) ∷ no (Given e i) ∷ yes (Given c i) ∷ no (Given c n) ∷ []

        go : In cl (map (λ i. no (Before e c) ∷ no (Given c i) ∷ if_given e (i - 1)) (one_to n)) ⊎ In cl (map (λ i. yes (Before e c) ∷ no (Given e i) ∷ yes (Given c i) ∷ no (Given c n) ∷ []) (one_to (n - 1))) → holds (is_so plan) cl ≡ true
        go (inl k) =
            let f = in_map_back (λ i. no (Before e c) ∷ no (Given c i) ∷ if_given e (i - 1)) (one_to n) cl k in
            at_clause (is_so plan) f.2 (λ h.
            let a = no_false (is_so plan) (Before e c) h (inl refl) in
            let b = no_false (is_so plan) (Given c f.0) h (inr (inl refl)) in
            let x = has_gives (commands plan) e (and_left (has_command plan e) _ (and_left (has_command plan e && has_command plan c) _ a)) in
            let l = leb-true _ _ (and_right (has_command plan e && has_command plan c) _ a) in
            let y = so_step c f.0 b in
            let z = not_by e (f.0 - 1) x (if_given_false (is_so plan) e (f.0 - 1) h (λ lit j. inr (inr j))) in
            absurd (omega arith))
        go (inr k) =
            let f = in_map_back (λ i. yes (Before e c) ∷ no (Given e i) ∷ yes (Given c i) ∷ no (Given c n) ∷ []) (one_to (n - 1)) cl k in
            at_clause (is_so plan) f.2 (λ h.
            let a = yes_false (is_so plan) (Before e c) h (inl refl) in
            let b = no_false (is_so plan) (Given e f.0) h (inr (inl refl)) in
            let g = yes_false (is_so plan) (Given c f.0) h (inr (inr (inl refl))) in
            let u = no_false (is_so plan) (Given c n) h (inr (inr (inr (inl refl)))) in
            let x = so_in e f.0 b in
            let y = so_in c n u in
            let l = so_not c f.0 y g in
            let o = so_step e f.0 b in
            true≢false (sym (and_both (has_command plan e && has_command plan c) _ (and_both (has_command plan e) _ (has_from (commands plan) e x) (has_from (commands plan) c y)) (le-leb _ _ (omega arith))) ∙ a))

    pub all_given_holds : (k : ℕ) (cl : Clause) → In cl (all_given d routes n k) → holds (is_so plan) cl ≡ true
    all_given_holds k cl m =
        let f = in_map_back (λ c. no (By k) ∷ no (Given c n) ∷ yes (Given c k) ∷ []) (all_commands d routes) cl m in
        at_clause (is_so plan) f.2 (λ h.
        let a = no_false (is_so plan) (By k) h (inl refl) in
        let x = so_in f.0 n (no_false (is_so plan) (Given f.0 n) h (inr (inl refl))) in
        let b = yes_false (is_so plan) (Given f.0 k) h (inr (inr (inl refl))) in
        let l = leb-true _ _ (list_all_at (λ c. nat_le (step_of plan c) k) (commands plan) f.0 a x) in
        true≢false (sym (so_from f.0 k x l) ∙ b))
