-- What is left of each family of clauses where dead variables are false.
use Rattle.std.proofs.Common.{◌≡◌, ℕ, ◌+◌, ◌-◌, ◌⊎◌, inl, inr, Bool, true, false, cond, not, ◌&&◌, if◌then◌else◌, List, [], ◌∷◌, ◌++◌, map, flat_map, filter, length, nat_lt, refl, ap, ap₂, subst, ◌∙◌}
use Rattle.std.specs.List.{list_all}
use Rattle.rail_base.specs.declared.station.Station.{Station}
use Rattle.rail_base.specs.declared.station.TrainNo.{TrainNo}
use Rattle.rail_base.specs.declared.route.Route.{Route}
use Rattle.rail_base.specs.declared.route.RouteNo.{RouteNo}
use Rattle.rail_base.specs.declared.route.Start.{Start}
use Rattle.rail_base.specs.declared.route.Start.TheVariants as start
use Rattle.rail_base.specs.declared.plan.Command.{Command}
use Rattle.rail_base.specs.Numbering.{entry, one_to}
use Rattle.rail_base.specs.Stations.{first_visit, train_of, trains}
use Rattle.rail_base.proofs.Members.{In, and_left, and_right, filter-append, list_all_at}
use Rattle.rail_base.proofs.Lists.{in_append_left, in_append_right, in_map}
use Rattle.rail_spec.specs.Plans.{all_commands, has_node, route_at, route_numbers}
use Rattle.clause_spec.specs.declared.question.Turns.{Turns}
use Rattle.clause_spec.specs.Variables.{Given, Before, By, yes, no, if_given, pairs}
use Rattle.clause_spec.specs.Clauses.{Clause, all_given, chains, clearing, exclude, excluded, first_pairs, in_order, later_pairs, leading_to, makes_visits, may_visit, not_at_once, not_both, onward, start_clause, starts_rightly, stays_given, visited, wait_clause, waits}
use Rattle.clause_spec.proofs.Steps.{cmd}
use Rattle.alike_clause_spec.specs.Turns.{beginnings, begun_always, has_begun, in_turn, turn_pairs}
use Rattle.live_clause_spec.specs.Variables.{both_live, is_dead, live_commands, live_pairs}
use Rattle.live_clause_spec.specs.Clauses.{clauses_left, denies_dead, with_dead_false}
use Rattle.live_clause_spec.specs.Listed.{is_live_for, live_all_given, live_beginnings, live_clauses, live_excluded, live_first_pairs, live_has_begun, live_in_turn, live_leading_to, live_makes_visits, live_onward, live_start_clause, live_starts_rightly, live_visited, live_wait_clause, live_waits}
use Rattle.live_clause_spec.proofs.ChainsLeft.{all_live, begins_so, chains_left}
use Rattle.live_clause_spec.proofs.Leaving.{Leaves, alive_given, all_left_of, all_rows_left, both_left, dead_given, denies_in, each_given, given_if, if_given_stays, kept_left, no_rows_left, none_given, none_left, nothing, one_gone, one_left, rows_left, with_both, with_no, with_yes}
use Rattle.live_clause_spec.proofs.Lists.{filter_both, filter_map, filter_none}

-- one of the two is false
not_both_true : (a b : Bool) → (a && b) ≡ false → (a ≡ false) ⊎ (b ≡ false)
not_both_true true b h = inr h
not_both_true false b h = inl refl

module _ (live : Command → Bool) (d : Station) (routes : List Route) (n : ℕ) where
  -- ---- what is given stays given

  pub stays_left : with_dead_false live (flat_map (stays_given d routes n) (all_commands d routes)) ≡ flat_map (stays_given d routes n) (live_commands live d routes)
  stays_left = rows_left live (stays_given d routes n) (stays_given d routes n) live (all_commands d routes)
      (λ c m h. all_left_of live (clause c) (clause c) (one_to (n - 1)) (λ i k. with_no live (Given c i) (yes (Given c (i + 1)) ∷ []) (yes (Given c (i + 1)) ∷ []) (alive_given live c i h) (with_yes live (Given c (i + 1)) [] [] (alive_given live c (i + 1) h) (nothing live))))
      (λ c m h. none_left live (clause c) (one_to (n - 1)) (λ i k. denies_in live (clause c i) (Given c i) (inl refl) (dead_given live c i h)))
    where
      clause : Command → ℕ → Clause
      clause c i = no (Given c i) ∷ yes (Given c (i + 1)) ∷ []

  -- ---- starts

  start_left : (c : Command) → live c ≡ true → (s : Start) (i : ℕ) → with_dead_false live (start_clause d routes n c s i) ≡ live_start_clause live d routes n c s i
  start_left c h (start.Boundary m) i = go (has_node (first_visit (train_of d c.train)) m)
    where
      go : (b : Bool) → with_dead_false live (if b then [] else (no (Given c i) ∷ []) ∷ []) ≡ (if b then [] else (no (Given c i) ∷ []) ∷ [])
      go true = refl
      go false = one_left live (no (Given c i) ∷ []) (no (Given c i) ∷ []) [] (with_no live (Given c i) [] [] (alive_given live c i h) (nothing live))
  start_left c h (start.Signal s) i =
      one_left live (no (Given c i) ∷ flat_map (λ q. if_given (cmd c.train q) (i - 1)) (leading_to routes (start.Signal s))) (no (Given c i) ∷ flat_map (λ q. if_given (cmd c.train q) (i - 1)) (live_leading_to live routes c.train (start.Signal s))) []
      (with_no live (Given c i) (flat_map (λ q. if_given (cmd c.train q) (i - 1)) (leading_to routes (start.Signal s))) (flat_map (λ q. if_given (cmd c.train q) (i - 1)) (live_leading_to live routes c.train (start.Signal s))) (alive_given live c i h) (given_if live c.train (leading_to routes (start.Signal s)) (i - 1)))

  start_gone : (c : Command) → live c ≡ false → (s : Start) (i : ℕ) → with_dead_false live (start_clause d routes n c s i) ≡ []
  start_gone c h (start.Boundary m) i = go (has_node (first_visit (train_of d c.train)) m)
    where
      go : (b : Bool) → with_dead_false live (if b then [] else (no (Given c i) ∷ []) ∷ []) ≡ []
      go true = refl
      go false = one_gone live (no (Given c i) ∷ []) [] (denies_in live (no (Given c i) ∷ []) (Given c i) (inl refl) (dead_given live c i h))
  start_gone c h (start.Signal s) i =
      let cl : Clause = no (Given c i) ∷ flat_map (λ q. if_given (cmd c.train q) (i - 1)) (leading_to routes (start.Signal s)) in
      one_gone live cl [] (denies_in live cl (Given c i) (inl refl) (dead_given live c i h))

  pub starts_left : with_dead_false live (flat_map (starts_rightly d routes n) (all_commands d routes)) ≡ flat_map (live_starts_rightly live d routes n) (live_commands live d routes)
  starts_left = rows_left live (starts_rightly d routes n) (live_starts_rightly live d routes n) live (all_commands d routes)
      (λ c m h. all_rows_left live (start_clause d routes n c (route_at routes c.route).start) (live_start_clause live d routes n c (route_at routes c.route).start) (one_to n) (λ i k. start_left c h (route_at routes c.route).start i))
      (λ c m h. no_rows_left live (start_clause d routes n c (route_at routes c.route).start) (one_to n) (λ i k. start_gone c h (route_at routes c.route).start i))

  -- ---- routes that exclude each other

  abbrev both_for : TrainNo → RouteNo × RouteNo → Bool
  both_for t p = is_live_for live t p.0 && is_live_for live t p.1

  later_left : (t : TrainNo) (rs : List RouteNo) → filter (λ (p : RouteNo × RouteNo). is_live_for live t p.0 && is_live_for live t p.1) (later_pairs rs) ≡ later_pairs (filter (is_live_for live t) rs)
  later_left t [] = refl
  later_left t (r ∷ rs) = filter-append (both_for t) (map (λ q. (r, q)) rs) (later_pairs rs) ∙ go (is_live_for live t r) refl (later_left t rs)
    where
      with : RouteNo → RouteNo × RouteNo
      with q = (r, q)

      go : (b : Bool) → is_live_for live t r ≡ b → filter (both_for t) (later_pairs rs) ≡ later_pairs (filter (is_live_for live t) rs)
          → filter (both_for t) (map (λ q. (r, q)) rs) ++ filter (both_for t) (later_pairs rs) ≡ later_pairs (cond b (r ∷ filter (is_live_for live t) rs) (filter (is_live_for live t) rs))
      go true e rest = ap₂ (λ xs ys. xs ++ ys) (filter_map (both_for t) (is_live_for live t) with rs (λ q m. ap (λ b. b && is_live_for live t q) e)) rest
      go false e rest = ap₂ (λ xs ys. xs ++ ys) (filter_map (both_for t) (λ q. false) with rs (λ q m. ap (λ b. b && is_live_for live t q) e) ∙ ap (map with) (filter_none (λ q. false) rs (λ q m. refl))) rest

  abbrev excludes : RouteNo × RouteNo → Bool
  excludes p = exclude (route_at routes p.0) (route_at routes p.1)

  excluded_left : (t : TrainNo) → with_dead_false live (excluded d routes n t) ≡ live_excluded live d routes n t
  excluded_left t =
      kept_left live (not_both d routes n t) (not_both d routes n t) (both_for t) (filter excludes (later_pairs (route_numbers routes)))
      (λ p m h. (
      let a = and_left (is_live_for live t p.0) (is_live_for live t p.1) h in
      let b = and_right (is_live_for live t p.0) (is_live_for live t p.1) h in
      with_no live (Given (cmd t p.0) n) (no (Given (cmd t p.1) n) ∷ []) (no (Given (cmd t p.1) n) ∷ []) (alive_given live (cmd t p.0) n a) (with_no live (Given (cmd t p.1) n) [] [] (alive_given live (cmd t p.1) n b) (nothing live))))
      (λ p m h. gone p (not_both_true (is_live_for live t p.0) (is_live_for live t p.1) h))
      ∙ ap (map (not_both d routes n t)) (filter_both (both_for t) excludes (later_pairs (route_numbers routes)) ∙ ap (filter excludes) (later_left t (route_numbers routes)))
    where
      gone : (p : RouteNo × RouteNo) → (is_live_for live t p.0 ≡ false) ⊎ (is_live_for live t p.1 ≡ false) → denies_dead live (not_both d routes n t p) ≡ true
      gone p (inl h) = denies_in live (not_both d routes n t p) (Given (cmd t p.0) n) (inl refl) (dead_given live (cmd t p.0) n h)
      gone p (inr h) = denies_in live (not_both d routes n t p) (Given (cmd t p.1) n) (inr (inl refl)) (dead_given live (cmd t p.1) n h)

  pub excludes_left : with_dead_false live (flat_map (excluded d routes n) (trains d)) ≡ flat_map (live_excluded live d routes n) (trains d)
  excludes_left = all_rows_left live (excluded d routes n) (live_excluded live d routes n) (trains d) (λ t m. excluded_left t)

  -- ---- commands in one step

  abbrev apart_clause : Command × Command → ℕ → Clause
  apart_clause p i = no (Given p.0 i) ∷ if_given p.0 (i - 1) ++ no (Given p.1 i) ∷ if_given p.1 (i - 1)

  apart_stays : (p : Command × Command) → live p.0 ≡ true → live p.1 ≡ true → (i : ℕ) → Leaves live (apart_clause p i) (apart_clause p i)
  apart_stays p a b i =
      let last : Clause = no (Given p.1 i) ∷ if_given p.1 (i - 1) in
      let rest : Clause = if_given p.0 (i - 1) ++ last in
      with_no live (Given p.0 i) rest rest (alive_given live p.0 i a)
      (with_both live (if_given p.0 (i - 1)) last (if_given p.0 (i - 1)) last (if_given_stays live p.0 (i - 1) a) (with_no live (Given p.1 i) (if_given p.1 (i - 1)) (if_given p.1 (i - 1)) (alive_given live p.1 i b) (if_given_stays live p.1 (i - 1) b)))

  apart_goes : (p : Command × Command) → (live p.0 ≡ false) ⊎ (live p.1 ≡ false) → (i : ℕ) → denies_dead live (apart_clause p i) ≡ true
  apart_goes p (inl h) i = denies_in live (apart_clause p i) (Given p.0 i) (inl refl) (dead_given live p.0 i h)
  apart_goes p (inr h) i = denies_in live (apart_clause p i) (Given p.1 i) (inr (in_append_right (no (Given p.1 i)) (if_given p.0 (i - 1)) (no (Given p.1 i) ∷ if_given p.1 (i - 1)) (inl refl))) (dead_given live p.1 i h)

  pub apart_left : with_dead_false live (flat_map (not_at_once d routes n) (first_pairs d routes n)) ≡ flat_map (not_at_once d routes n) (live_first_pairs live d routes n)
  apart_left =
      rows_left live (not_at_once d routes n) (not_at_once d routes n) (both_live live) (first_pairs d routes n)
      (λ p m h. all_left_of live (apart_clause p) (apart_clause p) (one_to n) (λ i k. apart_stays p (and_left (live p.0) (live p.1) h) (and_right (live p.0) (live p.1) h) i))
      (λ p m h. none_left live (apart_clause p) (one_to n) (λ i k. apart_goes p (not_both_true (live p.0) (live p.1) h) i))
      ∙ ap (flat_map (not_at_once d routes n)) (filter_both (both_live live) (λ (p : Command × Command). nat_lt p.0.train.0 p.1.train.0) (pairs d routes))

  -- ---- room to clear

  wait_stays : (e c : Command) (chain : List RouteNo × RouteNo) (i : ℕ) → live c ≡ true → all_live live routes e.train chain ≡ true → Leaves live (wait_clause d routes n e c chain i) (live_wait_clause live d routes n e c chain i)
  wait_stays e c chain i h k =
      let given : Clause = map (λ w. no (Given (cmd e.train w) i)) chain.0 in
      let ahead : Clause = map (λ w. yes (Given (cmd e.train w) i)) (onward routes chain.0 chain.1) in
      let live_ahead : Clause = map (λ w. yes (Given (cmd e.train w) i)) (live_onward live routes e.train chain.0 chain.1) in
      with_both live given (no (Given c (i + 1)) ∷ yes (Given c i) ∷ ahead) given (no (Given c (i + 1)) ∷ yes (Given c i) ∷ live_ahead)
      (none_given live e.train chain.0 i (λ r m. list_all_at (is_live_for live e.train) chain.0 r k m))
      (with_no live (Given c (i + 1)) (yes (Given c i) ∷ ahead) (yes (Given c i) ∷ live_ahead) (alive_given live c (i + 1) h)
      (with_yes live (Given c i) ahead live_ahead (alive_given live c i h) (each_given live e.train (onward routes chain.0 chain.1) i)))

  -- a chain with a route that isn't live
  wait_goes : (e c : Command) (chain : List RouteNo × RouteNo) (i : ℕ) (r : RouteNo) → In r chain.0 → is_live_for live e.train r ≡ false → denies_dead live (wait_clause d routes n e c chain i) ≡ true
  wait_goes e c chain i r m h =
      let given : Clause = map (λ w. no (Given (cmd e.train w) i)) chain.0 in
      let rest : Clause = no (Given c (i + 1)) ∷ yes (Given c i) ∷ map (λ w. yes (Given (cmd e.train w) i)) (onward routes chain.0 chain.1) in
      denies_in live (wait_clause d routes n e c chain i) (Given (cmd e.train r) i) (in_append_left (no (Given (cmd e.train r) i)) given rest (in_map (λ w. no (Given (cmd e.train w) i)) chain.0 r m)) (dead_given live (cmd e.train r) i h)

  waits_for_none : (e c : Command) (chain : List RouteNo × RouteNo) (i : ℕ) → live c ≡ false → denies_dead live (wait_clause d routes n e c chain i) ≡ true
  waits_for_none e c chain i h =
      let given : Clause = map (λ w. no (Given (cmd e.train w) i)) chain.0 in
      let rest : Clause = no (Given c (i + 1)) ∷ yes (Given c i) ∷ map (λ w. yes (Given (cmd e.train w) i)) (onward routes chain.0 chain.1) in
      denies_in live (wait_clause d routes n e c chain i) (Given c (i + 1)) (in_append_right (no (Given c (i + 1))) given rest (inl refl)) (dead_given live c (i + 1) h)

  some_dead : (t : TrainNo) (rs : List RouteNo) → list_all (is_live_for live t) rs ≡ false → (r : RouteNo) × In r rs × (is_live_for live t r ≡ false)
  some_dead t [] h = absurd (cc)
  some_dead t (r ∷ rs) h = go (is_live_for live t r) refl h (some_dead t rs)
    where
      later : (q : RouteNo) × In q rs × (is_live_for live t q ≡ false) → (q : RouteNo) × In q (r ∷ rs) × (is_live_for live t q ≡ false)
      later (q, m, e) = (q, inr m, e)

      go : (b : Bool) → is_live_for live t r ≡ b → (b && list_all (is_live_for live t) rs) ≡ false → (list_all (is_live_for live t) rs ≡ false → (q : RouteNo) × In q rs × (is_live_for live t q ≡ false)) → (q : RouteNo) × In q (r ∷ rs) × (is_live_for live t q ≡ false)
      go true e k rest = later (rest k)
      go false e k rest = (r, inl refl, e)

  abbrev its_chains : Command × Command → List (List RouteNo × RouteNo)
  its_chains p = chains routes (length routes) (clearing d routes n p.0 p.1) [] p.0.route

  pair_waits : (p : Command × Command) → live p.0 ≡ true → live p.1 ≡ true → with_dead_false live (waits d routes n p) ≡ live_waits live d routes n p
  pair_waits p a b =
      rows_left live (λ chain. map (wait_clause d routes n p.0 p.1 chain) (one_to (n - 1))) (λ chain. map (live_wait_clause live d routes n p.0 p.1 chain) (one_to (n - 1))) (all_live live routes p.0.train) (its_chains p)
      (λ chain m h. all_left_of live (wait_clause d routes n p.0 p.1 chain) (live_wait_clause live d routes n p.0 p.1 chain) (one_to (n - 1)) (λ i k. wait_stays p.0 p.1 chain i b h))
      (λ chain m h. (let s = some_dead p.0.train chain.0 h in none_left live (wait_clause d routes n p.0 p.1 chain) (one_to (n - 1)) (λ i k. wait_goes p.0 p.1 chain i s.0 s.1 s.2)))
      ∙ ap (flat_map (λ chain. map (live_wait_clause live d routes n p.0 p.1 chain) (one_to (n - 1)))) (chains_left live routes p.0.train (length routes) (clearing d routes n p.0 p.1) [] p.0.route (λ r m. absurd m) a)

  pair_free : (p : Command × Command) → (live p.0 ≡ false) ⊎ (live p.1 ≡ false) → with_dead_false live (waits d routes n p) ≡ []
  pair_free p (inl h) = no_rows_left live (λ chain. map (wait_clause d routes n p.0 p.1 chain) (one_to (n - 1))) (its_chains p)
      (λ chain m. none_left live (wait_clause d routes n p.0 p.1 chain) (one_to (n - 1)) (λ i k. wait_goes p.0 p.1 chain i p.0.route (begins_so live routes p.0.train (length routes) (clearing d routes n p.0 p.1) [] p.0.route chain m p.0.route (inl refl)) h))
  pair_free p (inr h) = no_rows_left live (λ chain. map (wait_clause d routes n p.0 p.1 chain) (one_to (n - 1))) (its_chains p)
      (λ chain m. none_left live (wait_clause d routes n p.0 p.1 chain) (one_to (n - 1)) (λ i k. waits_for_none p.0 p.1 chain i h))

  pub waits_left : with_dead_false live (flat_map (waits d routes n) (pairs d routes)) ≡ flat_map (live_waits live d routes n) (live_pairs live d routes)
  waits_left = rows_left live (waits d routes n) (live_waits live d routes n) (both_live live) (pairs d routes)
      (λ p m h. pair_waits p (and_left (live p.0) (live p.1) h) (and_right (live p.0) (live p.1) h))
      (λ p m h. pair_free p (not_both_true (live p.0) (live p.1) h))

  -- ---- visits

  pub visits_left : with_dead_false live (flat_map (makes_visits d routes n) (trains d)) ≡ flat_map (live_makes_visits live d routes n) (trains d)
  visits_left = all_rows_left live (makes_visits d routes n) (live_makes_visits live d routes n) (trains d)
      (λ t m. all_left_of live (visited d routes n t) (live_visited live d routes n t) (one_to (length (train_of d t).visits)) (λ k j. one t k))
    where
      one : (t : TrainNo) (k : ℕ) → Leaves live (visited d routes n t k) (live_visited live d routes n t k)
      one t k =
          let may : RouteNo → Bool = may_visit d routes n k (entry [] (train_of d t).visits k) in
          subst (λ rs. Leaves live (visited d routes n t k) (map (λ r. yes (Given (cmd t r) n)) rs)) (filter_both (is_live_for live t) may (route_numbers routes)) (each_given live t (filter may (route_numbers routes)) n)

  -- ---- which of two commands is given before the other

  abbrev first_order : Command × Command → Clause
  first_order p = no (Before p.0 p.1) ∷ yes (Given p.1 n) ∷ []

  abbrev second_order : Command × Command → ℕ → Clause
  second_order p i = no (Before p.0 p.1) ∷ no (Given p.1 i) ∷ if_given p.0 (i - 1)

  abbrev third_order : Command × Command → ℕ → Clause
  third_order p i = yes (Before p.0 p.1) ∷ no (Given p.0 i) ∷ yes (Given p.1 i) ∷ no (Given p.1 n) ∷ []

  order_stays : (p : Command × Command) → both_live live p ≡ true → with_dead_false live (in_order d routes n p) ≡ in_order d routes n p
  order_stays p h =
      let a = and_left (live p.0) (live p.1) h in
      let b = and_right (live p.0) (live p.1) h in
      let before : is_dead live (Before p.0 p.1) ≡ false = ap not h in
      let one = with_no live (Before p.0 p.1) (yes (Given p.1 n) ∷ []) (yes (Given p.1 n) ∷ []) before (with_yes live (Given p.1 n) [] [] (alive_given live p.1 n b) (nothing live)) in
      one_left live (first_order p) (first_order p) (map (second_order p) (one_to n) ++ map (third_order p) (one_to (n - 1))) one
      ∙ ap (λ cls. first_order p ∷ cls) (both_left live (map (second_order p) (one_to n)) (map (third_order p) (one_to (n - 1)))
      ∙ ap₂ (λ xs ys. xs ++ ys) (all_left_of live (second_order p) (second_order p) (one_to n) (λ i k. second a b before i)) (all_left_of live (third_order p) (third_order p) (one_to (n - 1)) (λ i k. third a b before i)))
    where
      second : live p.0 ≡ true → live p.1 ≡ true → is_dead live (Before p.0 p.1) ≡ false → (i : ℕ) → Leaves live (second_order p i) (second_order p i)
      second a b before i =
          let rest : Clause = no (Given p.1 i) ∷ if_given p.0 (i - 1) in
          with_no live (Before p.0 p.1) rest rest before (with_no live (Given p.1 i) (if_given p.0 (i - 1)) (if_given p.0 (i - 1)) (alive_given live p.1 i b) (if_given_stays live p.0 (i - 1) a))

      third : live p.0 ≡ true → live p.1 ≡ true → is_dead live (Before p.0 p.1) ≡ false → (i : ℕ) → Leaves live (third_order p i) (third_order p i)
      third a b before i =
          let last : Clause = no (Given p.1 n) ∷ [] in
          let two : Clause = yes (Given p.1 i) ∷ last in
          let one : Clause = no (Given p.0 i) ∷ two in
          with_yes live (Before p.0 p.1) one one before
          (with_no live (Given p.0 i) two two (alive_given live p.0 i a) (with_yes live (Given p.1 i) last last (alive_given live p.1 i b) (with_no live (Given p.1 n) [] [] (alive_given live p.1 n b) (nothing live))))

  order_goes : (p : Command × Command) → both_live live p ≡ false → with_dead_false live (in_order d routes n p) ≡ []
  order_goes p h =
      let before : is_dead live (Before p.0 p.1) ≡ true = ap not h in
      one_gone live (first_order p) (map (second_order p) (one_to n) ++ map (third_order p) (one_to (n - 1))) (denies_in live (first_order p) (Before p.0 p.1) (inl refl) before)
      ∙ (both_left live (map (second_order p) (one_to n)) (map (third_order p) (one_to (n - 1)))
      ∙ ap₂ (λ xs ys. xs ++ ys) (none_left live (second_order p) (one_to n) (λ i k. denies_in live (second_order p i) (Before p.0 p.1) (inl refl) before)) (none_left live (third_order p) (one_to (n - 1)) (λ i k. third i (not_both_true (live p.0) (live p.1) h))))
    where
      third : (i : ℕ) → (live p.0 ≡ false) ⊎ (live p.1 ≡ false) → denies_dead live (third_order p i) ≡ true
      third i (inl e) = denies_in live (third_order p i) (Given p.0 i) (inr (inl refl)) (dead_given live p.0 i e)
      third i (inr e) = denies_in live (third_order p i) (Given p.1 n) (inr (inr (inr (inl refl)))) (dead_given live p.1 n e)

  pub orders_left : with_dead_false live (flat_map (in_order d routes n) (pairs d routes)) ≡ flat_map (in_order d routes n) (live_pairs live d routes)
  orders_left = rows_left live (in_order d routes n) (in_order d routes n) (both_live live) (pairs d routes) (λ p m h. order_stays p h) (λ p m h. order_goes p h)

  -- ---- by which step all is given

  abbrev given_clause : ℕ → Command → Clause
  given_clause k c = no (By k) ∷ no (Given c n) ∷ yes (Given c k) ∷ []

  pub given_left : with_dead_false live (flat_map (all_given d routes n) (one_to (n - 1))) ≡ flat_map (live_all_given live d routes n) (one_to (n - 1))
  given_left = all_rows_left live (all_given d routes n) (live_all_given live d routes n) (one_to (n - 1))
      (λ k m. kept_left live (given_clause k) (given_clause k) live (all_commands d routes)
      (λ c j h. stays k c h)
      (λ c j h. denies_in live (given_clause k c) (Given c n) (inr (inl refl)) (dead_given live c n h)))
    where
      stays : (k : ℕ) (c : Command) → live c ≡ true → Leaves live (given_clause k c) (given_clause k c)
      stays k c h =
          let last : Clause = yes (Given c k) ∷ [] in
          let two : Clause = no (Given c n) ∷ last in
          with_no live (By k) two two refl (with_no live (Given c n) last last (alive_given live c n h) (with_yes live (Given c k) [] [] (alive_given live c k h) (nothing live)))

  -- ---- trains in turn

  turn_left : (p : TrainNo × TrainNo) → with_dead_false live (in_turn d routes n p) ≡ live_in_turn live d routes n p
  turn_left p = rows_left live (begun_always d routes n p) (λ q. map (live_has_begun live d routes n p q) (one_to n)) (is_live_for live p.1) (beginnings d routes n p.1)
      (λ q m h. all_left_of live (has_begun d routes n p q) (live_has_begun live d routes n p q) (one_to n) (λ i k. stays q i h))
      (λ q m h. none_left live (has_begun d routes n p q) (one_to n) (λ i k. denies_in live (has_begun d routes n p q i) (Given (cmd p.1 q) i) (inl refl) (dead_given live (cmd p.1 q) i h)))
    where
      stays : (q : RouteNo) (i : ℕ) → is_live_for live p.1 q ≡ true → Leaves live (has_begun d routes n p q i) (live_has_begun live d routes n p q i)
      stays q i h =
          with_no live (Given (cmd p.1 q) i) (map (λ r. yes (Given (cmd p.0 r) i)) (beginnings d routes n p.0)) (map (λ r. yes (Given (cmd p.0 r) i)) (live_beginnings live d routes n p.0)) (alive_given live (cmd p.1 q) i h)
          (each_given live p.0 (beginnings d routes n p.0) i)

  pub turns_left : (turns : Turns) → with_dead_false live (flat_map (in_turn d routes n) (turn_pairs turns d)) ≡ flat_map (live_in_turn live d routes n) (turn_pairs turns d)
  turns_left turns = all_rows_left live (in_turn d routes n) (live_in_turn live d routes n) (turn_pairs turns d) (λ p m. turn_left p)

  -- ---- all of them

  joined : (xs ys us vs : List Clause) → with_dead_false live xs ≡ us → with_dead_false live ys ≡ vs → with_dead_false live (xs ++ ys) ≡ us ++ vs
  joined xs ys us vs a b = both_left live xs ys ∙ ap₂ (λ ps qs. ps ++ qs) a b

  pub left_is_listed : (turns : Turns) → clauses_left turns live d routes n ≡ live_clauses turns live d routes n
  left_is_listed turns =
      let f1 = flat_map (stays_given d routes n) (all_commands d routes) in
      let f2 = flat_map (starts_rightly d routes n) (all_commands d routes) in
      let f3 = flat_map (excluded d routes n) (trains d) in
      let f4 = flat_map (not_at_once d routes n) (first_pairs d routes n) in
      let f5 = flat_map (waits d routes n) (pairs d routes) in
      let f6 = flat_map (makes_visits d routes n) (trains d) in
      let f7 = flat_map (in_order d routes n) (pairs d routes) in
      let f8 = flat_map (all_given d routes n) (one_to (n - 1)) in
      let f9 = flat_map (in_turn d routes n) (turn_pairs turns d) in
      let g1 = flat_map (stays_given d routes n) (live_commands live d routes) in
      let g2 = flat_map (live_starts_rightly live d routes n) (live_commands live d routes) in
      let g3 = flat_map (live_excluded live d routes n) (trains d) in
      let g4 = flat_map (not_at_once d routes n) (live_first_pairs live d routes n) in
      let g5 = flat_map (live_waits live d routes n) (live_pairs live d routes) in
      let g6 = flat_map (live_makes_visits live d routes n) (trains d) in
      let g7 = flat_map (in_order d routes n) (live_pairs live d routes) in
      let g8 = flat_map (live_all_given live d routes n) (one_to (n - 1)) in
      let g9 = flat_map (live_in_turn live d routes n) (turn_pairs turns d) in
      joined (f1 ++ f2 ++ f3 ++ f4 ++ f5 ++ f6 ++ f7 ++ f8) f9 (g1 ++ g2 ++ g3 ++ g4 ++ g5 ++ g6 ++ g7 ++ g8) g9
      (joined (f1 ++ f2 ++ f3 ++ f4 ++ f5 ++ f6 ++ f7) f8 (g1 ++ g2 ++ g3 ++ g4 ++ g5 ++ g6 ++ g7) g8
      (joined (f1 ++ f2 ++ f3 ++ f4 ++ f5 ++ f6) f7 (g1 ++ g2 ++ g3 ++ g4 ++ g5 ++ g6) g7
      (joined (f1 ++ f2 ++ f3 ++ f4 ++ f5) f6 (g1 ++ g2 ++ g3 ++ g4 ++ g5) g6
      (joined (f1 ++ f2 ++ f3 ++ f4) f5 (g1 ++ g2 ++ g3 ++ g4) g5
      (joined (f1 ++ f2 ++ f3) f4 (g1 ++ g2 ++ g3) g4
      (joined (f1 ++ f2) f3 (g1 ++ g2) g3
      (joined f1 f2 g1 g2 stays_left starts_left) excludes_left) apart_left) waits_left) visits_left) orders_left) given_left) (turns_left turns)
