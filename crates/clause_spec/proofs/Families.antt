-- Each clause is of one of the families, and its variables are those that there are.
use Rattle.std.proofs.Common.{◌≡◌, ℕ, zero, suc, ◌+◌, ◌-◌, ◌≤◌, ◌<◌, ◌⊎◌, inl, inr, Bool, true, false, not, ◌&&◌, if◌then◌else◌, List, [], ◌∷◌, ◌++◌, map, flat_map, filter, length, sym, subst, arith, nat_lt}
use Rattle.rail_base.specs.declared.station.Station.{Station}
use Rattle.rail_base.specs.declared.station.TrainNo.{TrainNo}
use Rattle.rail_base.specs.declared.route.Route.{Route}
use Rattle.rail_base.specs.declared.route.RouteNo.{RouteNo}
use Rattle.rail_base.specs.declared.route.Start.{Start}
use Rattle.rail_base.specs.declared.route.Start.TheVariants as start
use Rattle.rail_base.specs.declared.plan.Command.{Command}
use Rattle.rail_base.specs.Numbering.{one_to, entry}
use Rattle.rail_base.specs.Stations.{trains, train_of, first_visit}
use Rattle.rail_spec.specs.Plans.{route_at, exits, has_node, goes_on, route_numbers, all_commands}
use Rattle.rail_base.proofs.Members.{In}
use Rattle.clause_spec.specs.Variables.{Given, Before, By, Literal, yes, no, if_given, pairs}
use Rattle.clause_spec.specs.Clauses.{Clause, exclude, later_pairs, leading_to, extends, onward, chain_length, chains, stays_given, start_clause, starts_rightly, not_both, excluded, not_at_once, first_pairs, clearing, wait_clause, waits, may_visit, visited, makes_visits, in_order, all_given, clauses}
use Rattle.clause_spec.proofs.Lists.{in_later}
use Rattle.clause_spec.proofs.Steps.{cmd}
use Rattle.clause_spec.proofs.Places.{IsOf, command_of, command_from, distinct_routes, IsPair, pair_of}
use Rattle.clause_spec.proofs.Numbers.{Known}
use Rattle.rail_base.proofs.Lists.{in_map_back, in_flat_map_back, in_flat_map, in_filter_back, in_count_back, in_append_left, in_append_right, in_append}

-- what holds of each family holds of all clauses
pub record OfEach (d : Station) (routes : List Route) (n : ℕ) (P : Clause → Type 0) : Type 0 where
  pub stays : (c : Command) → In c (all_commands d routes) → (cl : Clause) → In cl (stays_given d routes n c) → P cl
  pub starts : (c : Command) → In c (all_commands d routes) → (cl : Clause) → In cl (starts_rightly d routes n c) → P cl
  pub excludes : (t : TrainNo) → In t (trains d) → (cl : Clause) → In cl (excluded d routes n t) → P cl
  pub apart : (p : Command × Command) → In p (first_pairs d routes n) → (cl : Clause) → In cl (not_at_once d routes n p) → P cl
  pub waits : (p : Command × Command) → In p (pairs d routes) → (cl : Clause) → In cl (waits d routes n p) → P cl
  pub visits : (t : TrainNo) → In t (trains d) → (cl : Clause) → In cl (makes_visits d routes n t) → P cl
  pub orders : (p : Command × Command) → In p (pairs d routes) → (cl : Clause) → In cl (in_order d routes n p) → P cl
  pub ends : (k : ℕ) → In k (one_to (n - 1)) → (cl : Clause) → In cl (all_given d routes n k) → P cl

module _ (d : Station) (routes : List Route) (n : ℕ) where
  abbrev f1 : List Clause
  f1 = flat_map (stays_given d routes n) (all_commands d routes)

  abbrev f2 : List Clause
  f2 = flat_map (starts_rightly d routes n) (all_commands d routes)

  abbrev f3 : List Clause
  f3 = flat_map (excluded d routes n) (trains d)

  abbrev f4 : List Clause
  f4 = flat_map (not_at_once d routes n) (first_pairs d routes n)

  abbrev f5 : List Clause
  f5 = flat_map (waits d routes n) (pairs d routes)

  abbrev f6 : List Clause
  f6 = flat_map (makes_visits d routes n) (trains d)

  abbrev f7 : List Clause
  f7 = flat_map (in_order d routes n) (pairs d routes)

  abbrev f8 : List Clause
  f8 = flat_map (all_given d routes n) (one_to (n - 1))

  pub by_family : (P : Clause → Type 0) → OfEach d routes n P → (cl : Clause) → In cl (clauses d routes n) → P cl
  by_family P of cl m = go7 (in_append cl (f1 ++ f2 ++ f3 ++ f4 ++ f5 ++ f6 ++ f7) f8 m)
    where
      go1 : In cl f1 → P cl
      go1 k = let x = in_flat_map_back (stays_given d routes n) (all_commands d routes) cl k in of.stays x.0 x.1 cl x.2

      go2 : In cl f1 ⊎ In cl f2 → P cl
      go2 (inl k) = go1 k
      go2 (inr k) = let x = in_flat_map_back (starts_rightly d routes n) (all_commands d routes) cl k in of.starts x.0 x.1 cl x.2

      go3 : In cl (f1 ++ f2) ⊎ In cl f3 → P cl
      go3 (inl k) = go2 (in_append cl f1 f2 k)
      go3 (inr k) = let x = in_flat_map_back (excluded d routes n) (trains d) cl k in of.excludes x.0 x.1 cl x.2

      go4 : In cl (f1 ++ f2 ++ f3) ⊎ In cl f4 → P cl
      go4 (inl k) = go3 (in_append cl (f1 ++ f2) f3 k)
      go4 (inr k) = let x = in_flat_map_back (not_at_once d routes n) (first_pairs d routes n) cl k in of.apart x.0 x.1 cl x.2

      go5 : In cl (f1 ++ f2 ++ f3 ++ f4) ⊎ In cl f5 → P cl
      go5 (inl k) = go4 (in_append cl (f1 ++ f2 ++ f3) f4 k)
      go5 (inr k) = let x = in_flat_map_back (waits d routes n) (pairs d routes) cl k in of.waits x.0 x.1 cl x.2

      go6 : In cl (f1 ++ f2 ++ f3 ++ f4 ++ f5) ⊎ In cl f6 → P cl
      go6 (inl k) = go5 (in_append cl (f1 ++ f2 ++ f3 ++ f4) f5 k)
      go6 (inr k) = let x = in_flat_map_back (makes_visits d routes n) (trains d) cl k in of.visits x.0 x.1 cl x.2

      go7a : In cl (f1 ++ f2 ++ f3 ++ f4 ++ f5 ++ f6) ⊎ In cl f7 → P cl
      go7a (inl k) = go6 (in_append cl (f1 ++ f2 ++ f3 ++ f4 ++ f5) f6 k)
      go7a (inr k) = let x = in_flat_map_back (in_order d routes n) (pairs d routes) cl k in of.orders x.0 x.1 cl x.2

      go7 : In cl (f1 ++ f2 ++ f3 ++ f4 ++ f5 ++ f6 ++ f7) ⊎ In cl f8 → P cl
      go7 (inl k) = go7a (in_append cl (f1 ++ f2 ++ f3 ++ f4 ++ f5 ++ f6) f7 k)
      go7 (inr k) = let x = in_flat_map_back (all_given d routes n) (one_to (n - 1)) cl k in of.ends x.0 x.1 cl x.2

  -- what holds of all clauses holds of each family
  pub of_families : (P : Clause → Type 0) → ((cl : Clause) → In cl (clauses d routes n) → P cl) → OfEach d routes n P
  of_families P all = record {
    stays = λ c k cl m. all cl (l8 cl (l7 cl (l6 cl (l5 cl (l4 cl (l3 cl (in_append_left cl f1 f2 (in_flat_map (stays_given d routes n) (all_commands d routes) c cl k m))))))));
    starts = λ c k cl m. all cl (l8 cl (l7 cl (l6 cl (l5 cl (l4 cl (l3 cl (in_append_right cl f1 f2 (in_flat_map (starts_rightly d routes n) (all_commands d routes) c cl k m))))))));
    excludes = λ t k cl m. all cl (l8 cl (l7 cl (l6 cl (l5 cl (l4 cl (in_append_right cl (f1 ++ f2) f3 (in_flat_map (excluded d routes n) (trains d) t cl k m)))))));
    apart = λ p k cl m. all cl (l8 cl (l7 cl (l6 cl (l5 cl (in_append_right cl (f1 ++ f2 ++ f3) f4 (in_flat_map (not_at_once d routes n) (first_pairs d routes n) p cl k m))))));
    waits = λ p k cl m. all cl (l8 cl (l7 cl (l6 cl (in_append_right cl (f1 ++ f2 ++ f3 ++ f4) f5 (in_flat_map (waits d routes n) (pairs d routes) p cl k m)))));
    visits = λ t k cl m. all cl (l8 cl (l7 cl (in_append_right cl (f1 ++ f2 ++ f3 ++ f4 ++ f5) f6 (in_flat_map (makes_visits d routes n) (trains d) t cl k m))));
    orders = λ p k cl m. all cl (l8 cl (in_append_right cl (f1 ++ f2 ++ f3 ++ f4 ++ f5 ++ f6) f7 (in_flat_map (in_order d routes n) (pairs d routes) p cl k m)));
    ends = λ k h cl m. all cl (in_append_right cl (f1 ++ f2 ++ f3 ++ f4 ++ f5 ++ f6 ++ f7) f8 (in_flat_map (all_given d routes n) (one_to (n - 1)) k cl h m));
  }
    where
      l3 : (cl : Clause) → In cl (f1 ++ f2) → In cl (f1 ++ f2 ++ f3)
      l3 cl m = in_append_left cl (f1 ++ f2) f3 m

      l4 : (cl : Clause) → In cl (f1 ++ f2 ++ f3) → In cl (f1 ++ f2 ++ f3 ++ f4)
      l4 cl m = in_append_left cl (f1 ++ f2 ++ f3) f4 m

      l5 : (cl : Clause) → In cl (f1 ++ f2 ++ f3 ++ f4) → In cl (f1 ++ f2 ++ f3 ++ f4 ++ f5)
      l5 cl m = in_append_left cl (f1 ++ f2 ++ f3 ++ f4) f5 m

      l6 : (cl : Clause) → In cl (f1 ++ f2 ++ f3 ++ f4 ++ f5) → In cl (f1 ++ f2 ++ f3 ++ f4 ++ f5 ++ f6)
      l6 cl m = in_append_left cl (f1 ++ f2 ++ f3 ++ f4 ++ f5) f6 m

      l7 : (cl : Clause) → In cl (f1 ++ f2 ++ f3 ++ f4 ++ f5 ++ f6) → In cl (f1 ++ f2 ++ f3 ++ f4 ++ f5 ++ f6 ++ f7)
      l7 cl m = in_append_left cl (f1 ++ f2 ++ f3 ++ f4 ++ f5 ++ f6) f7 m

      l8 : (cl : Clause) → In cl (f1 ++ f2 ++ f3 ++ f4 ++ f5 ++ f6 ++ f7) → In cl (f1 ++ f2 ++ f3 ++ f4 ++ f5 ++ f6 ++ f7 ++ f8)
      l8 cl m = in_append_left cl (f1 ++ f2 ++ f3 ++ f4 ++ f5 ++ f6 ++ f7) f8 m

  -- ---- the variables of clauses

  abbrev pub KnownAll : Clause → Type 0
  KnownAll cl = (l : Literal) → In l cl → Known d routes n l.variable

  known_at : (v l : Literal) → v ≡ l → Known d routes n v.variable → Known d routes n l.variable
  known_at v l e k = subst (λ (x : Literal). Known d routes n x.variable) e k

  known_given : (c : Command) (j : ℕ) (l : Literal) → In c (all_commands d routes) → j ≤ n → In l (if_given c j) → Known d routes n l.variable
  known_given c zero l m h k = absurd k
  known_given c (suc j) l m h (inr k) = absurd k
  known_given c (suc j) l m h (inl e) = known_at (yes (Given c (suc j))) l e (m, omega arith, h)

  known_command : (c : Command) (i : ℕ) → In c (all_commands d routes) → 1 ≤ i → i ≤ n → Known d routes n (Given c i)
  known_command c i m h k = (m, h, k)

  pub chains_known : (more bound : ℕ) (before : List RouteNo) (w : RouteNo) (chain : List RouteNo × RouteNo) → ((r : RouteNo) → In r before → In r (route_numbers routes)) → In w (route_numbers routes) → In chain (chains routes more bound before w) → (r : RouteNo) → In r chain.0 → In r (route_numbers routes)
  chains_known zero bound before w chain b k m r i = absurd m
  chains_known (suc more) bound before w chain b k m r i = go (not (exits (route_at routes w)) && nat_lt (chain_length routes (before ++ w ∷ [])) bound) m (λ v h j. chains_known more bound (before ++ w ∷ []) v chain longer h j r i)
    where
      longer : (q : RouteNo) → In q (before ++ w ∷ []) → In q (route_numbers routes)
      longer q j = at (in_append q before (w ∷ []) j)
        where
          at : In q before ⊎ In q (w ∷ []) → In q (route_numbers routes)
          at (inl x) = b q x
          at (inr (inl e)) = subst (λ v. In v (route_numbers routes)) e k
          at (inr (inr x)) = absurd x

      go : (a : Bool) → In chain (if a then (before ++ w ∷ [], w) ∷ flat_map (chains routes more bound (before ++ w ∷ [])) (onward routes (before ++ w ∷ []) w) else [])
          → ((v : RouteNo) → In v (route_numbers routes) → In chain (chains routes more bound (before ++ w ∷ []) v) → In r (route_numbers routes)) → In r (route_numbers routes)
      go false j rest = absurd j
      go true (inl e) rest = longer r (subst (λ (c : List RouteNo × RouteNo). In r c.0) (sym e) i)
      go true (inr j) rest =
          let x = in_flat_map_back (chains routes more bound (before ++ w ∷ [])) (onward routes (before ++ w ∷ []) w) chain j in
          rest x.0 (in_filter_back (extends routes (before ++ w ∷ []) w) (route_numbers routes) x.0 x.1).0 x.2

  stays_known : (c : Command) → In c (all_commands d routes) → (cl : Clause) → In cl (stays_given d routes n c) → KnownAll cl
  stays_known c k cl m =
      let f = in_map_back (λ i. no (Given c i) ∷ yes (Given c (i + 1)) ∷ []) (one_to (n - 1)) cl m in
      let r = in_count_back 1 (n - 1) f.0 f.1 in
      subst KnownAll f.2 (go f.0 r.0 r.1)
    where
      go : (i : ℕ) → 1 ≤ i → i < 1 + (n - 1) → KnownAll (no (Given c i) ∷ yes (Given c (i + 1)) ∷ [])
      go i low high l (inl e) = known_at (no (Given c i)) l e (known_command c i k low (omega arith))
      go i low high l (inr (inl e)) = known_at (yes (Given c (i + 1))) l e (known_command c (i + 1) k (omega arith) (omega arith))
      go i low high l (inr (inr x)) = absurd x

  starts_known : (c : Command) → In c (all_commands d routes) → (cl : Clause) → In cl (starts_rightly d routes n c) → KnownAll cl
  starts_known c k cl m =
      let f = in_flat_map_back (start_clause d routes n c (route_at routes c.route).start) (one_to n) cl m in
      let r = in_count_back 1 n f.0 f.1 in
      go (route_at routes c.route).start f.0 r.0 r.1 f.2
    where
      alone : (i : ℕ) → 1 ≤ i → i < 1 + n → KnownAll (no (Given c i) ∷ [])
      alone i low high l (inl e) = known_at (no (Given c i)) l e (known_command c i k low (omega arith))
      alone i low high l (inr x) = absurd x

      led : (s : Start) (i : ℕ) → 1 ≤ i → i < 1 + n → KnownAll (no (Given c i) ∷ flat_map (λ q. if_given (cmd c.train q) (i - 1)) (leading_to routes s))
      led s i low high l (inl e) = known_at (no (Given c i)) l e (known_command c i k low (omega arith))
      led s i low high l (inr x) =
          let f = in_flat_map_back (λ q. if_given (cmd c.train q) (i - 1)) (leading_to routes s) l x in
          let g = in_filter_back (λ q. goes_on (route_at routes q).finish s) (route_numbers routes) f.0 f.1 in
          known_given (cmd c.train f.0) (i - 1) l (command_from d routes c.train f.0 (command_of d routes c k).train g.0) (omega arith) f.2

      boundary : (b : Bool) (i : ℕ) → 1 ≤ i → i < 1 + n → In cl (if b then [] else (no (Given c i) ∷ []) ∷ []) → KnownAll cl
      boundary true i low high x = absurd x
      boundary false i low high (inl e) = subst KnownAll e (alone i low high)
      boundary false i low high (inr x) = absurd x

      go : (s : Start) (i : ℕ) → 1 ≤ i → i < 1 + n → In cl (start_clause d routes n c s i) → KnownAll cl
      go (start.Boundary b) i low high x = boundary (has_node (first_visit (train_of d c.train)) b) i low high x
      go (start.Signal s) i low high (inl e) = subst KnownAll e (led (start.Signal s) i low high)
      go (start.Signal s) i low high (inr x) = absurd x

  excludes_known : 1 ≤ n → (t : TrainNo) → In t (trains d) → (cl : Clause) → In cl (excluded d routes n t) → KnownAll cl
  excludes_known some t k cl m =
      let f = in_map_back (not_both d routes n t) (filter (λ p. exclude (route_at routes p.0) (route_at routes p.1)) (later_pairs (route_numbers routes))) cl m in
      let g = in_filter_back (λ p. exclude (route_at routes p.0) (route_at routes p.1)) (later_pairs (route_numbers routes)) f.0 f.1 in
      let x = in_later (route_numbers routes) f.0 (distinct_routes routes) g.0 in
      subst KnownAll f.2 (go f.0.0 f.0.1 x.one x.other)
    where
      go : (r q : RouteNo) → In r (route_numbers routes) → In q (route_numbers routes) → KnownAll (no (Given (cmd t r) n) ∷ no (Given (cmd t q) n) ∷ [])
      go r q a b l (inl e) = known_at (no (Given (cmd t r) n)) l e (known_command (cmd t r) n (command_from d routes t r k a) some (omega arith))
      go r q a b l (inr (inl e)) = known_at (no (Given (cmd t q) n)) l e (known_command (cmd t q) n (command_from d routes t q k b) some (omega arith))
      go r q a b l (inr (inr x)) = absurd x

  apart_known : (p : Command × Command) → In p (first_pairs d routes n) → (cl : Clause) → In cl (not_at_once d routes n p) → KnownAll cl
  apart_known p k cl m =
      let j = in_filter_back (λ (p : Command × Command). nat_lt p.0.train.0 p.1.train.0) (pairs d routes) p k in
      let pair = pair_of d routes p j.0 in
      let f = in_map_back (λ i. no (Given p.0 i) ∷ if_given p.0 (i - 1) ++ no (Given p.1 i) ∷ if_given p.1 (i - 1)) (one_to n) cl m in
      let r = in_count_back 1 n f.0 f.1 in
      subst KnownAll f.2 (go p.0 p.1 f.0 pair.one pair.other r.0 r.1)
    where
      go : (e c : Command) (i : ℕ) → In e (all_commands d routes) → In c (all_commands d routes) → 1 ≤ i → i < 1 + n → KnownAll (no (Given e i) ∷ if_given e (i - 1) ++ no (Given c i) ∷ if_given c (i - 1))
      go e c i a b low high l (inl x) = known_at (no (Given e i)) l x (known_command e i a low (omega arith))
      go e c i a b low high l (inr x) = at (in_append l (if_given e (i - 1)) (no (Given c i) ∷ if_given c (i - 1)) x)
        where
          at : In l (if_given e (i - 1)) ⊎ In l (no (Given c i) ∷ if_given c (i - 1)) → Known d routes n l.variable
          at (inl y) = known_given e (i - 1) l a (omega arith) y
          at (inr (inl y)) = known_at (no (Given c i)) l y (known_command c i b low (omega arith))
          at (inr (inr y)) = known_given c (i - 1) l b (omega arith) y

  waits_known : (p : Command × Command) → In p (pairs d routes) → (cl : Clause) → In cl (waits d routes n p) → KnownAll cl
  waits_known p k cl m =
      let pair = pair_of d routes p k in
      let f = in_flat_map_back (λ chain. map (wait_clause d routes n p.0 p.1 chain) (one_to (n - 1))) (chains routes (length routes) (clearing d routes n p.0 p.1) [] p.0.route) cl m in
      let g = in_map_back (wait_clause d routes n p.0 p.1 f.0) (one_to (n - 1)) cl f.2 in
      let r = in_count_back 1 (n - 1) g.0 g.1 in
      let o = command_of d routes p.0 pair.one in
      subst KnownAll g.2 (go p.0 p.1 f.0 g.0 o pair.other (chains_known (length routes) (clearing d routes n p.0 p.1) [] p.0.route f.0 (λ q h. absurd h) o.route f.1) r.0 r.1)
    where
      go : (e c : Command) (chain : List RouteNo × RouteNo) (i : ℕ) → IsOf d routes e → In c (all_commands d routes) → ((r : RouteNo) → In r chain.0 → In r (route_numbers routes)) → 1 ≤ i → i < 1 + (n - 1) → KnownAll (wait_clause d routes n e c chain i)
      go e c chain i o b inside low high l m = at (in_append l (map (λ w. no (Given (cmd e.train w) i)) chain.0) (no (Given c (i + 1)) ∷ yes (Given c i) ∷ map (λ w. yes (Given (cmd e.train w) i)) (onward routes chain.0 chain.1)) m)
        where
          at : In l (map (λ w. no (Given (cmd e.train w) i)) chain.0) ⊎ In l (no (Given c (i + 1)) ∷ yes (Given c i) ∷ map (λ w. yes (Given (cmd e.train w) i)) (onward routes chain.0 chain.1)) → Known d routes n l.variable
          at (inl y) =
              let x = in_map_back (λ w. no (Given (cmd e.train w) i)) chain.0 l y in
              known_at (no (Given (cmd e.train x.0) i)) l x.2 (known_command (cmd e.train x.0) i (command_from d routes e.train x.0 o.train (inside x.0 x.1)) low (omega arith))
          at (inr (inl y)) = known_at (no (Given c (i + 1))) l y (known_command c (i + 1) b (omega arith) (omega arith))
          at (inr (inr (inl y))) = known_at (yes (Given c i)) l y (known_command c i b low (omega arith))
          at (inr (inr (inr y))) =
              let x = in_map_back (λ w. yes (Given (cmd e.train w) i)) (onward routes chain.0 chain.1) l y in
              let z = in_filter_back (extends routes chain.0 chain.1) (route_numbers routes) x.0 x.1 in
              known_at (yes (Given (cmd e.train x.0) i)) l x.2 (known_command (cmd e.train x.0) i (command_from d routes e.train x.0 o.train z.0) low (omega arith))

  visits_known : 1 ≤ n → (t : TrainNo) → In t (trains d) → (cl : Clause) → In cl (makes_visits d routes n t) → KnownAll cl
  visits_known some t k cl m =
      let f = in_map_back (visited d routes n t) (one_to (length (train_of d t).visits)) cl m in
      subst KnownAll f.2 (go f.0)
    where
      go : (j : ℕ) → KnownAll (visited d routes n t j)
      go j l m =
          let set = entry [] (train_of d t).visits j in
          let x = in_map_back (λ r. yes (Given (cmd t r) n)) (filter (may_visit d routes n j set) (route_numbers routes)) l m in
          let y = in_filter_back (may_visit d routes n j set) (route_numbers routes) x.0 x.1 in
          known_at (yes (Given (cmd t x.0) n)) l x.2 (known_command (cmd t x.0) n (command_from d routes t x.0 k y.0) some (omega arith))

  orders_known : 1 ≤ n → (p : Command × Command) → In p (pairs d routes) → (cl : Clause) → In cl (in_order d routes n p) → KnownAll cl
  orders_known some p k cl m = go p.0 p.1 k (pair_of d routes p k) cl m
    where
      go : (e c : Command) → In (e, c) (pairs d routes) → IsPair d routes e c → (cl : Clause) → In cl (in_order d routes n (e, c)) → KnownAll cl
      go e c k pair cl (inl f) = subst KnownAll f first
        where
          first : KnownAll (no (Before e c) ∷ yes (Given c n) ∷ [])
          first l (inl x) = known_at (no (Before e c)) l x k
          first l (inr (inl x)) = known_at (yes (Given c n)) l x (known_command c n pair.other some (omega arith))
          first l (inr (inr x)) = absurd x
      go e c k pair cl (inr m) = at (in_append cl (map (λ i. no (Before e c) ∷ no (Given c i) ∷ if_given e (i - 1)) (one_to n)) (map (λ i. yes (Before e c) ∷ no (Given e i) ∷ yes (Given c i) ∷ no (Given c n) ∷ []) (one_to (n - 1))) m)
        where
          second : (i : ℕ) → 1 ≤ i → i < 1 + n → KnownAll (no (Before e c) ∷ no (Given c i) ∷ if_given e (i - 1))
          second i low high l (inl x) = known_at (no (Before e c)) l x k
          second i low high l (inr (inl x)) = known_at (no (Given c i)) l x (known_command c i pair.other low (omega arith))
          second i low high l (inr (inr x)) = known_given e (i - 1) l pair.one (omega arith) x

          third : (i : ℕ) → 1 ≤ i → i < 1 + (n - 1) → KnownAll (yes (Before e c) ∷ no (Given e i) ∷ yes (Given c i) ∷ no (Given c n) ∷ [])
          third i low high l (inl x) = known_at (yes (Before e c)) l x k
          third i low high l (inr (inl x)) = known_at (no (Given e i)) l x (known_command e i pair.one low (omega arith))
          third i low high l (inr (inr (inl x))) = known_at (yes (Given c i)) l x (known_command c i pair.other low (omega arith))
          third i low high l (inr (inr (inr (inl x)))) = known_at (no (Given c n)) l x (known_command c n pair.other some (omega arith))
          third i low high l (inr (inr (inr (inr x)))) = absurd x

          at : In cl (map (λ i. no (Before e c) ∷ no (Given c i) ∷ if_given e (i - 1)) (one_to n)) ⊎ In cl (map (λ i. yes (Before e c) ∷ no (Given e i) ∷ yes (Given c i) ∷ no (Given c n) ∷ []) (one_to (n - 1))) → KnownAll cl
          at (inl y) =
              let f = in_map_back (λ i. no (Before e c) ∷ no (Given c i) ∷ if_given e (i - 1)) (one_to n) cl y in
              let r = in_count_back 1 n f.0 f.1 in subst KnownAll f.2 (second f.0 r.0 r.1)
          at (inr y) =
              let f = in_map_back (λ i. yes (Before e c) ∷ no (Given e i) ∷ yes (Given c i) ∷ no (Given c n) ∷ []) (one_to (n - 1)) cl y in
              let r = in_count_back 1 (n - 1) f.0 f.1 in subst KnownAll f.2 (third f.0 r.0 r.1)

  ends_known : (j : ℕ) → In j (one_to (n - 1)) → (cl : Clause) → In cl (all_given d routes n j) → KnownAll cl
  ends_known j h cl m =
      let f = in_map_back (λ c. no (By j) ∷ no (Given c n) ∷ yes (Given c j) ∷ []) (all_commands d routes) cl m in
      let r = in_count_back 1 (n - 1) j h in
      subst KnownAll f.2 (go f.0 f.1 r.0 r.1)
    where
      go : (c : Command) → In c (all_commands d routes) → 1 ≤ j → j < 1 + (n - 1) → KnownAll (no (By j) ∷ no (Given c n) ∷ yes (Given c j) ∷ [])
      go c k low high l (inl e) = known_at (no (By j)) l e (low, omega arith)
      go c k low high l (inr (inl e)) = known_at (no (Given c n)) l e (known_command c n k (omega arith) (omega arith))
      go c k low high l (inr (inr (inl e))) = known_at (yes (Given c j)) l e (known_command c j k low (omega arith))
      go c k low high l (inr (inr (inr x))) = absurd x

  -- every variable of a clause is one that there is
  pub clauses_known : 1 ≤ n → (cl : Clause) → In cl (clauses d routes n) → KnownAll cl
  clauses_known some = by_family KnownAll (record {
    stays = stays_known;
    starts = starts_known;
    excludes = excludes_known some;
    apart = apart_known;
    waits = waits_known;
    visits = visits_known some;
    orders = orders_known some;
    ends = ends_known;
  })
