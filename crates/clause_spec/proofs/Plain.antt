-- Which clauses of the base name no step by which all is given.
use Rattle.std.proofs.Common.{◌≡◌, ℕ, zero, suc, ◌+◌, ◌-◌, ◌⊎◌, inl, inr, Bool, true, false, if◌then◌else◌, List, [], ◌∷◌, ◌++◌, map, flat_map, filter, length, subst}
use Rattle.rail_base.specs.declared.station.Station.{Station}
use Rattle.rail_base.specs.declared.station.TrainNo.{TrainNo}
use Rattle.rail_base.specs.declared.route.Route.{Route}
use Rattle.rail_base.specs.declared.route.RouteNo.{RouteNo}
use Rattle.rail_base.specs.declared.route.Start.{Start}
use Rattle.rail_base.specs.declared.route.Start.TheVariants as start
use Rattle.rail_base.specs.declared.plan.Command.{Command}
use Rattle.rail_base.specs.Numbering.{one_to, entry}
use Rattle.rail_base.specs.Stations.{trains, train_of, first_visit}
use Rattle.rail_spec.specs.Plans.{route_at, has_node, route_numbers, all_commands}
use Rattle.rail_base.proofs.Members.{In}
use Rattle.rail_base.proofs.Lists.{in_map_back, in_flat_map_back, in_append}
use Rattle.clause_spec.specs.Variables.{Variable, Given, Before, By, Literal, yes, no, if_given, pairs}
use Rattle.clause_spec.specs.Clauses.{Clause, exclude, later_pairs, leading_to, onward, chains, stays_given, start_clause, starts_rightly, not_both, excluded, not_at_once, first_pairs, clearing, wait_clause, waits, may_visit, visited, makes_visits, in_order, all_given, clauses}
use Rattle.clause_spec.proofs.Steps.{cmd}
use Rattle.clause_spec.proofs.Families.{by_family}

-- the variable doesn't say that all is given by a step
abbrev pub IsPlain : Variable → Type 0
IsPlain (Given c i) = Unit {0}
IsPlain (Before e c) = Unit {0}
IsPlain (By k) = ⊥

-- so is each variable of the clause
abbrev pub PlainAll : Clause → Type 0
PlainAll cl = (l : Literal) → In l cl → IsPlain l.variable

plain_at : (v l : Literal) → v ≡ l → IsPlain v.variable → IsPlain l.variable
plain_at v l e k = subst (λ (x : Literal). IsPlain x.variable) e k

plain_given : (c : Command) (j : ℕ) (l : Literal) → In l (if_given c j) → IsPlain l.variable
plain_given c zero l m = absurd m
plain_given c (suc j) l (inr k) = absurd k
plain_given c (suc j) l (inl e) = plain_at (yes (Given c (suc j))) l e tt

module _ (d : Station) (routes : List Route) (n : ℕ) where
  stays_plain : (c : Command) → In c (all_commands d routes) → (cl : Clause) → In cl (stays_given d routes n c) → PlainAll cl
  stays_plain c k cl m =
      let f = in_map_back (λ i. no (Given c i) ∷ yes (Given c (i + 1)) ∷ []) (one_to (n - 1)) cl m in
      subst PlainAll f.2 (go f.0)
    where
      go : (i : ℕ) → PlainAll (no (Given c i) ∷ yes (Given c (i + 1)) ∷ [])
      go i l (inl e) = plain_at (no (Given c i)) l e tt
      go i l (inr (inl e)) = plain_at (yes (Given c (i + 1))) l e tt
      go i l (inr (inr x)) = absurd x

  starts_plain : (c : Command) → In c (all_commands d routes) → (cl : Clause) → In cl (starts_rightly d routes n c) → PlainAll cl
  starts_plain c k cl m =
      let f = in_flat_map_back (start_clause d routes n c (route_at routes c.route).start) (one_to n) cl m in
      go (route_at routes c.route).start f.0 f.2
    where
      alone : (i : ℕ) → PlainAll (no (Given c i) ∷ [])
      alone i l (inl e) = plain_at (no (Given c i)) l e tt
      alone i l (inr x) = absurd x

      led : (s : Start) (i : ℕ) → PlainAll (no (Given c i) ∷ flat_map (λ q. if_given (cmd c.train q) (i - 1)) (leading_to routes s))
      led s i l (inl e) = plain_at (no (Given c i)) l e tt
      led s i l (inr x) =
          let f = in_flat_map_back (λ q. if_given (cmd c.train q) (i - 1)) (leading_to routes s) l x in
          plain_given (cmd c.train f.0) (i - 1) l f.2

      boundary : (b : Bool) (i : ℕ) → In cl (if b then [] else (no (Given c i) ∷ []) ∷ []) → PlainAll cl
      boundary true i x = absurd x
      boundary false i (inl e) = subst PlainAll e (alone i)
      boundary false i (inr x) = absurd x

      go : (s : Start) (i : ℕ) → In cl (start_clause d routes n c s i) → PlainAll cl
      go (start.Boundary b) i x = boundary (has_node (first_visit (train_of d c.train)) b) i x
      go (start.Signal s) i (inl e) = subst PlainAll e (led (start.Signal s) i)
      go (start.Signal s) i (inr x) = absurd x

  excludes_plain : (t : TrainNo) → In t (trains d) → (cl : Clause) → In cl (excluded d routes n t) → PlainAll cl
  excludes_plain t k cl m =
      let f = in_map_back (not_both d routes n t) (filter (λ p. exclude (route_at routes p.0) (route_at routes p.1)) (later_pairs (route_numbers routes))) cl m in
      subst PlainAll f.2 (go f.0.0 f.0.1)
    where
      go : (r q : RouteNo) → PlainAll (no (Given (cmd t r) n) ∷ no (Given (cmd t q) n) ∷ [])
      go r q l (inl e) = plain_at (no (Given (cmd t r) n)) l e tt
      go r q l (inr (inl e)) = plain_at (no (Given (cmd t q) n)) l e tt
      go r q l (inr (inr x)) = absurd x

  apart_plain : (p : Command × Command) → In p (first_pairs d routes n) → (cl : Clause) → In cl (not_at_once d routes n p) → PlainAll cl
  apart_plain p k cl m =
      let f = in_map_back (λ i. no (Given p.0 i) ∷ if_given p.0 (i - 1) ++ no (Given p.1 i) ∷ if_given p.1 (i - 1)) (one_to n) cl m in
      subst PlainAll f.2 (go p.0 p.1 f.0)
    where
      go : (e c : Command) (i : ℕ) → PlainAll (no (Given e i) ∷ if_given e (i - 1) ++ no (Given c i) ∷ if_given c (i - 1))
      go e c i l (inl x) = plain_at (no (Given e i)) l x tt
      go e c i l (inr x) = at (in_append l (if_given e (i - 1)) (no (Given c i) ∷ if_given c (i - 1)) x)
        where
          at : In l (if_given e (i - 1)) ⊎ In l (no (Given c i) ∷ if_given c (i - 1)) → IsPlain l.variable
          at (inl y) = plain_given e (i - 1) l y
          at (inr (inl y)) = plain_at (no (Given c i)) l y tt
          at (inr (inr y)) = plain_given c (i - 1) l y

  waits_plain : (p : Command × Command) → In p (pairs d routes) → (cl : Clause) → In cl (waits d routes n p) → PlainAll cl
  waits_plain p k cl m =
      let f = in_flat_map_back (λ chain. map (wait_clause d routes n p.0 p.1 chain) (one_to (n - 1))) (chains routes (length routes) (clearing d routes n p.0 p.1) [] p.0.route) cl m in
      let g = in_map_back (wait_clause d routes n p.0 p.1 f.0) (one_to (n - 1)) cl f.2 in
      subst PlainAll g.2 (go p.0 p.1 f.0 g.0)
    where
      go : (e c : Command) (chain : List RouteNo × RouteNo) (i : ℕ) → PlainAll (wait_clause d routes n e c chain i)
      go e c chain i l m = at (in_append l (map (λ w. no (Given (cmd e.train w) i)) chain.0) (no (Given c (i + 1)) ∷ yes (Given c i) ∷ map (λ w. yes (Given (cmd e.train w) i)) (onward routes chain.0 chain.1)) m)
        where
          at : In l (map (λ w. no (Given (cmd e.train w) i)) chain.0) ⊎ In l (no (Given c (i + 1)) ∷ yes (Given c i) ∷ map (λ w. yes (Given (cmd e.train w) i)) (onward routes chain.0 chain.1)) → IsPlain l.variable
          at (inl y) =
              let x = in_map_back (λ w. no (Given (cmd e.train w) i)) chain.0 l y in
              plain_at (no (Given (cmd e.train x.0) i)) l x.2 tt
          at (inr (inl y)) = plain_at (no (Given c (i + 1))) l y tt
          at (inr (inr (inl y))) = plain_at (yes (Given c i)) l y tt
          at (inr (inr (inr y))) =
              let x = in_map_back (λ w. yes (Given (cmd e.train w) i)) (onward routes chain.0 chain.1) l y in
              plain_at (yes (Given (cmd e.train x.0) i)) l x.2 tt

  visits_plain : (t : TrainNo) → In t (trains d) → (cl : Clause) → In cl (makes_visits d routes n t) → PlainAll cl
  visits_plain t k cl m =
      let f = in_map_back (visited d routes n t) (one_to (length (train_of d t).visits)) cl m in
      subst PlainAll f.2 (go f.0)
    where
      go : (j : ℕ) → PlainAll (visited d routes n t j)
      go j l m =
          let set = entry [] (train_of d t).visits j in
          let x = in_map_back (λ r. yes (Given (cmd t r) n)) (filter (may_visit d routes n j set) (route_numbers routes)) l m in
          plain_at (yes (Given (cmd t x.0) n)) l x.2 tt

  orders_plain : (p : Command × Command) → In p (pairs d routes) → (cl : Clause) → In cl (in_order d routes n p) → PlainAll cl
  orders_plain p k cl m = go p.0 p.1 cl m
    where
      go : (e c : Command) (cl : Clause) → In cl (in_order d routes n (e, c)) → PlainAll cl
      go e c cl (inl f) = subst PlainAll f first
        where
          first : PlainAll (no (Before e c) ∷ yes (Given c n) ∷ [])
          first l (inl x) = plain_at (no (Before e c)) l x tt
          first l (inr (inl x)) = plain_at (yes (Given c n)) l x tt
          first l (inr (inr x)) = absurd x
      go e c cl (inr m) = at (in_append cl (map (λ i. no (Before e c) ∷ no (Given c i) ∷ if_given e (i - 1)) (one_to n)) (map (λ i. yes (Before e c) ∷ no (Given e i) ∷ yes (Given c i) ∷ no (Given c n) ∷ []) (one_to (n - 1))) m)
        where
          second : (i : ℕ) → PlainAll (no (Before e c) ∷ no (Given c i) ∷ if_given e (i - 1))
          second i l (inl x) = plain_at (no (Before e c)) l x tt
          second i l (inr (inl x)) = plain_at (no (Given c i)) l x tt
          second i l (inr (inr x)) = plain_given e (i - 1) l x

          third : (i : ℕ) → PlainAll (yes (Before e c) ∷ no (Given e i) ∷ yes (Given c i) ∷ no (Given c n) ∷ [])
          third i l (inl x) = plain_at (yes (Before e c)) l x tt
          third i l (inr (inl x)) = plain_at (no (Given e i)) l x tt
          third i l (inr (inr (inl x))) = plain_at (yes (Given c i)) l x tt
          third i l (inr (inr (inr (inl x)))) = plain_at (no (Given c n)) l x tt
          third i l (inr (inr (inr (inr x)))) = absurd x

          at : In cl (map (λ i. no (Before e c) ∷ no (Given c i) ∷ if_given e (i - 1)) (one_to n)) ⊎ In cl (map (λ i. yes (Before e c) ∷ no (Given e i) ∷ yes (Given c i) ∷ no (Given c n) ∷ []) (one_to (n - 1))) → PlainAll cl
          at (inl y) =
              let f = in_map_back (λ i. no (Before e c) ∷ no (Given c i) ∷ if_given e (i - 1)) (one_to n) cl y in
              subst PlainAll f.2 (second f.0)
          at (inr y) =
              let f = in_map_back (λ i. yes (Before e c) ∷ no (Given e i) ∷ yes (Given c i) ∷ no (Given c n) ∷ []) (one_to (n - 1)) cl y in
              subst PlainAll f.2 (third f.0)

  -- what holds of plain clauses, and of those that say by which step all is given, holds of all
  pub of_plain : (P : Clause → Type 0) → ((cl : Clause) → PlainAll cl → P cl) → ((k : ℕ) → In k (one_to (n - 1)) → (cl : Clause) → In cl (all_given d routes n k) → P cl) → (cl : Clause) → In cl (clauses d routes n) → P cl
  of_plain P plain by = by_family d routes n P (record {
    stays = λ c k cl m. plain cl (stays_plain c k cl m);
    starts = λ c k cl m. plain cl (starts_plain c k cl m);
    excludes = λ t k cl m. plain cl (excludes_plain t k cl m);
    apart = λ p k cl m. plain cl (apart_plain p k cl m);
    waits = λ p k cl m. plain cl (waits_plain p k cl m);
    visits = λ t k cl m. plain cl (visits_plain t k cl m);
    orders = λ p k cl m. plain cl (orders_plain p k cl m);
    ends = by;
  })
