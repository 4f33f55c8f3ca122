-- The clauses grow evenly: family by family.
use Rattle.std.proofs.Common.{◌≡◌, ℕ, suc, ◌+◌, ◌-◌, Bool, true, false, if◌then◌else◌, List, [], ◌∷◌, ◌++◌, map, filter, flat_map, length, sum_by, refl, sym, ap, ◌∙◌, arith, length-append}
use Rattle.rail_base.specs.declared.station.Station.{Station}
use Rattle.rail_base.specs.declared.station.TrainNo.{TrainNo}
use Rattle.rail_base.specs.declared.route.Route.{Route}
use Rattle.rail_base.specs.declared.route.RouteNo.{RouteNo}
use Rattle.rail_base.specs.declared.route.Start.{Start}
use Rattle.rail_base.specs.declared.route.Start.TheVariants as start
use Rattle.rail_base.specs.declared.plan.Command.{Command}
use Rattle.rail_base.specs.Numbering.{count_from, one_to, entry}
use Rattle.rail_base.specs.Stations.{trains, train_of, first_visit}
use Rattle.rail_base.proofs.Lists.{length-map}
use Rattle.rail_spec.specs.Plans.{route_at, has_node, all_commands}
use Rattle.clause_spec.specs.Variables.{Given, Before, By, Literal, yes, no, if_given, numbered}
use Rattle.clause_spec.specs.Clauses.{Clause, base_clauses, clauses, clearing, exclude, in_order, later_pairs, literals, may_visit, not_at_once, not_both, stays_given}
use Rattle.clause_spec.proofs.Few.{literals_told}
use Rattle.alike_clause_spec.specs.Sorted.{sorted_base}
use Rattle.normal_clause_spec.specs.Variables.{of_base, is_in, is_not_in, normal_numbered}
use Rattle.normal_clause_spec.specs.Clauses.{NormalClause, not_before, exactly_in, exactly, leaders, keepers, kept_clause, kept, normal_clauses}
use Rattle.live_clause_spec.specs.Live.{is_live}
use Rattle.live_clause_spec.specs.Clauses.{clauses_left, live_base, sorted_clauses}
use Rattle.live_clause_spec.specs.Listed.{live_all_given, live_beginnings, live_chains, live_clauses, live_excluded, live_first_pairs, live_has_begun, live_in_turn, live_leading_to, live_makes_visits, live_onward, live_routes, live_start_clause, live_starts_rightly, live_visited, live_wait_clause, live_waits}
use Rattle.live_clause_spec.specs.Variables.{live_commands, live_numbered, live_pairs}
use Rattle.live_clause_spec.proofs.Listing.{left_is_listed}
use Rattle.live_clause_spec.proofs.Sorted.{sorted_are}
use Rattle.alike_clause_spec.specs.Turns.{turn_pairs}
use Rattle.clause_spec.specs.declared.question.Turns.{Turns}
use Rattle.clause_spec.specs.declared.question.Turns.TheVariants.{All}
use Rattle.sat_clause.specs.declared.lit.Lit.{Lit}
use Rattle.plan_encoding.specs.Bases.{plain_clauses}
use Rattle.plan_encoding.proofs.Over.{any, none_dead, plain_left}
use Rattle.limit_words.specs.Counts.{literal_count, GrowEvenly}
use Rattle.clause_spec.specs.declared.question.BaseKind.{BaseKind}
use Rattle.clause_spec.specs.declared.question.BaseKind.TheVariants.{Plain, Sorted, Normal, Live}
use Rattle.limit_words.proofs.Even.{Even, even_like, even_still, even_both, even_steps, even_fewer, even_append, even_each, evenly, same_counts, same_sums, literals-map, literals-append, literals-cons, literals-flat_map}

-- for each step from the second on one literal says that a command is given by the step before
given_before : (c : Command) (i : ℕ) → length (if_given c (suc (suc i) - 1)) ≡ 1
given_before c i = let e : suc (suc i) - 1 ≡ suc i = omega arith in ap (λ k. length (if_given c k)) e

-- so of each of these routes
each_given : (t : TrainNo) (qs : List RouteNo) (i : ℕ) → length (flat_map (λ q. if_given (record { train = t; route = q }) (suc i)) qs) ≡ length qs
each_given t [] i = refl
each_given t (q ∷ qs) i = ap suc (each_given t qs i)

-- a clause that there is or is not
never : (c : Command) (i : ℕ) (b : Bool) → literals (if b then [] else (no (Given c i) ∷ []) ∷ []) ≡ (if b then 0 else 1)
never c i true = refl
never c i false = refl

-- ---- what is left of them by a test of live commands

module _ (live : Command → Bool) (d : Station) (routes : List Route) where
  stays : (c : Command) → Even (λ n. literals (stays_given d routes n c))
  stays c =
      even_like (λ n. sum_by (λ i. 2) (one_to (n - 1))) (λ n. literals (stays_given d routes n c))
      (λ n. literals-map (λ i. no (Given c i) ∷ yes (Given c (i + 1)) ∷ []) (one_to (n - 1)))
      (even_fewer (λ i. 2) 2 (λ i. refl))

  -- the live routes that lead to a start
  abbrev led_by : Command → Start → ℕ → Clause
  led_by c s i = no (Given c i) ∷ flat_map (λ q. if_given (record { train = c.train; route = q }) (i - 1)) (live_leading_to live routes c.train s)

  led_is : (c : Command) (s : Start) (i : ℕ) → literals (led_by c s (suc (suc i)) ∷ []) ≡ suc (length (live_leading_to live routes c.train s))
  led_is c s i =
      let all = literals-cons (led_by c s (suc (suc i))) [] in
      let before : suc (suc i) - 1 ≡ suc i = omega arith in
      let one : length (led_by c s (suc (suc i))) ≡ suc (length (live_leading_to live routes c.train s)) =
      ap (λ k. suc (length (flat_map (λ q. if_given (record { train = c.train; route = q }) k) (live_leading_to live routes c.train s)))) before
      ∙ ap suc (each_given c.train (live_leading_to live routes c.train s) i) in
      omega arith

  starts_even : (c : Command) (s : Start) → Even (λ n. literals (flat_map (live_start_clause live d routes n c s) (one_to n)))
  starts_even c (start.Boundary m) =
      let there = has_node (first_visit (train_of d c.train)) m in
      even_like (λ n. sum_by (λ i. if there then 0 else 1) (one_to n)) (λ n. literals (flat_map (live_start_clause live d routes n c (start.Boundary m)) (one_to n)))
      (λ n. literals-flat_map (live_start_clause live d routes n c (start.Boundary m)) (one_to n) ∙ same_sums (λ i. literals (live_start_clause live d routes n c (start.Boundary m) i)) (λ i. if there then 0 else 1) (one_to n) (λ i. never c i there))
      (even_steps (λ i. if there then 0 else 1) (if there then 0 else 1) (λ i. refl))
  starts_even c (start.Signal s) =
      even_like (λ n. sum_by (λ i. literals (led_by c (start.Signal s) i ∷ [])) (one_to n)) (λ n. literals (flat_map (live_start_clause live d routes n c (start.Signal s)) (one_to n)))
      (λ n. literals-flat_map (live_start_clause live d routes n c (start.Signal s)) (one_to n))
      (even_steps (λ i. literals (led_by c (start.Signal s) i ∷ [])) (suc (length (live_leading_to live routes c.train (start.Signal s)))) (led_is c (start.Signal s)))

  starts : (c : Command) → Even (λ n. literals (live_starts_rightly live d routes n c))
  starts c = starts_even c (route_at routes c.route).start

  apart : (t : TrainNo) → Even (λ n. literals (live_excluded live d routes n t))
  apart t =
      let excluding : List (RouteNo × RouteNo) = filter (λ p. exclude (route_at routes p.0) (route_at routes p.1)) (later_pairs (live_routes live routes t)) in
      even_still (λ n. literals (live_excluded live d routes n t)) (sum_by (λ p. 2) excluding) (λ n. literals-map (not_both d routes n t) excluding)

  -- not both are new in one step
  abbrev once : Command × Command → ℕ → Clause
  once p i = no (Given p.0 i) ∷ if_given p.0 (i - 1) ++ no (Given p.1 i) ∷ if_given p.1 (i - 1)

  once_is : (p : Command × Command) (i : ℕ) → length (once p (suc (suc i))) ≡ 4
  once_is p i =
      let before : suc (suc i) - 1 ≡ suc i = omega arith in
      ap (λ k. length (no (Given p.0 (suc (suc i))) ∷ if_given p.0 k ++ no (Given p.1 (suc (suc i))) ∷ if_given p.1 k)) before

  at_once : (p : Command × Command) → Even (λ n. literals (not_at_once d routes n p))
  at_once p =
      even_like (λ n. sum_by (λ i. length (once p i)) (one_to n)) (λ n. literals (not_at_once d routes n p)) (λ n. literals-map (once p) (one_to n))
      (even_steps (λ i. length (once p i)) 4 (once_is p))

  -- how many literals a command has that waits at a chain
  abbrev waiting : TrainNo → List RouteNo × RouteNo → ℕ
  waiting t chain = length chain.0 + (2 + length (live_onward live routes t chain.0 chain.1))

  wait_is : (e c : Command) (chain : List RouteNo × RouteNo) (n i : ℕ) → length (live_wait_clause live d routes n e c chain i) ≡ waiting e.train chain
  wait_is e c chain n i =
      let given : RouteNo → Literal = λ w. yes (Given (record { train = e.train; route = w }) i) in
      let not_given : RouteNo → Literal = λ w. no (Given (record { train = e.train; route = w }) i) in
      let more : List Literal = no (Given c (i + 1)) ∷ yes (Given c i) ∷ map given (live_onward live routes e.train chain.0 chain.1) in
      let all = length-append (map not_given chain.0) more in
      let one = length-map not_given chain.0 in
      let further = length-map given (live_onward live routes e.train chain.0 chain.1) in
      omega arith

  waits_once : (e c : Command) (chain : List RouteNo × RouteNo) → Even (λ n. literals (map (live_wait_clause live d routes n e c chain) (one_to (n - 1))))
  waits_once e c chain =
      even_like (λ n. sum_by (λ i. waiting e.train chain) (one_to (n - 1))) (λ n. literals (map (live_wait_clause live d routes n e c chain) (one_to (n - 1))))
      (λ n. literals-map (live_wait_clause live d routes n e c chain) (one_to (n - 1)) ∙ same_sums (λ i. length (live_wait_clause live d routes n e c chain i)) (λ i. waiting e.train chain) (one_to (n - 1)) (wait_is e c chain n))
      (even_fewer (λ i. waiting e.train chain) (waiting e.train chain) (λ i. refl))

  waits_even : (p : Command × Command) → Even (λ n. literals (live_waits live d routes n p))
  waits_even p =
      even_each (λ n chain. map (live_wait_clause live d routes n p.0 p.1 chain) (one_to (n - 1))) (live_chains live routes p.0.train (length routes) (clearing d routes 1 p.0 p.1) [] p.0.route) (waits_once p.0 p.1)

  visits_even : (t : TrainNo) → Even (λ n. literals (live_makes_visits live d routes n t))
  visits_even t =
      let visits : List ℕ = one_to (length (train_of d t).visits) in
      let rs : ℕ → List RouteNo = λ k. filter (may_visit d routes 1 k (entry [] (train_of d t).visits k)) (live_routes live routes t) in
      even_still (λ n. literals (live_makes_visits live d routes n t)) (sum_by (λ k. length (rs k)) visits)
      (λ n. literals-map (live_visited live d routes n t) visits ∙ same_sums (λ k. length (live_visited live d routes n t k)) (λ k. length (rs k)) visits (λ k. length-map (λ r. yes (Given (record { train = t; route = r }) n)) (rs k)))

  -- where the first is before the second, it is given by the step before
  abbrev earlier : Command × Command → ℕ → Clause
  earlier p i = no (Before p.0 p.1) ∷ no (Given p.1 i) ∷ if_given p.0 (i - 1)

  earlier_is : (p : Command × Command) (i : ℕ) → length (earlier p (suc (suc i))) ≡ 3
  earlier_is p i = ap (λ k. suc (suc k)) (given_before p.0 i)

  orders_even : (p : Command × Command) → Even (λ n. literals (in_order d routes n p))
  orders_even p =
      even_like (λ n. 2 + sum_by (λ i. length (earlier p i)) (one_to n) + sum_by (λ i. 4) (one_to (n - 1))) (λ n. literals (in_order d routes n p)) is
      (even_both (λ n. 2 + sum_by (λ i. length (earlier p i)) (one_to n)) (λ n. sum_by (λ i. 4) (one_to (n - 1)))
      (even_both (λ n. 2) (λ n. sum_by (λ i. length (earlier p i)) (one_to n)) (even_still (λ n. 2) 2 (λ n. refl)) (even_steps (λ i. length (earlier p i)) 3 (earlier_is p)))
      (even_fewer (λ i. 4) 4 (λ i. refl)))
    where
      is : (n : ℕ) → literals (in_order d routes n p) ≡ 2 + sum_by (λ i. length (earlier p i)) (one_to n) + sum_by (λ i. 4) (one_to (n - 1))
      is n =
          let one : Clause = no (Before p.0 p.1) ∷ yes (Given p.1 n) ∷ [] in
          let later : ℕ → Clause = λ i. yes (Before p.0 p.1) ∷ no (Given p.0 i) ∷ yes (Given p.1 i) ∷ no (Given p.1 n) ∷ [] in
          let all = literals-append (one ∷ map (earlier p) (one_to n)) (map later (one_to (n - 1))) in
          let first = literals-cons one (map (earlier p) (one_to n)) in
          let second = literals-map (earlier p) (one_to n) in
          let third = literals-map later (one_to (n - 1)) in
          omega arith

  all_by_steps : Even (λ n. literals (flat_map (live_all_given live d routes n) (one_to (n - 1))))
  all_by_steps =
      let all : ℕ = sum_by (λ c. 3) (live_commands live d routes) in
      even_like (λ n. sum_by (λ k. all) (one_to (n - 1))) (λ n. literals (flat_map (live_all_given live d routes n) (one_to (n - 1))))
      (λ n. literals-flat_map (live_all_given live d routes n) (one_to (n - 1))
      ∙ same_sums (λ k. literals (live_all_given live d routes n k)) (λ k. all) (one_to (n - 1)) (λ k. literals-map (λ c. no (By k) ∷ no (Given c n) ∷ yes (Given c k) ∷ []) (live_commands live d routes)))
      (even_fewer (λ k. all) all (λ k. refl))

  -- ---- all of them

  abbrev alone : ℕ → List Clause
  alone n = flat_map (stays_given d routes n) (live_commands live d routes) ++ flat_map (live_starts_rightly live d routes n) (live_commands live d routes) ++ flat_map (live_excluded live d routes n) (trains d)

  abbrev together : ℕ → List Clause
  together n = alone n ++ flat_map (not_at_once d routes n) (live_first_pairs live d routes n) ++ flat_map (live_waits live d routes n) (live_pairs live d routes)

  alone_even : Even (λ n. literals (alone n))
  alone_even =
      even_append (λ n. flat_map (stays_given d routes n) (live_commands live d routes) ++ flat_map (live_starts_rightly live d routes n) (live_commands live d routes)) (λ n. flat_map (live_excluded live d routes n) (trains d))
      (even_append (λ n. flat_map (stays_given d routes n) (live_commands live d routes)) (λ n. flat_map (live_starts_rightly live d routes n) (live_commands live d routes))
      (even_each (stays_given d routes) (live_commands live d routes) stays)
      (even_each (live_starts_rightly live d routes) (live_commands live d routes) starts))
      (even_each (live_excluded live d routes) (trains d) apart)

  together_even : Even (λ n. literals (together n))
  together_even =
      even_append (λ n. alone n ++ flat_map (not_at_once d routes n) (live_first_pairs live d routes n)) (λ n. flat_map (live_waits live d routes n) (live_pairs live d routes))
      (even_append alone (λ n. flat_map (not_at_once d routes n) (live_first_pairs live d routes n)) alone_even
      (even_each (not_at_once d routes) (live_first_pairs live d routes 1) at_once))
      (even_each (live_waits live d routes) (live_pairs live d routes) waits_even)

  plain_even : Even (λ n. literals (plain_clauses live d routes n))
  plain_even =
      even_append (λ n. together n ++ flat_map (live_makes_visits live d routes n) (trains d) ++ flat_map (in_order d routes n) (live_pairs live d routes)) (λ n. flat_map (live_all_given live d routes n) (one_to (n - 1)))
      (even_append (λ n. together n ++ flat_map (live_makes_visits live d routes n) (trains d)) (λ n. flat_map (in_order d routes n) (live_pairs live d routes))
      (even_append together (λ n. flat_map (live_makes_visits live d routes n) (trains d)) together_even
      (even_each (live_makes_visits live d routes) (trains d) visits_even))
      (even_each (in_order d routes) (live_pairs live d routes) orders_even))
      all_by_steps

  -- ---- with those of trains that come in turn

  begun_is : (p : TrainNo × TrainNo) (q : RouteNo) (n i : ℕ) → length (live_has_begun live d routes n p q i) ≡ suc (length (live_beginnings live d routes 1 p.0))
  begun_is p q n i = ap suc (length-map (λ r. yes (Given (record { train = p.0; route = r }) i)) (live_beginnings live d routes n p.0))

  begun_even : (p : TrainNo × TrainNo) (q : RouteNo) → Even (λ n. literals (map (live_has_begun live d routes n p q) (one_to n)))
  begun_even p q =
      let each : ℕ = suc (length (live_beginnings live d routes 1 p.0)) in
      even_like (λ n. sum_by (λ i. each) (one_to n)) (λ n. literals (map (live_has_begun live d routes n p q) (one_to n)))
      (λ n. literals-map (live_has_begun live d routes n p q) (one_to n) ∙ same_sums (λ i. length (live_has_begun live d routes n p q i)) (λ i. each) (one_to n) (begun_is p q n))
      (even_steps (λ i. each) each (λ i. refl))

  turn_even : (p : TrainNo × TrainNo) → Even (λ n. literals (live_in_turn live d routes n p))
  turn_even p = even_each (λ n q. map (live_has_begun live d routes n p q) (one_to n)) (live_beginnings live d routes 1 p.1) (begun_even p)

  listed_even : (turns : Turns) → Even (λ n. literals (live_clauses turns live d routes n))
  listed_even turns =
      even_append (λ n. plain_clauses live d routes n) (λ n. flat_map (live_in_turn live d routes n) (turn_pairs turns d)) plain_even
      (even_each (live_in_turn live d routes) (turn_pairs turns d) turn_even)

-- ---- the bases

module _ (d : Station) (routes : List Route) where
  -- nothing goes where all commands are live
  base_even : Even (λ n. literals (base_clauses d routes n))
  base_even =
      even_like (λ n. literals (plain_clauses any d routes n)) (λ n. literals (base_clauses d routes n))
      (λ n. literals_told (numbered d routes n) (clauses d routes n) ∙ ap (λ (cls : List Clause). literals cls) (sym (none_dead (clauses d routes n)) ∙ plain_left any d routes n))
      (plain_even any d routes)

  sorted_even : Even (λ n. literals (sorted_base All d routes n))
  sorted_even =
      even_like (λ n. literals (live_clauses All any d routes n)) (λ n. literals (sorted_base All d routes n))
      (λ n. ap (λ (cs : List (List Lit)). literals cs) (sorted_are All d routes n)
      ∙ (literals_told (numbered d routes n) (sorted_clauses All d routes n) ∙ ap (λ (cls : List Clause). literals cls) (sym (none_dead (sorted_clauses All d routes n)) ∙ left_is_listed any d routes n All)))
      (listed_even any d routes All)

  live_even : (turns : Turns) → Even (λ n. literals (live_base turns d routes n))
  live_even turns =
      let live : Command → Bool = is_live d routes in
      even_like (λ n. literals (live_clauses turns live d routes n)) (λ n. literals (live_base turns d routes n))
      (λ n. literals_told (live_numbered live d routes n) (clauses_left turns live d routes n) ∙ ap (λ (cls : List Clause). literals cls) (left_is_listed live d routes n turns))
      (listed_even live d routes turns)

  -- ---- and those of normal plans

  -- the clauses of a command and a step, the step before being named
  abbrev exact : Command → ℕ → ℕ → List NormalClause
  exact c i before =
      (is_not_in c i ∷ of_base (yes (Given c i)) ∷ [])
      ∷ not_before d routes 1 c before
      ++ (of_base (no (Given c i)) ∷ map of_base (if_given c before) ++ is_in c i ∷ [])
      ∷ []

  exact_is : (c : Command) (i : ℕ) → literals (exactly_in d routes 1 c (suc (suc i))) ≡ 7
  exact_is c i =
      let before : suc (suc i) - 1 ≡ suc i = omega arith in
      let last : NormalClause = of_base (no (Given c (suc (suc i)))) ∷ of_base (yes (Given c (suc i))) ∷ is_in c (suc (suc i)) ∷ [] in
      let second : NormalClause = is_not_in c (suc (suc i)) ∷ of_base (no (Given c (suc i))) ∷ [] in
      let all = literals-cons (is_not_in c (suc (suc i)) ∷ of_base (yes (Given c (suc (suc i)))) ∷ []) (second ∷ last ∷ []) in
      let more = literals-cons second (last ∷ []) in
      let end = literals-cons last [] in
      let told : literals (exact c (suc (suc i)) (suc i)) ≡ 7 = omega arith in
      ap (λ k. literals (exact c (suc (suc i)) k)) before ∙ told

  exactly_even : (c : Command) → Even (λ n. literals (exactly d routes n c))
  exactly_even c =
      even_like (λ n. sum_by (λ i. literals (exactly_in d routes 1 c i)) (one_to n)) (λ n. literals (exactly d routes n c))
      (λ n. literals-flat_map (exactly_in d routes n c) (one_to n))
      (even_steps (λ i. literals (exactly_in d routes 1 c i)) 7 (exact_is c))

  kept_is : (c : Command) (n i : ℕ) → length (kept_clause d routes n c i) ≡ suc (length (leaders d routes 1 c ++ keepers d routes 1 c))
  kept_is c n i = ap suc (length-map (λ e. is_in e (i - 1)) (leaders d routes n c ++ keepers d routes n c))

  kept_even : (c : Command) → Even (λ n. literals (kept d routes n c))
  kept_even c =
      let each : ℕ = suc (length (leaders d routes 1 c ++ keepers d routes 1 c)) in
      even_like (λ n. sum_by (λ i. each) (one_to (n - 1))) (λ n. literals (kept d routes n c))
      (λ n. literals-map (kept_clause d routes n c) (count_from 2 (n - 1))
      ∙ (same_sums (λ i. length (kept_clause d routes n c i)) (λ i. each) (count_from 2 (n - 1)) (kept_is c n) ∙ same_counts each 2 1 (n - 1)))
      (even_fewer (λ i. each) each (λ i. refl))

  normal_even : Even (λ n. literals (map (map (normal_numbered d routes n)) (normal_clauses d routes n)))
  normal_even =
      even_like (λ n. literals (normal_clauses d routes n)) (λ n. literals (map (map (normal_numbered d routes n)) (normal_clauses d routes n))) (λ n. literals_told (normal_numbered d routes n) (normal_clauses d routes n))
      (even_append (λ n. flat_map (exactly d routes n) (all_commands d routes)) (λ n. flat_map (kept d routes n) (all_commands d routes))
      (even_each (exactly d routes) (all_commands d routes) exactly_even)
      (even_each (kept d routes) (all_commands d routes) kept_even))

  count_even : (kind : BaseKind) → Even (literal_count kind d routes)
  count_even Plain = base_even
  count_even Sorted = sorted_even
  count_even Normal = even_append (base_clauses d routes) (λ n. map (map (normal_numbered d routes n)) (normal_clauses d routes n)) base_even normal_even
  count_even (Live turns) = live_even turns

pub grow_evenly : (kind : BaseKind) (d : Station) (routes : List Route) → GrowEvenly kind d routes
grow_evenly kind d routes = evenly (literal_count kind d routes) (count_even d routes kind)
