-- Sets of commands and tests of them are one.
use Rattle.std.proofs.Common.{◌≡◌, ℕ, ◌≤◌, ◌<◌, ◌⊎◌, inl, inr, Bool, true, ◌&&◌, if◌then◌else◌, Some, None, List, [], map, filter, flat_map, length, sym, ap, ap₂, subst, ◌∙◌, arith, refl, ◌+◌, ◌*◌, not, ◌||◌, ◌∷◌}
use Rattle.std.specs.List.{list_any}
use Rattle.sat_clause.specs.declared.lit.Lit.{Lit}
use Rattle.rail_base.specs.declared.station.Station.{Station}
use Rattle.rail_base.specs.declared.station.TrainNo.{TrainNo}
use Rattle.rail_base.specs.declared.route.Route.{Route}
use Rattle.rail_base.specs.declared.route.RouteNo.{RouteNo}
use Rattle.rail_base.specs.declared.plan.Command.{Command}
use Rattle.rail_base.specs.Members.{In}
use Rattle.rail_base.specs.Numbering.{before_first, one_to}
use Rattle.rail_base.specs.Routes.{IsRoute}
use Rattle.rail_base.specs.Stations.{trains}
use Rattle.rail_base.proofs.Lists.{in_count, in_count_back, in_flat_map, in_map, in_filter_back, in_flat_map_back, in_map_back}
use Rattle.rail_base.proofs.Members.{and_both, below_or_not, false_unless, in_filter, list_any_from, list_any_gives, same_bool}
use Rattle.rail_spec.specs.Plans.{all_commands, commands_of, contend, is_command, route_numbers, routes_given}
use Rattle.clause_spec.specs.declared.question.Turns.{Turns}
use Rattle.clause_spec.specs.Clauses.{Clause}
use Rattle.clause_spec.specs.Variables.{Variable, Given, Before, By, is_pair, pairs, pairs_before}
use Rattle.clause_spec.proofs.Families.{KnownAll}
use Rattle.clause_spec.proofs.Lists.{Distinct, distinct_count, distinct_filter, distinct_flat_map, distinct_map}
use Rattle.clause_spec.proofs.Numbers.{Known}
use Rattle.clause_spec.proofs.Steps.{is_command_same, is_command_self}
use Rattle.live_clause_spec.specs.Clauses.{denies_dead, left_of, sorted_clauses, without_dead}
use Rattle.live_clause_spec.specs.Listed.{is_live_for, live_routes}
use Rattle.live_clause_spec.specs.Variables.{both_live, is_dead, live_commands, live_number, live_numbered, live_pairs}
use Rattle.live_clause_spec.proofs.Sorted.{sorted_known}
use Rattle.live_clause_spec.proofs.Lists.{filter_alike, filter_every, filter_none}
use Rattle.command_set.specs.Commands.{AreCommandsOf, commands_in, is_among}
use Rattle.command_set.specs.Laws.{AllAreASet, AllNamed, AllPairs, AreSets, BasesAreAlike, PairsAreAlike, TellsAlike}
use Rattle.command_set.specs.Rows.{train_no}
use Rattle.command_set.proofs.Blocks.{flat_mapped, flat_same}
use Rattle.command_set.proofs.Lists.{given_none, given_of, live_by_trains, some_within}

-- the commands of a pair are commands of the design
of_pair : (d : Station) (routes : List Route) (p : Command × Command) → In p (pairs d routes) → In p.0 (all_commands d routes) × In p.1 (all_commands d routes)
of_pair d routes p m =
    let one = in_flat_map_back (pairs_before d routes) (all_commands d routes) p m in
    let two = in_map_back (λ (c : Command). (one.0, c)) (filter (contend routes one.0) (all_commands d routes)) p one.2 in (
      subst (λ (x : Command). In x (all_commands d routes)) (ap (λ (q : Command × Command). q.0) two.2) one.1,
      subst (λ (x : Command). In x (all_commands d routes)) (ap (λ (q : Command × Command). q.1) two.2) (in_filter_back (contend routes one.0) (all_commands d routes) two.0 two.1).0,
    )

module _ (live : Command → Bool) (d : Station) (routes : List Route) where
  pub tells_alike : TellsAlike live d routes
  tells_alike c m = same_bool (is_among (live_commands live d routes) c) (live c)
      (λ h.
      let g = list_any_gives (is_command c) (live_commands live d routes) h in
      subst (λ (x : Command). live x ≡ true) (is_command_same c g.0 g.2) (in_filter_back live (all_commands d routes) g.0 g.1).1)
      (λ h. list_any_from (is_command c) (live_commands live d routes) c (in_filter live (all_commands d routes) c m h) (is_command_self c))

  pub are_sets : AreSets live d routes
  are_sets = filter_alike (is_among (live_commands live d routes)) live (all_commands d routes) tells_alike

  pub pairs_alike : PairsAreAlike live d routes
  pairs_alike = filter_alike (both_live (is_among (live_commands live d routes))) (both_live live) (pairs d routes) (λ p m.
      let both = of_pair d routes p m in
      ap₂ (λ a b. a && b) (tells_alike p.0 both.0) (tells_alike p.1 both.1))

-- ---- the base that is left

-- a number by the commands and pairs that are live
abbrev number_by : List Command → List (Command × Command) → ℕ → Variable → ℕ
number_by cs ps n (Given c i) = length (before_first (is_command c) cs) * n + i
number_by cs ps n (Before e c) = length cs * n + length (before_first (is_pair e c) ps) + 1
number_by cs ps n (By k) = length cs * n + length ps + k

map_alike : {X Y : Type 0} (f g : X → Y) (xs : List X) → ((x : X) → In x xs → f x ≡ g x) → map f xs ≡ map g xs
map_alike f g [] h = refl
map_alike f g (x ∷ xs) h = ap₂ (λ y ys. y ∷ ys) (h x (inl refl)) (map_alike f g xs (λ z m. h z (inr m)))

any_alike : {X : Type 0} (test other : X → Bool) (xs : List X) → ((x : X) → In x xs → test x ≡ other x) → list_any test xs ≡ list_any other xs
any_alike test other [] h = refl
any_alike test other (x ∷ xs) h = ap₂ (λ a b. a || b) (h x (inl refl)) (any_alike test other xs (λ y m. h y (inr m)))

module _ (live : Command → Bool) (d : Station) (routes : List Route) (n : ℕ) where
  abbrev other : Command → Bool
  other = is_among (live_commands live d routes)

  dead_alike : (v : Variable) → Known d routes n v → is_dead other v ≡ is_dead live v
  dead_alike (Given c i) k = ap not (tells_alike live d routes c k.0)
  dead_alike (Before e c) k = let both = of_pair d routes (e, c) k in ap₂ (λ a b. not (a && b)) (tells_alike live d routes e both.0) (tells_alike live d routes c both.1)
  dead_alike (By i) k = refl

  number_is : (test : Command → Bool) (v : Variable) → live_number test d routes n v ≡ number_by (live_commands test d routes) (live_pairs test d routes) n v
  number_is test (Given c i) = refl
  number_is test (Before e c) = refl
  number_is test (By i) = refl

  number_alike : (v : Variable) → live_number other d routes n v ≡ live_number live d routes n v
  number_alike v = number_is other v ∙ (ap₂ (λ cs ps. number_by cs ps n v) (are_sets live d routes) (pairs_alike live d routes) ∙ sym (number_is live v))

  written_alike : (cl : Clause) → map (live_numbered other d routes n) cl ≡ map (live_numbered live d routes n) cl
  written_alike cl = map_alike (live_numbered other d routes n) (live_numbered live d routes n) cl (λ l k. ap (λ v. let x : Lit = record { var = v; negated = l.negated } in x) (number_alike l.variable))

  module _ (cl : Clause) (known : KnownAll d routes n cl) where
    denies_alike : denies_dead other cl ≡ denies_dead live cl
    denies_alike = any_alike (λ l. l.negated && is_dead other l.variable) (λ l. l.negated && is_dead live l.variable) cl (λ l k. ap (λ b. l.negated && b) (dead_alike l.variable (known l k)))

    without_alike : without_dead other cl ≡ without_dead live cl
    without_alike = filter_alike (λ l. not (is_dead other l.variable)) (λ l. not (is_dead live l.variable)) cl (λ l k. ap not (dead_alike l.variable (known l k)))

    -- what is left of a clause is the same by both
    pub left_alike : left_of other d routes n cl ≡ left_of live d routes n cl
    left_alike =
        ap₂ (λ b c. if b then None else Some (map (live_numbered other d routes n) c)) denies_alike without_alike
        ∙ ap (λ c. if denies_dead live cl then None else Some c) (written_alike (without_dead live cl))

  pub bases_alike : (turns : Turns) → 1 ≤ n → BasesAreAlike turns live d routes n
  bases_alike turns some =
      ap (λ cls. map (map (live_numbered other d routes n)) (map (without_dead other) cls))
      (filter_alike (λ cl. not (denies_dead other cl)) (λ cl. not (denies_dead live cl)) (sorted_clauses turns d routes n) (λ cl m. ap not (denies_alike cl (sorted_known turns d routes n some cl m))))
      ∙ (ap (map (map (live_numbered other d routes n)))
      (map_alike (without_dead other) (without_dead live) (filter (λ cl. not (denies_dead live cl)) (sorted_clauses turns d routes n))
      (λ cl m. without_alike cl (sorted_known turns d routes n some cl (in_filter_back (λ x. not (denies_dead live x)) (sorted_clauses turns d routes n) cl m).0)))
      ∙ map_alike (map (live_numbered other d routes n)) (map (live_numbered live d routes n)) (map (without_dead live) (filter (λ cl. not (denies_dead live cl)) (sorted_clauses turns d routes n))) (λ cl m. written_alike cl))

-- ---- all commands

module _ (d : Station) (routes : List Route) where
  among_all : (c : Command) → In c (all_commands d routes) → is_among (all_commands d routes) c ≡ true
  among_all c m = list_any_from (is_command c) (all_commands d routes) c m (is_command_self c)

  pub all_are_a_set : AllAreASet d routes
  all_are_a_set = filter_every (is_among (all_commands d routes)) (all_commands d routes) among_all

  pub all_named : AllNamed d routes
  all_named c t r =
      let low = t.0 in
      let high = t.1 in
      let first = r.0 in
      let last = r.1 in
      among_all c (in_flat_map (commands_of routes) (trains d) c.train c
      (in_map train_no (one_to (length d.trains)) c.train.0 (in_count 1 (length d.trains) c.train.0 (omega arith) (omega arith)))
      (in_map (λ (q : RouteNo). record { train = c.train; route = q }) (route_numbers routes) c.route
      (in_map (λ q. record { 0 = q }) (one_to (length routes)) c.route.0 (in_count 1 (length routes) c.route.0 (omega arith) (omega arith)))))

  pub all_pairs_are : AllPairs d routes
  all_pairs_are = filter_every (both_live (is_among (all_commands d routes))) (pairs d routes) (λ p m. let both = of_pair d routes p m in and_both _ _ (among_all p.0 both.0) (among_all p.1 both.1))

-- ---- the routes of a train

-- each command of a design is of one of its routes
pub of_a_route : (d : Station) (routes : List Route) (c : Command) → In c (all_commands d routes) → IsRoute routes c.route
of_a_route d routes c m =
    let one = in_flat_map_back (commands_of routes) (trains d) c m in
    let two = in_map_back (λ (r : RouteNo). record { train = one.0; route = r }) (route_numbers routes) c one.2 in
    subst (IsRoute routes) (ap (λ (x : Command). x.route) two.2) (in_numbers_back routes two.0 two.1)
  where
    in_numbers_back : (routes : List Route) (r : RouteNo) → In r (route_numbers routes) → IsRoute routes r
    in_numbers_back routes r m = some_within routes (λ q. true) r (subst (λ (xs : List RouteNo). In r xs) (sym (filter_every (λ q. true) (route_numbers routes) (λ q k. refl))) m)

-- and of one of its trains
pub of_a_train : (d : Station) (routes : List Route) (c : Command) → In c (all_commands d routes) → (1 ≤ c.train.0) × (c.train.0 ≤ length d.trains)
of_a_train d routes c m =
    let one = in_flat_map_back (commands_of routes) (trains d) c m in
    let two = in_map_back (λ (r : RouteNo). record { train = one.0; route = r }) (route_numbers routes) c one.2 in
    let three = in_map_back train_no (one_to (length d.trains)) one.0 one.1 in
    let range = in_count_back 1 (length d.trains) three.0 three.1 in
    let low = range.0 in
    let high = range.1 in
    let same : three.0 ≡ c.train.0 = ap (λ (t : TrainNo). t.0) three.2 ∙ ap (λ (x : Command). x.train.0) two.2 in
    (omega arith, omega arith)

-- in a design they are those that pass
pub given_live : (cs : List Command) (d : Station) (routes : List Route) → AreCommandsOf d routes cs → (t : TrainNo) → routes_given t cs ≡ live_routes (is_among cs) routes t
given_live cs d routes are t = go (below_or_not t.0 1) (below_or_not (length d.trains) t.0)
  where
    row : ℕ → List RouteNo
    row n = live_routes (is_among cs) routes (train_no n)

    by_numbers : cs ≡ flat_map (λ n. commands_in n (live_routes (is_among cs) routes (train_no n))) (one_to (length d.trains))
    by_numbers = sym are ∙ (live_by_trains d routes (is_among cs) ∙ flat_mapped (λ t. map (λ r. record { train = t; route = r }) (live_routes (is_among cs) routes t)) train_no (one_to (length d.trains)))

    none : (t.0 < 1) ⊎ (length d.trains < t.0) → live_routes (is_among cs) routes t ≡ []
    none h = filter_none (is_live_for (is_among cs) t) (route_numbers routes) (λ r m. false_unless (is_among cs (record { train = t; route = r })) (λ k.
        let c : Command = record { train = t; route = r } in
        let g = list_any_gives (is_command c) cs k in
        let there = in_filter_back (is_among cs) (all_commands d routes) g.0 (subst (λ (xs : List Command). In g.0 xs) (sym are) g.1) in
        let range = of_a_train d routes g.0 there.0 in
        let low = range.0 in
        let high = range.1 in
        let same : g.0.train.0 ≡ t.0 = ap (λ (x : Command). x.train.0) (is_command_same c g.0 g.2) in
        elim h [ inl a ↦ absurd (omega arith) | inr b ↦ absurd (omega arith) ]))

    go : (t.0 < 1) ⊎ (1 ≤ t.0) → (length d.trains < t.0) ⊎ (t.0 ≤ length d.trains) → routes_given t cs ≡ live_routes (is_among cs) routes t
    go (inl a) h = ap (routes_given t) by_numbers ∙ (given_none row (length d.trains) t (inl a) ∙ sym (none (inl a)))
    go (inr a) (inl b) = ap (routes_given t) by_numbers ∙ (given_none row (length d.trains) t (inr b) ∙ sym (none (inr b)))
    go (inr a) (inr b) = ap (routes_given t) by_numbers ∙ given_of row (length d.trains) t a b

-- the commands, train by train
pub set_by_trains : (cs : List Command) (d : Station) (routes : List Route) → AreCommandsOf d routes cs → cs ≡ flat_map (λ n. commands_in n (routes_given (train_no n) cs)) (one_to (length d.trains))
set_by_trains cs d routes are =
    sym are ∙ (live_by_trains d routes (is_among cs) ∙ (flat_mapped (λ t. map (λ r. record { train = t; route = r }) (live_routes (is_among cs) routes t)) train_no (one_to (length d.trains))
    ∙ flat_same (λ n. commands_in n (live_routes (is_among cs) routes (train_no n))) (λ n. commands_in n (routes_given (train_no n) cs)) (one_to (length d.trains)) (λ n m. ap (commands_in n) (sym (given_live cs d routes are (train_no n))))))

-- none stands twice
pub set_differs : (cs : List Command) (d : Station) (routes : List Route) → AreCommandsOf d routes cs → Distinct cs
set_differs cs d routes are = subst (λ (xs : List Command). Distinct xs) are (distinct_filter (is_among cs) (all_commands d routes)
    (distinct_flat_map (commands_of routes) (λ (c : Command). c.train) (trains d)
    (λ t. distinct_map (λ (r : RouteNo). record { train = t; route = r }) (route_numbers routes) (λ x y same. ap (λ (c : Command). c.route) same)
    (distinct_map (λ n. record { 0 = n }) (one_to (length routes)) (λ x y same. ap (λ (r : RouteNo). r.0) same) (distinct_count 1 (length routes))))
    (λ t c m. let back = in_map_back (λ (r : RouteNo). record { train = t; route = r }) (route_numbers routes) c m in sym (ap (λ (x : Command). x.train) back.2))
    (distinct_map train_no (one_to (length d.trains)) (λ x y same. ap (λ (t : TrainNo). t.0) same) (distinct_count 1 (length d.trains)))))
