-- What the clauses say of any values that make them all true.
use Rattle.std.proofs.Common.{◌≡◌, ℕ, zero, suc, ◌+◌, ◌-◌, ◌≤◌, ◌<◌, ◌⊎◌, inl, inr, Bool, true, false, not, ◌&&◌, ◌||◌, ◌==◌, if◌then◌else◌, List, [], ◌∷◌, ◌++◌, map, flat_map, filter, length, refl, sym, ap, subst, ◌∙◌, arith, true≢false, nat_lt, le-leb, eqb-true, eq-eqb, ℤ}
use Rattle.std.specs.List.{list_all}
use Rattle.rail_base.specs.declared.station.Station.{Station}
use Rattle.rail_base.specs.declared.station.SectionNo.{SectionNo}
use Rattle.rail_base.specs.declared.station.NodeNo.{NodeNo}
use Rattle.rail_base.specs.declared.station.TrainNo.{TrainNo}
use Rattle.rail_base.specs.declared.route.Route.{Route}
use Rattle.rail_base.specs.declared.route.RouteNo.{RouteNo}
use Rattle.rail_base.specs.declared.route.Start.{Start}
use Rattle.rail_base.specs.declared.route.Start.TheVariants as start
use Rattle.rail_base.specs.declared.plan.Command.{Command}
use Rattle.rail_base.specs.Numbering.{one_to}
use Rattle.rail_base.specs.Stations.{trains, train_of, first_visit}
use Rattle.rail_spec.specs.Plans.{route_at, is_train, is_start, goes_on, end_at_one_signal, starts_in, has_node, share, has_section, sections, route_numbers, all_commands, contend}
use Rattle.rail_base.proofs.Members.{In, and_left, and_right, and_both, list_all_at, list_any_gives, list_any_from, in_filter, below_or_not, is_false, false_unless}
use Rattle.rail_base.proofs.Sharing.{has_when_in, in_sections}
use Rattle.sat_clause.specs.Clauses.{clause_holds}
use Rattle.clause_spec.specs.Variables.{Variable, Given, Before, Literal, yes, no, if_given, pairs, numbered, number_of}
use Rattle.clause_spec.specs.Clauses.{Clause, at_boundary, exclude, later_pairs, leading_to, onward, chains, start_clause, not_both, clearing, wait_clause, clauses, base_clauses}
use Rattle.clause_spec.specs.Models.{literal_holds, holds, given_by}
use Rattle.clause_spec.proofs.Lists.{in_later_from}
use Rattle.clause_spec.proofs.Steps.{cmd}
use Rattle.clause_spec.proofs.Truth.{some_true}
use Rattle.clause_spec.proofs.Places.{pair_from, start_sym, finish_sym}
use Rattle.clause_spec.proofs.Numbers.{clause_says}
use Rattle.clause_spec.proofs.Families.{OfEach, of_families}
use Rattle.rail_base.proofs.Lists.{in_map_back, in_map, in_flat_map_back, in_flat_map, in_filter_back, in_count, in_append_left, in_append_right, in_append}

says_no : (says : Variable → Bool) (v : Variable) (l : Literal) → no v ≡ l → literal_holds says l ≡ true → says v ≡ false
says_no says v l e h = is_false (says v) (ap (literal_holds says) e ∙ h)

says_yes : (says : Variable → Bool) (v : Variable) (l : Literal) → yes v ≡ l → literal_holds says l ≡ true → says v ≡ true
says_yes says v l e h = ap (literal_holds says) e ∙ h

says_given : (says : Variable → Bool) (c : Command) (i : ℕ) (l : Literal) → In l (if_given c i) → literal_holds says l ≡ true → given_by says c i ≡ true
says_given says c zero l m h = absurd m
says_given says c (suc i) l (inl e) h = says_yes says (Given c (suc i)) l e h
says_given says c (suc i) l (inr m) h = absurd m

boundary_in : (set : List NodeNo) (s : Start) → starts_in set s ≡ true → at_boundary s ≡ true
boundary_in set (start.Boundary n) h = refl
boundary_in set (start.Signal q) h = absurd (true≢false (sym h))

pub starts_at_boundary : (set : List NodeNo) (s : Start) → starts_in set s ≡ true → at_boundary s ≡ true
starts_at_boundary = boundary_in

-- the first, the second or the third
three : (a b c : Bool) → (a || b || c) ≡ true → (a ≡ true) ⊎ ((b ≡ true) ⊎ (c ≡ true))
three true b c h = inl refl
three false true c h = inr (inl refl)
three false false true h = inr (inr refl)
three false false false h = absurd (true≢false (sym h))

or_left : (a b c : Bool) → a ≡ true → (a || b || c) ≡ true
or_left a b c h = cc

pub exclude_boundaries : (r q : Route) → at_boundary r.start ≡ true → at_boundary q.start ≡ true → exclude r q ≡ true
exclude_boundaries r q h k = go (at_boundary r.start && at_boundary q.start) (is_start r.start q.start) (end_at_one_signal r.finish q.finish) (and_both (at_boundary r.start) (at_boundary q.start) h k)
  where
    go : (a b c : Bool) → a ≡ true → (a || b || c) ≡ true
    go true b c h = refl
    go false b c h = absurd (true≢false (sym h))

pub exclude_starts : (r q : Route) → is_start r.start q.start ≡ true → exclude r q ≡ true
exclude_starts r q h = go (at_boundary r.start && at_boundary q.start) (is_start r.start q.start) (end_at_one_signal r.finish q.finish) h
  where
    go : (a b c : Bool) → b ≡ true → (a || b || c) ≡ true
    go true b c h = refl
    go false true c h = refl
    go false false c h = absurd (true≢false (sym h))

pub exclude_ends : (r q : Route) → end_at_one_signal r.finish q.finish ≡ true → exclude r q ≡ true
exclude_ends r q h = go (at_boundary r.start && at_boundary q.start) (is_start r.start q.start) (end_at_one_signal r.finish q.finish) h
  where
    go : (a b c : Bool) → c ≡ true → (a || b || c) ≡ true
    go true b c h = refl
    go false true c h = refl
    go false false c h = h

exclude_sym : (r q : Route) → exclude r q ≡ true → exclude q r ≡ true
exclude_sym r q h = go (three (at_boundary r.start && at_boundary q.start) (is_start r.start q.start) (end_at_one_signal r.finish q.finish) h)
  where
    go : ((at_boundary r.start && at_boundary q.start) ≡ true) ⊎ ((is_start r.start q.start ≡ true) ⊎ (end_at_one_signal r.finish q.finish ≡ true)) → exclude q r ≡ true
    go (inl a) = exclude_boundaries q r (and_right (at_boundary r.start) (at_boundary q.start) a) (and_left (at_boundary r.start) (at_boundary q.start) a)
    go (inr (inl a)) = exclude_starts q r (start_sym r.start q.start a)
    go (inr (inr a)) = exclude_ends q r (finish_sym r.finish q.finish a)

share_sym : (r q : Route) → share r q ≡ true → share q r ≡ true
share_sym r q h =
    let f = list_any_gives (has_section q) (sections r) h in
    list_any_from (has_section r) (sections q) f.0 (in_sections q f.0 f.2) (has_when_in r f.0 f.1)

train_differs : (e c : Command) → is_train e.train c.train ≡ false → is_train c.train e.train ≡ false
train_differs e c h = false_unless (is_train c.train e.train) (λ k. true≢false (sym (eq-eqb e.train.0 c.train.0 (sym (eqb-true c.train.0 e.train.0 k))) ∙ h))

pub contend_sym : (routes : List Route) (e c : Command) → contend routes e c ≡ true → contend routes c e ≡ true
contend_sym routes e c h = and_both (not (is_train c.train e.train)) _ (ap not (train_differs e c (is_false (is_train e.train c.train) (and_left (not (is_train e.train c.train)) _ h))))
    (share_sym (route_at routes e.route) (route_at routes c.route) (and_right (not (is_train e.train c.train)) _ h))

same_number : (r q : RouteNo) → (r ≡ q) ⊎ (r ≡ q → ⊥)
same_number r q = go (r.0 == q.0) refl
  where
    go : (b : Bool) → (r.0 == q.0) ≡ b → (r ≡ q) ⊎ (r ≡ q → ⊥)
    go true e = inl (ap (λ n. record { 0 = n }) (eqb-true r.0 q.0 e))
    go false e = inr (λ f. true≢false (sym (eq-eqb r.0 q.0 (ap (λ (x : RouteNo). x.0) f)) ∙ e))

module _ (d : Station) (routes : List Route) (n : ℕ) (says : Variable → Bool) where
  -- the values make all clauses true
  abbrev pub AllTrue : Type 0
  AllTrue = OfEach d routes n (λ cl. holds says cl ≡ true)

  module _ (all : AllTrue) where
    -- what is given stays given
    pub stays : (c : Command) (i : ℕ) → In c (all_commands d routes) → 1 ≤ i → i + 1 ≤ n → says (Given c i) ≡ true → says (Given c (i + 1)) ≡ true
    stays c i m low high h =
        let clause : ℕ → Clause = λ j. no (Given c j) ∷ yes (Given c (j + 1)) ∷ [] in
        let t = all.stays c m (clause i) (in_map clause (one_to (n - 1)) i (in_count 1 (n - 1) i low (omega arith))) in
        go (some_true says (clause i) t)
      where
        go : (l : Literal) × In l (no (Given c i) ∷ yes (Given c (i + 1)) ∷ []) × (literal_holds says l ≡ true) → says (Given c (i + 1)) ≡ true
        go (l, inl e, k) = absurd (true≢false (sym h ∙ says_no says (Given c i) l e k))
        go (l, inr (inl e), k) = says_yes says (Given c (i + 1)) l e k
        go (l, inr (inr x), k) = absurd x

    pub given_later : (c : Command) (i more : ℕ) → In c (all_commands d routes) → i + more ≤ n → given_by says c i ≡ true → given_by says c (i + more) ≡ true
    given_later c zero more m h k = absurd (true≢false (sym k))
    given_later c (suc i) zero m h k = subst (λ j. given_by says c j ≡ true) (zero_more (suc i)) k
      where
        zero_more : (j : ℕ) → j ≡ j + 0
        zero_more j = omega arith
    given_later c (suc i) (suc more) m h k =
        let next = given_later c (suc i) more m (omega arith) k in
        subst (λ j. given_by says c j ≡ true) (join i more) (subst (λ j. says (Given c j) ≡ true) (up (i + more)) (stays c (suc (i + more)) m (omega arith) (omega arith) (subst (λ j. given_by says c j ≡ true) (split i more) next)))
      where
        join : (i more : ℕ) → suc (suc (i + more)) ≡ suc i + suc more
        join i more = omega arith

        up : (j : ℕ) → suc j + 1 ≡ suc (suc j)
        up j = omega arith

        split : (i more : ℕ) → suc i + more ≡ suc (i + more)
        split i more = omega arith

    pub given_up_to : (c : Command) (i j : ℕ) → In c (all_commands d routes) → i ≤ j → j ≤ n → given_by says c i ≡ true → given_by says c j ≡ true
    given_up_to c i j m h l k = subst (λ x. given_by says c x ≡ true) (meet i j h) (given_later c i (j - i) m (omega arith) k)
      where
        meet : (i j : ℕ) → i ≤ j → i + (j - i) ≡ j
        meet i j h = omega arith

    -- a route that leads to the start of another and is given before it
    pub record Led (c : Command) (i : ℕ) : Type 0 where
      pub route : RouteNo
      pub known : In route (route_numbers routes)
      pub goes : goes_on (route_at routes route).finish (route_at routes c.route).start ≡ true
      pub given : given_by says (cmd c.train route) (i - 1) ≡ true

    pub led : (c : Command) (i : ℕ) → In c (all_commands d routes) → 1 ≤ i → i ≤ n → says (Given c i) ≡ true → (starts_in (first_visit (train_of d c.train)) (route_at routes c.route).start ≡ true) ⊎ Led c i
    led c i m low high h = at (route_at routes c.route).start refl
      where
        here : (cl : Clause) → In cl (start_clause d routes n c (route_at routes c.route).start i) → holds says cl ≡ true
        here cl k = all.starts c m cl (in_flat_map (start_clause d routes n c (route_at routes c.route).start) (one_to n) i cl (in_count 1 n i low (omega arith)) k)

        boundary : (b : NodeNo) → (route_at routes c.route).start ≡ start.Boundary b → (x : Bool) → has_node (first_visit (train_of d c.train)) b ≡ x → (starts_in (first_visit (train_of d c.train)) (route_at routes c.route).start ≡ true) ⊎ Led c i
        boundary b e true f = inl (ap (starts_in (first_visit (train_of d c.train))) e ∙ f)
        boundary b e false f =
            let start_of : Start → List Clause = λ s. start_clause d routes n c s i in
            let out : In (no (Given c i) ∷ []) (if has_node (first_visit (train_of d c.train)) b then [] else (no (Given c i) ∷ []) ∷ []) = subst (λ y. In (no (Given c i) ∷ []) (if y then [] else (no (Given c i) ∷ []) ∷ [])) (sym f) (inl refl) in
            let t = here (no (Given c i) ∷ []) (subst (λ s. In (no (Given c i) ∷ []) (start_of s)) (sym e) out) in
            absurd (no_one (some_true says (no (Given c i) ∷ []) t))
          where
            no_one : (l : Literal) × In l (no (Given c i) ∷ []) × (literal_holds says l ≡ true) → ⊥
            no_one (l, inl g, k) = true≢false (sym h ∙ says_no says (Given c i) l g k)
            no_one (l, inr x, k) = x

        at : (s : Start) → (route_at routes c.route).start ≡ s → (starts_in (first_visit (train_of d c.train)) (route_at routes c.route).start ≡ true) ⊎ Led c i
        at (start.Boundary b) e = boundary b e (has_node (first_visit (train_of d c.train)) b) refl
        at (start.Signal q) e =
            let before : Clause = flat_map (λ q. if_given (cmd c.train q) (i - 1)) (leading_to routes (start.Signal q)) in
            let start_of : Start → List Clause = λ s. start_clause d routes n c s i in
            let out : In (no (Given c i) ∷ before) (start_of (start.Signal q)) = inl refl in
            let t = here (no (Given c i) ∷ before) (subst (λ s. In (no (Given c i) ∷ before) (start_of s)) (sym e) out) in
            one (some_true says (no (Given c i) ∷ before) t)
          where
            one : (l : Literal) × In l (no (Given c i) ∷ flat_map (λ q. if_given (cmd c.train q) (i - 1)) (leading_to routes (start.Signal q))) × (literal_holds says l ≡ true) → (starts_in (first_visit (train_of d c.train)) (route_at routes c.route).start ≡ true) ⊎ Led c i
            one (l, inl g, k) = absurd (true≢false (sym h ∙ says_no says (Given c i) l g k))
            one (l, inr x, k) =
                let f = in_flat_map_back (λ q. if_given (cmd c.train q) (i - 1)) (leading_to routes (start.Signal q)) l x in
                let g = in_filter_back (λ p. goes_on (route_at routes p).finish (start.Signal q)) (route_numbers routes) f.0 f.1 in
                inr (record { route = f.0; known = g.0; goes = subst (λ s. goes_on (route_at routes f.0).finish s ≡ true) (sym e) g.1; given = says_given says (cmd c.train f.0) (i - 1) l f.2 k })

    -- of two routes that exclude each other a train is given one at most
    pub one_of : (t : TrainNo) (r q : RouteNo) → In t (trains d) → In r (route_numbers routes) → In q (route_numbers routes) → says (Given (cmd t r) n) ≡ true → says (Given (cmd t q) n) ≡ true → exclude (route_at routes r) (route_at routes q) ≡ true → r ≡ q
    one_of t r q m a b g h x = go (same_number r q)
      where
        both : (p : RouteNo × RouteNo) → In p (later_pairs (route_numbers routes)) → exclude (route_at routes p.0) (route_at routes p.1) ≡ true → says (Given (cmd t p.0) n) ≡ true → says (Given (cmd t p.1) n) ≡ true → ⊥
        both p k x g h =
            let c = all.excludes t m (not_both d routes n t p) (in_map (not_both d routes n t) (filter (λ p. exclude (route_at routes p.0) (route_at routes p.1)) (later_pairs (route_numbers routes))) p (in_filter (λ p. exclude (route_at routes p.0) (route_at routes p.1)) (later_pairs (route_numbers routes)) p k x)) in
            at (some_true says (not_both d routes n t p) c)
          where
            at : (l : Literal) × In l (no (Given (cmd t p.0) n) ∷ no (Given (cmd t p.1) n) ∷ []) × (literal_holds says l ≡ true) → ⊥
            at (l, inl e, k) = true≢false (sym g ∙ says_no says (Given (cmd t p.0) n) l e k)
            at (l, inr (inl e), k) = true≢false (sym h ∙ says_no says (Given (cmd t p.1) n) l e k)
            at (l, inr (inr y), k) = y

        pair : In (r, q) (later_pairs (route_numbers routes)) ⊎ In (q, r) (later_pairs (route_numbers routes)) → ⊥
        pair (inl k) = both (r, q) k x g h
        pair (inr k) = both (q, r) k (exclude_sym (route_at routes r) (route_at routes q) x) h g

        go : (r ≡ q) ⊎ (r ≡ q → ⊥) → r ≡ q
        go (inl e) = e
        go (inr f) = absurd (pair (in_later_from (route_numbers routes) r q a b f))

    -- two that contend aren't given in one step
    pub not_at_one : (e c : Command) (i : ℕ) → In e (all_commands d routes) → In c (all_commands d routes) → contend routes e c ≡ true → 1 ≤ i → i ≤ n
        → says (Given e i) ≡ true → given_by says e (i - 1) ≡ false → says (Given c i) ≡ true → given_by says c (i - 1) ≡ false → ⊥
    not_at_one e c i a b con low high g x h y = go (below_or_not e.train.0 c.train.0) (below_or_not c.train.0 e.train.0)
      where
        clash : (e c : Command) → In (e, c) (pairs d routes) → e.train.0 < c.train.0 → says (Given e i) ≡ true → given_by says e (i - 1) ≡ false → says (Given c i) ≡ true → given_by says c (i - 1) ≡ false → ⊥
        clash e c k l g x h y =
            let clause : ℕ → Clause = λ i. no (Given e i) ∷ if_given e (i - 1) ++ no (Given c i) ∷ if_given c (i - 1) in
            let first = in_filter (λ (p : Command × Command). nat_lt p.0.train.0 p.1.train.0) (pairs d routes) (e, c) k (le-leb (suc e.train.0) c.train.0 (omega arith)) in
            let t = all.apart (e, c) first (clause i) (in_map clause (one_to n) i (in_count 1 n i low (omega arith))) in
            at (some_true says (clause i) t)
          where
            rest : (l : Literal) → In l (if_given e (i - 1)) ⊎ In l (no (Given c i) ∷ if_given c (i - 1)) → literal_holds says l ≡ true → ⊥
            rest l (inl z) k = true≢false (sym (says_given says e (i - 1) l z k) ∙ x)
            rest l (inr (inl z)) k = true≢false (sym h ∙ says_no says (Given c i) l z k)
            rest l (inr (inr z)) k = true≢false (sym (says_given says c (i - 1) l z k) ∙ y)

            at : (l : Literal) × In l (no (Given e i) ∷ if_given e (i - 1) ++ no (Given c i) ∷ if_given c (i - 1)) × (literal_holds says l ≡ true) → ⊥
            at (l, inl z, k) = true≢false (sym g ∙ says_no says (Given e i) l z k)
            at (l, inr z, k) = rest l (in_append l (if_given e (i - 1)) (no (Given c i) ∷ if_given c (i - 1)) z) k

        go : (e.train.0 < c.train.0) ⊎ (c.train.0 ≤ e.train.0) → (c.train.0 < e.train.0) ⊎ (e.train.0 ≤ c.train.0) → ⊥
        go (inl l) other = clash e c (pair_from d routes e c a b con) l g x h y
        go (inr l) (inl k) = clash c e (pair_from d routes c e b a (contend_sym routes e c con)) k h y g x
        go (inr l) (inr k) =
            let same : e.train.0 ≡ c.train.0 = omega arith in
            true≢false (sym (eq-eqb e.train.0 c.train.0 same) ∙ is_false (is_train e.train c.train) (and_left (not (is_train e.train c.train)) _ con))

    -- where a chain is all given before a command that contends with its first, so is a route with which it goes on
    pub goes_further : (e c : Command) (chain : List RouteNo × RouteNo) (i : ℕ) → In e (all_commands d routes) → In c (all_commands d routes) → contend routes e c ≡ true → 1 ≤ i → i + 1 ≤ n
        → In chain (chains routes (length routes) (clearing d routes n e c) [] e.route) → ((r : RouteNo) → In r chain.0 → says (Given (cmd e.train r) i) ≡ true)
        → says (Given c (i + 1)) ≡ true → says (Given c i) ≡ false → (w : RouteNo) × In w (onward routes chain.0 chain.1) × (says (Given (cmd e.train w) i) ≡ true)
    goes_further e c chain i a b con low high m g h x =
        let t = all.waits (e, c) (pair_from d routes e c a b con) (wait_clause d routes n e c chain i) (in_flat_map (λ chain. map (wait_clause d routes n e c chain) (one_to (n - 1))) (chains routes (length routes) (clearing d routes n e c) [] e.route) chain (wait_clause d routes n e c chain i) m
        (in_map (wait_clause d routes n e c chain) (one_to (n - 1)) i (in_count 1 (n - 1) i low (omega arith)))) in
        go (some_true says (wait_clause d routes n e c chain i) t)
      where
        at : (l : Literal) → In l (map (λ w. no (Given (cmd e.train w) i)) chain.0) ⊎ In l (no (Given c (i + 1)) ∷ yes (Given c i) ∷ map (λ w. yes (Given (cmd e.train w) i)) (onward routes chain.0 chain.1)) → literal_holds says l ≡ true
            → (w : RouteNo) × In w (onward routes chain.0 chain.1) × (says (Given (cmd e.train w) i) ≡ true)
        at l (inl y) k = let f = in_map_back (λ w. no (Given (cmd e.train w) i)) chain.0 l y in absurd (true≢false (sym (g f.0 f.1) ∙ says_no says (Given (cmd e.train f.0) i) l f.2 k))
        at l (inr (inl y)) k = absurd (true≢false (sym h ∙ says_no says (Given c (i + 1)) l y k))
        at l (inr (inr (inl y))) k = absurd (true≢false (sym (says_yes says (Given c i) l y k) ∙ x))
        at l (inr (inr (inr y))) k = let f = in_map_back (λ w. yes (Given (cmd e.train w) i)) (onward routes chain.0 chain.1) l y in (f.0, f.1, says_yes says (Given (cmd e.train f.0) i) l f.2 k)

        go : (l : Literal) × In l (wait_clause d routes n e c chain i) × (literal_holds says l ≡ true) → (w : RouteNo) × In w (onward routes chain.0 chain.1) × (says (Given (cmd e.train w) i) ≡ true)
        go (l, y, k) = at l (in_append l (map (λ w. no (Given (cmd e.train w) i)) chain.0) (no (Given c (i + 1)) ∷ yes (Given c i) ∷ map (λ w. yes (Given (cmd e.train w) i)) (onward routes chain.0 chain.1)) y) k

    -- what is said to be before is
    pub before_used : (e c : Command) → In (e, c) (pairs d routes) → says (Before e c) ≡ true → says (Given c n) ≡ true
    before_used e c m h = go (some_true says (no (Before e c) ∷ yes (Given c n) ∷ []) (all.orders (e, c) m (no (Before e c) ∷ yes (Given c n) ∷ []) (inl refl)))
      where
        go : (l : Literal) × In l (no (Before e c) ∷ yes (Given c n) ∷ []) × (literal_holds says l ≡ true) → says (Given c n) ≡ true
        go (l, inl y, k) = absurd (true≢false (sym h ∙ says_no says (Before e c) l y k))
        go (l, inr (inl y), k) = says_yes says (Given c n) l y k
        go (l, inr (inr y), k) = absurd y

    pub before_earlier : (e c : Command) (i : ℕ) → In (e, c) (pairs d routes) → 1 ≤ i → i ≤ n → says (Before e c) ≡ true → says (Given c i) ≡ true → given_by says e (i - 1) ≡ true
    before_earlier e c i m low high h g =
        let clause : ℕ → Clause = λ i. no (Before e c) ∷ no (Given c i) ∷ if_given e (i - 1) in
        let later : ℕ → Clause = λ i. yes (Before e c) ∷ no (Given e i) ∷ yes (Given c i) ∷ no (Given c n) ∷ [] in
        let t = all.orders (e, c) m (clause i) (inr (in_append_left (clause i) (map clause (one_to n)) (map later (one_to (n - 1))) (in_map clause (one_to n) i (in_count 1 n i low (omega arith))))) in
        go (some_true says (clause i) t)
      where
        go : (l : Literal) × In l (no (Before e c) ∷ no (Given c i) ∷ if_given e (i - 1)) × (literal_holds says l ≡ true) → given_by says e (i - 1) ≡ true
        go (l, inl y, k) = absurd (true≢false (sym h ∙ says_no says (Before e c) l y k))
        go (l, inr (inl y), k) = absurd (true≢false (sym g ∙ says_no says (Given c i) l y k))
        go (l, inr (inr y), k) = says_given says e (i - 1) l y k

    pub earlier_before : (e c : Command) (i : ℕ) → In (e, c) (pairs d routes) → 1 ≤ i → i + 1 ≤ n → says (Given e i) ≡ true → says (Given c i) ≡ false → says (Given c n) ≡ true → says (Before e c) ≡ true
    earlier_before e c i m low high g x h =
        let clause : ℕ → Clause = λ i. no (Before e c) ∷ no (Given c i) ∷ if_given e (i - 1) in
        let later : ℕ → Clause = λ i. yes (Before e c) ∷ no (Given e i) ∷ yes (Given c i) ∷ no (Given c n) ∷ [] in
        let t = all.orders (e, c) m (later i) (inr (in_append_right (later i) (map clause (one_to n)) (map later (one_to (n - 1))) (in_map later (one_to (n - 1)) i (in_count 1 (n - 1) i low (omega arith))))) in
        go (some_true says (later i) t)
      where
        go : (l : Literal) × In l (yes (Before e c) ∷ no (Given e i) ∷ yes (Given c i) ∷ no (Given c n) ∷ []) × (literal_holds says l ≡ true) → says (Before e c) ≡ true
        go (l, inl y, k) = says_yes says (Before e c) l y k
        go (l, inr (inl y), k) = absurd (true≢false (sym g ∙ says_no says (Given e i) l y k))
        go (l, inr (inr (inl y)), k) = absurd (true≢false (sym (says_yes says (Given c i) l y k) ∙ x))
        go (l, inr (inr (inr (inl y))), k) = absurd (true≢false (sym h ∙ says_no says (Given c n) l y k))
        go (l, inr (inr (inr (inr y))), k) = absurd y

-- values of numbers that make the base true make each family true
pub all_true : (d : Station) (routes : List Route) (n : ℕ) (values : ℕ → Bool) → list_all (clause_holds values) (base_clauses d routes n) ≡ true → AllTrue d routes n (λ v. values (number_of d routes n v))
all_true d routes n values h = of_families d routes n (λ cl. holds (λ v. values (number_of d routes n v)) cl ≡ true) (λ cl m.
    sym (clause_says d routes n values cl) ∙ list_all_at (clause_holds values) (base_clauses d routes n) (map (numbered d routes n) cl) h (in_map (map (numbered d routes n)) (clauses d routes n) cl m))
