-- What follows a leg in a path.
use Rattle.std.proofs.Common.{◌≡◌, ℕ, ◌+◌, ◌≤◌, inl, inr, Bool, true, false, not, ◌&&◌, ◌||◌, if◌then◌else◌, nat_le, List, [], ◌∷◌, ◌++◌, filter, take, length, refl, sym, ap, subst, ◌∙◌, arith, leb-true, le_refl, take_all, true≢false, append-nil}
use Rattle.std.proofs.lemmas.List.{take-append-le, append_assoc, length-append}
use Rattle.std.proofs.lemmas.List.Folds.{list_any-append}
use Rattle.std.specs.List.{list_any, list_all}
use Rattle.rail_base.specs.declared.station.Station.{Station}
use Rattle.rail_base.specs.declared.station.TrainNo.{TrainNo}
use Rattle.rail_base.specs.declared.route.Route.{Route}
use Rattle.rail_base.specs.declared.route.RouteNo.{RouteNo}
use Rattle.rail_base.specs.declared.route.Start.{Start}
use Rattle.rail_base.specs.declared.route.Finish.{Finish}
use Rattle.rail_base.specs.declared.route.Finish.TheVariants as finish
use Rattle.rail_base.specs.declared.plan.Command.{Command}
use Rattle.rail_base.specs.declared.state.TrainState.{TrainState}
use Rattle.rail_base.specs.Admitted.{IsAdmitted}
use Rattle.rail_base.specs.Members.{In, all_pairs, all_neighbors}
use Rattle.rail_base.specs.Stations.{IsTrain, train_of, first_visit}
use Rattle.rail_spec.specs.Track.{routes_of}
use Rattle.rail_spec.specs.Plans.{route_at, exits, path, path_routes, commands, is_start, goes_on, end_at_one_signal, begins_in}
use Rattle.rail_spec.specs.Feasible.{IsWellFormed, is_of}
use Rattle.rail_spec.specs.Dispatches.{state_of, of_plan, state_at}
use Rattle.rail_base.proofs.Members.{and_left, and_right, and_both, in_filter, list_all_at}
use Rattle.rail_base.proofs.Lists.{in_map, in_map_back, in_entry, in_append_right}
use Rattle.rail_laws.proofs.Standing.{in_path}
use Rattle.rail_laws.proofs.Admits.{sound, named_train, formed_path}
use Rattle.cone_spec.specs.Clauses.{goes_further}
use Rattle.free_spec.specs.Legs.{Leg, HasLeg, is_dead, with_next, least_over, following, least_whatever_follows}

-- ---- lists

later_neighbors : {X : Type 0} (test : X → X → Bool) (x : X) (zs : List X) → all_neighbors test (x ∷ zs) ≡ true → all_neighbors test zs ≡ true
later_neighbors test x [] h = refl
later_neighbors test x (z ∷ zs) h = and_right (test x z) _ h

pub neighbors_after : {X : Type 0} (test : X → X → Bool) (xs ys : List X) → all_neighbors test (xs ++ ys) ≡ true → all_neighbors test ys ≡ true
neighbors_after test [] ys h = h
neighbors_after test (x ∷ xs) ys h = neighbors_after test xs ys (later_neighbors test x (xs ++ ys) h)

pairs_after : {X : Type 0} (test : X → X → Bool) (xs ys : List X) → all_pairs test (xs ++ ys) ≡ true → all_pairs test ys ≡ true
pairs_after test [] ys h = h
pairs_after test (x ∷ xs) ys h = pairs_after test xs ys (and_right (list_all (test x) (xs ++ ys)) _ h)

-- a route that follows others in a row goes further than they
further : (r : Route) (rs : List Route) (q : Route) (more : List Route) → all_neighbors (λ r q. goes_on r.finish q.start) (r ∷ rs ++ q ∷ more) ≡ true → all_pairs (λ r q. not (is_start r.start q.start)) (r ∷ rs ++ q ∷ more) ≡ true → goes_further (r ∷ rs) q ≡ true
further r [] q more h k = and_both _ _ (and_left (goes_on r.finish q.start) _ h) (and_left (not (is_start r.start q.start)) _ (and_left (list_all (λ y. not (is_start r.start y.start)) (q ∷ more)) _ k))
further r (s ∷ rs) q more h k =
    and_both _ _ (list_all_at (λ (y : Route). not (is_start r.start y.start)) (s ∷ rs ++ q ∷ more) q (and_left (list_all (λ y. not (is_start r.start y.start)) (s ∷ rs ++ q ∷ more)) _ k) (inr (in_append_right q rs (q ∷ more) (inl refl))))
    (further s rs q more (and_right (goes_on r.finish s.start) _ h) (and_right (list_all (λ y. not (is_start r.start y.start)) (s ∷ rs ++ q ∷ more)) _ k))

none_after_dead : (f : Finish) (s : Start) → is_dead f ≡ true → goes_on f s ≡ true → ⊥
none_after_dead (finish.DeadEnd n) s h g = true≢false (sym g)
none_after_dead (finish.Exit n) s h g = true≢false (sym h)
none_after_dead (finish.Signal n) s h g = true≢false (sym h)

dead_stays : (r : Route) → is_dead r.finish ≡ true → exits r ≡ false
dead_stays r h = go r r.finish refl h
  where
    go : (r : Route) (f : Finish) → r.finish ≡ f → is_dead f ≡ true → exits r ≡ false
    go r (finish.DeadEnd n) e h = cc
    go r (finish.Exit n) e h = absurd (true≢false (sym h))
    go r (finish.Signal n) e h = absurd (true≢false (sym h))

-- ---- the least

least_of_first : (f : Leg → ℕ) (n : ℕ) (ls : List Leg) → least_over f n ls ≤ n
least_of_first f n [] = omega arith
least_of_first f n (l ∷ ls) = let k = least_of_first f n ls in omega arith

least_of_each : (f : Leg → ℕ) (n : ℕ) (ls : List Leg) (l : Leg) → In l ls → least_over f n ls ≤ f l
least_of_each f n [] l m = absurd m
least_of_each f n (a ∷ ls) l (inl e) = let k = ap f e in omega arith
least_of_each f n (a ∷ ls) l (inr m) = let k = least_of_each f n ls l m in omega arith

module _ (d : Station) (adm : IsAdmitted d) (n : ℕ) (plan : List (List Command)) (well : IsWellFormed d (routes_of d) n plan) where
  abbrev at : ℕ → TrainNo → TrainState
  at k t = state_of (state_at d (routes_of d) (of_plan (routes_of d) plan) k) t

  -- whose path has a command is a train
  pub has_train : (t : TrainNo) → 1 ≤ length (path plan t) → IsTrain d t
  has_train t some = go (path plan t) (λ r m. named_train d adm n plan well t r m) some
    where
      go : (rs : List RouteNo) → ((r : RouteNo) → In r rs → IsTrain d t) → 1 ≤ length rs → IsTrain d t
      go [] h l = absurd (omega arith)
      go (r ∷ rs) h l = h r (inl refl)

  -- the routes of a path are routes of the design
  pub of_design : (t : TrainNo) (q : Route) → In q (path_routes (routes_of d) plan t) → IsTrain d t × In q (routes_of d)
  of_design t q m = go (in_map_back (route_at (routes_of d)) (path plan t) q m)
    where
      go : ((p : RouteNo) × In p (path plan t) × (route_at (routes_of d) p ≡ q)) → IsTrain d t × In q (routes_of d)
      go (p, i, e) =
          let named = list_all_at (is_of d (routes_of d)) (commands plan) (record { train = t; route = p }) well.named (in_path t plan p i) in
          let high = leb-true _ _ (and_right (nat_le 1 t.0 && nat_le t.0 (length d.trains) && nat_le 1 p.0) _ named) in
          let low = leb-true _ _ (and_right (nat_le 1 t.0 && nat_le t.0 (length d.trains)) (nat_le 1 p.0) (and_left (nat_le 1 t.0 && nat_le t.0 (length d.trains) && nat_le 1 p.0) _ named)) in
          (named_train d adm n plan well t p i, subst (λ r. In r (routes_of d)) e (in_entry _ (routes_of d) p.0 low high))

  module _ (t : TrainNo) (before : List Route) (r : Route) (rs : List Route) (rest : Bool) (has : HasLeg (routes_of d) plan t before (record { routes = r ∷ rs; closed = false; rest = rest })) where
    whole : path_routes (routes_of d) plan t ≡ before ++ (r ∷ rs ++ has.more)
    whole = has.whole

    in_whole : (q : Route) → In q (r ∷ rs ++ has.more) → IsTrain d t × In q (routes_of d)
    in_whole q m = of_design t q (subst (In q) (sym whole) (in_append_right q before (r ∷ rs ++ has.more) m))

    named : IsTrain d t
    named = (in_whole r (inl refl)).0

    goes : all_neighbors (λ r q. goes_on r.finish q.start) (r ∷ rs ++ has.more) ≡ true
    goes =
        let all = formed_path d adm n plan well.formed t named in
        let xyz = and_left _ (all_pairs (λ r q. not (end_at_one_signal r.finish q.finish)) (path_routes (routes_of d) plan t)) all in
        let xy = and_left _ (all_pairs (λ r q. not (is_start r.start q.start)) (path_routes (routes_of d) plan t)) xyz in
        let y = and_right (begins_in (first_visit (train_of d t)) (path_routes (routes_of d) plan t)) _ xy in
        neighbors_after (λ r q. goes_on r.finish q.start) before (r ∷ rs ++ has.more) (subst (λ zs. all_neighbors (λ r q. goes_on r.finish q.start) zs ≡ true) whole y)

    starts : all_pairs (λ r q. not (is_start r.start q.start)) (r ∷ rs ++ has.more) ≡ true
    starts =
        let all = formed_path d adm n plan well.formed t named in
        let xyz = and_left _ (all_pairs (λ r q. not (end_at_one_signal r.finish q.finish)) (path_routes (routes_of d) plan t)) all in
        let z = and_right _ (all_pairs (λ r q. not (is_start r.start q.start)) (path_routes (routes_of d) plan t)) xyz in
        pairs_after (λ r q. not (is_start r.start q.start)) before (r ∷ rs ++ has.more) (subst (λ zs. all_pairs (λ r q. not (is_start r.start q.start)) zs ≡ true) whole z)

    -- no route before exits
    none_before : list_any exits before ≡ false
    none_before = go (list_any exits before) refl
      where
        go : (b : Bool) → list_any exits before ≡ b → list_any exits before ≡ false
        go false e = e
        go true e =
            let prefix : take (length before) (path_routes (routes_of d) plan t) ≡ before = ap (take (length before)) whole ∙ take-append-le (length before) before (r ∷ rs ++ has.more) (le_refl _) ∙ take_all (length before) before (le_refl _) in
            let last = (sound d adm n plan well.formed).exit_last t (length before) named (ap (list_any exits) prefix ∙ e) in
            let len : length (path_routes (routes_of d) plan t) ≡ length before + length (r ∷ rs ++ has.more) = ap length whole ∙ length-append before (r ∷ rs ++ has.more) in
            absurd (omega arith)

    module _ (f : Leg → ℕ) (c : ℕ) (by_leg : (l : Leg) → HasLeg (routes_of d) plan t before l → f l ≤ c) where
      followed : (more : List Route) → has.more ≡ more → list_any exits (r ∷ rs) ≡ false
          → least_over f (f (record { routes = r ∷ rs; closed = true; rest = rest })) (following (routes_of d) (r ∷ rs) rest) ≤ c
      followed [] e none =
          let own : HasLeg (routes_of d) plan t before (record { routes = r ∷ rs; closed = true; rest = rest }) = record {
            more = has.more;
            whole = whole;
            shut = λ s. (e, ap (list_any exits) (whole ∙ ap (λ zs. before ++ (r ∷ rs ++ zs)) e ∙ ap (λ zs. before ++ zs) (append-nil (r ∷ rs))) ∙ list_any-append exits before (r ∷ rs) ∙ ap (λ b. b || list_any exits (r ∷ rs)) none_before ∙ none);
            begins = has.begins;
          } in
          let a = by_leg (record { routes = r ∷ rs; closed = true; rest = rest }) own in
          let b = least_of_first f (f (record { routes = r ∷ rs; closed = true; rest = rest })) (following (routes_of d) (r ∷ rs) rest) in
          omega arith
      followed (q ∷ more) e none =
          let goes_q = subst (λ zs. all_neighbors (λ r q. goes_on r.finish q.start) (r ∷ rs ++ zs) ≡ true) e goes in
          let starts_q = subst (λ zs. all_pairs (λ r q. not (is_start r.start q.start)) (r ∷ rs ++ zs) ≡ true) e starts in
          let there : In q (routes_of d) = (in_whole q (subst (λ zs. In q (r ∷ rs ++ zs)) (sym e) (in_append_right q (r ∷ rs) (q ∷ more) (inl refl)))).1 in
          let listed : In (with_next (r ∷ rs) rest q) (following (routes_of d) (r ∷ rs) rest) = in_map (with_next (r ∷ rs) rest) (filter (goes_further (r ∷ rs)) (routes_of d)) q (in_filter (goes_further (r ∷ rs)) (routes_of d) q there (further r rs q more goes_q starts_q)) in
          let a = by_leg (with_next (r ∷ rs) rest q) (own q more e none goes_q) in
          let b = least_of_each f (f (record { routes = r ∷ rs; closed = true; rest = rest })) (following (routes_of d) (r ∷ rs) rest) (with_next (r ∷ rs) rest q) listed in
          omega arith
        where
          ended : (q : Route) (more : List Route) → all_neighbors (λ r q. goes_on r.finish q.start) (q ∷ more) ≡ true → is_dead q.finish ≡ true → more ≡ []
          ended q [] g dead = refl
          ended q (z ∷ zs) g dead = absurd (none_after_dead q.finish z.start dead (and_left (goes_on q.finish z.start) _ g))

          own : (q : Route) (more : List Route) → has.more ≡ q ∷ more → list_any exits (r ∷ rs) ≡ false → all_neighbors (λ r q. goes_on r.finish q.start) (r ∷ rs ++ q ∷ more) ≡ true → HasLeg (routes_of d) plan t before (with_next (r ∷ rs) rest q)
          own q more e none g =
              let one : path_routes (routes_of d) plan t ≡ before ++ ((r ∷ rs ++ q ∷ []) ++ more) = whole ∙ ap (λ zs. before ++ (r ∷ rs ++ zs)) e ∙ ap (λ zs. before ++ zs) (sym (append_assoc (r ∷ rs) (q ∷ []) more)) in
              record {
                more = more;
                whole = one;
                shut = λ dead. let end = ended q more (neighbors_after (λ r q. goes_on r.finish q.start) (r ∷ rs) (q ∷ more) g) dead in (
                  end,
                  ap (list_any exits) (one ∙ ap (λ zs. before ++ ((r ∷ rs ++ q ∷ []) ++ zs)) end ∙ ap (λ zs. before ++ zs) (append-nil (r ∷ rs ++ q ∷ []))) ∙ list_any-append exits before (r ∷ rs ++ q ∷ []) ∙ ap (λ b. b || list_any exits (r ∷ rs ++ q ∷ [])) none_before
                      ∙ list_any-append exits (r ∷ rs) (q ∷ []) ∙ ap (λ b. b || list_any exits (q ∷ [])) none ∙ ap (λ b. b || false) (dead_stays q dead),
                );
                begins = has.begins;
              }

  -- what holds on each leg that the train can have holds on these routes, whatever follows them
  pub whatever_follows : (t : TrainNo) (before rs : List Route) (rest : Bool) → HasLeg (routes_of d) plan t before (record { routes = rs; closed = false; rest = rest })
      → (f : Leg → ℕ) (c : ℕ) → ((l : Leg) → HasLeg (routes_of d) plan t before l → f l ≤ c) → least_whatever_follows f (routes_of d) rs rest ≤ c
  whatever_follows t before [] rest has f c each = each (record { routes = []; closed = false; rest = rest }) has
  whatever_follows t before (r ∷ rs) rest has f c each = go (list_any exits (r ∷ rs)) refl
    where
      go : (b : Bool) → list_any exits (r ∷ rs) ≡ b → (if b then f (record { routes = r ∷ rs; closed = false; rest = rest }) else least_over f (f (record { routes = r ∷ rs; closed = true; rest = rest })) (following (routes_of d) (r ∷ rs) rest)) ≤ c
      go true e = each (record { routes = r ∷ rs; closed = false; rest = rest }) has
      go false e = followed t before r rs rest has f c each has.more refl e
