-- The holds say what keeps a command from a section: where no command was blocked, one train at most can't leave it.
use Rattle.std.proofs.Common.{◌≡◌, ℕ, ◌+◌, ◌≤◌, ◌<◌, ◌⊎◌, inl, inr, max, Bool, true, false, not, ◌&&◌, ◌||◌, ◌==◌, if◌then◌else◌, List, [], ◌∷◌, ◌++◌, map, refl, sym, ap, ap₂, subst, ◌∙◌, arith, eqb-true, eq-eqb, true≢false}
use Rattle.std.specs.List.{list_any}
use Rattle.std.proofs.lemmas.List.{append-nil, map-append}
use Rattle.std.proofs.lemmas.List.Concat.{flat_map-append}
use Rattle.rail_base.specs.declared.station.Station.{Station}
use Rattle.rail_base.specs.declared.station.SectionNo.{SectionNo}
use Rattle.rail_base.specs.declared.station.TrainNo.{TrainNo}
use Rattle.rail_base.specs.declared.route.Route.{Route}
use Rattle.rail_base.specs.declared.plan.Command.{Command}
use Rattle.rail_base.specs.Members.{In}
use Rattle.rail_base.specs.Stations.{train_length}
use Rattle.rail_spec.specs.Plans.{is_train, route_at, sections, goes_over, release_offset, path, path_routes, routes_given}
use Rattle.rail_plan.specs.declared.holds.Hold.{Hold}
use Rattle.rail_plan.specs.Ahead.{clears, stops, is_stopped, stopped_sections}
use Rattle.rail_plan.specs.Holds.{rest_after, hold_at, keeps_out, lacks, takes, is_kept_from, kept_sections, lack_of, lack_in, lack, AreHolds}
use Rattle.rail_base.proofs.Members.{and_left, and_right, and_both, below_or_not, either, false_unless, is_false, list_any_gives, or_left, or_right, same_bool}
use Rattle.rail_laws.proofs.Given.{same_train}
use Rattle.rail_plan.proofs.Blocked.{kept_same}
use Rattle.rail_plan.proofs.Resting.{rest_is, rest_max, rest_more, rest_none}

-- ---- numbers and tests

above : (a b : ℕ) → 0 < max a b → (0 < a) ⊎ (0 < b)
above a b h = go (below_or_not 0 a)
  where
    go : (0 < a) ⊎ (a ≤ 0) → (0 < a) ⊎ (0 < b)
    go (inl l) = inl l
    go (inr l) = inr (omega arith)

not_zero : (n : ℕ) → 0 < n → (n == 0) ≡ false
not_zero n h = false_unless (n == 0) (λ e. let z : n ≡ 0 = eqb-true n 0 e in absurd (omega arith))

some : (n : ℕ) → (n == 0) ≡ false → 0 < n
some n h = go (below_or_not 0 n)
  where
    go : (0 < n) ⊎ (n ≤ 0) → 0 < n
    go (inl l) = l
    go (inr l) = let z : n ≡ 0 = omega arith in absurd (true≢false (sym (eq-eqb n 0 z) ∙ h))

is_own : (t : TrainNo) → is_train t t ≡ true
is_own t = eq-eqb t.0 t.0 refl

or_apart : (a b : Bool) → (a || b) ≡ false → (a ≡ false) × (b ≡ false)
or_apart true b h = absurd (true≢false h)
or_apart false b h = (refl, h)

-- ---- one more step leaves of what was lacking what the step's routes leave of it

module _ (d : Station) (routes : List Route) (z : SectionNo) (t : TrainNo) where
  of_more : (given more : List Route) (e : Command) → lack_of d routes z t (given ++ more) e ≡ rest_after (lack_of d routes z t given e) more
  of_more given more e = go (is_train e.train t && goes_over (route_at routes e.route) z)
    where
      need : ℕ
      need = release_offset (route_at routes e.route) z + train_length d t

      go : (b : Bool) → (if b then rest_after need (given ++ more) else 0) ≡ rest_after (if b then rest_after need given else 0) more
      go true = rest_more need given more
      go false = sym (rest_none more)

  in_more : (given more : List Route) (es : List Command) → lack_in d routes z t (given ++ more) es ≡ rest_after (lack_in d routes z t given es) more
  in_more given more [] = sym (rest_none more)
  in_more given more (e ∷ es) =
      ap₂ max (of_more given more e) (in_more given more es) ∙ sym (rest_max (lack_of d routes z t given e) (lack_in d routes z t given es) more)

  -- the routes of a step
  abbrev given_by : List Command → List Route
  given_by s = map (route_at routes) (routes_given t s)

  paths_more : (ss : List (List Command)) (s : List Command) → path_routes routes (ss ++ s ∷ []) t ≡ path_routes routes ss t ++ given_by s
  paths_more ss s =
      ap (map (route_at routes)) (flat_map-append (routes_given t) ss (s ∷ []) ∙ ap (λ rs. path ss t ++ rs) (append-nil (routes_given t s)))
      ∙ map-append (route_at routes) (path ss t) (routes_given t s)

  joined : (x y a b o r : ℕ) → x ≡ a → y ≡ max b o → r ≡ max a b → max x y ≡ max r o
  joined x y a b o r e f g = omega arith

  pub lack_more : (ss : List (List Command)) (s : List Command) → lack d routes z t (ss ++ s ∷ []) ≡ max (rest_after (lack d routes z t ss) (given_by s)) (lack_in d routes z t (given_by s) s)
  lack_more [] s =
      let same : path_routes routes (s ∷ []) t ≡ given_by s = ap (map (route_at routes)) (append-nil (routes_given t s)) in
      let none = rest_none (given_by s) in
      ap (λ rs. max (lack_in d routes z t rs s) 0) same ∙ (let e : max (lack_in d routes z t (given_by s) s) 0 ≡ max (rest_after 0 (given_by s)) (lack_in d routes z t (given_by s) s) = omega arith in e)
  lack_more (b ∷ bs) s =
      joined (lack_in d routes z t (path_routes routes (b ∷ (bs ++ s ∷ [])) t) b) (lack d routes z t (bs ++ s ∷ [])) (rest_after (lack_in d routes z t (path_routes routes (b ∷ bs) t) b) (given_by s)) (rest_after (lack d routes z t bs) (given_by s)) (lack_in d routes z t (given_by s) s) (rest_after (lack d routes z t (b ∷ bs)) (given_by s))
      (ap (λ rs. lack_in d routes z t rs b) (paths_more (b ∷ bs) s) ∙ in_more (path_routes routes (b ∷ bs) t) (given_by s) b)
      (lack_more bs s)
      (rest_max (lack_in d routes z t (path_routes routes (b ∷ bs) t) b) (lack d routes z t bs) (given_by s))

-- ---- a train is stopped by those before it exactly where another one lacks track

-- the step itself is looked at last
pub stopped_apart : (d : Station) (routes : List Route) (t : TrainNo) (z : SectionNo) (before : List (List Command)) (step : List Command) → is_stopped d routes t z before step ≡ (is_stopped d routes t z before [] || list_any (takes routes t z) step)
stopped_apart d routes t z [] step = refl
stopped_apart d routes t z (s ∷ ss) step = go (list_any (stops d routes (s ∷ ss) t z) s) (stopped_apart d routes t z ss step)
  where
    go : (b : Bool) → is_stopped d routes t z ss step ≡ (is_stopped d routes t z ss [] || list_any (takes routes t z) step) → (b || is_stopped d routes t z ss step) ≡ ((b || is_stopped d routes t z ss []) || list_any (takes routes t z) step)
    go true e = refl
    go false e = e

module _ (d : Station) (routes : List Route) (t : TrainNo) (z : SectionNo) where
  -- what stops it lacks track
  lack_there : (between : List (List Command)) (e : Command) → stops d routes between t z e ≡ true → (is_train e.train t ≡ false) × (0 < lack_of d routes z e.train (path_routes routes between e.train) e)
  lack_there between e h =
      let r = route_at routes e.route in
      let prefix = and_left (not (is_train e.train t) && goes_over r z) (not (clears d routes between e z)) h in
      let has = and_right (not (is_train e.train t)) (goes_over r z) prefix in
      let kept : clears d routes between e z ≡ false = is_false (clears d routes between e z) (and_right (not (is_train e.train t) && goes_over r z) (not (clears d routes between e z)) h) in
      let need = release_offset r z + train_length d e.train in
      let given = path_routes routes between e.train in
      let left : 0 < rest_after need given = some (rest_after need given) (rest_is need given ∙ kept) in
      let both : (is_train e.train e.train && goes_over r z) ≡ true = and_both (is_train e.train e.train) (goes_over r z) (is_own e.train) has in
      (is_false (is_train e.train t) (and_left (not (is_train e.train t)) (goes_over r z) prefix), subst (λ n. 0 < n) (sym (ap (λ b. if b then rest_after need given else 0) both)) left)

  lack_at : (u : TrainNo) (given : List Route) (es : List Command) (e : Command) → In e es → lack_of d routes z u given e ≤ lack_in d routes z u given es
  lack_at u given [] e m = absurd m
  lack_at u given (x ∷ xs) e (inl same) = let k = ap (λ (c : Command). lack_of d routes z u given c) same in omega arith
  lack_at u given (x ∷ xs) e (inr m) = let k = lack_at u given xs e m in omega arith

  lack_of_stopped : (before : List (List Command)) → is_stopped d routes t z before [] ≡ true → (u : TrainNo) × (is_train u t ≡ false) × (0 < lack d routes z u before)
  lack_of_stopped [] h = absurd (true≢false (sym h))
  lack_of_stopped (s ∷ ss) h = go (either (list_any (stops d routes (s ∷ ss) t z) s) (is_stopped d routes t z ss []) h) (lack_of_stopped ss)
    where
      here : (e : Command) × In e s × (stops d routes (s ∷ ss) t z e ≡ true) → (u : TrainNo) × (is_train u t ≡ false) × (0 < lack d routes z u (s ∷ ss))
      here (e, m, k) =
          let l = lack_there (s ∷ ss) e k in
          let least = lack_at e.train (path_routes routes (s ∷ ss) e.train) s e m in
          let some_left = l.1 in
          (e.train, l.0, omega arith)

      later : (u : TrainNo) × (is_train u t ≡ false) × (0 < lack d routes z u ss) → (u : TrainNo) × (is_train u t ≡ false) × (0 < lack d routes z u (s ∷ ss))
      later (u, other, l) = (u, other, omega arith)

      go : (list_any (stops d routes (s ∷ ss) t z) s ≡ true) ⊎ (is_stopped d routes t z ss [] ≡ true) → (is_stopped d routes t z ss [] ≡ true → (u : TrainNo) × (is_train u t ≡ false) × (0 < lack d routes z u ss)) → (u : TrainNo) × (is_train u t ≡ false) × (0 < lack d routes z u (s ∷ ss))
      go (inl k) rest = here (list_any_gives (stops d routes (s ∷ ss) t z) s k)
      go (inr k) rest = later (rest k)

  -- and another one that lacks track stops it
  module _ (u : TrainNo) (other : is_train u t ≡ false) where
    stop_of : (between : List (List Command)) (e : Command) → 0 < lack_of d routes z u (path_routes routes between u) e → stops d routes between t z e ≡ true
    stop_of between e h = go (is_train e.train u) (goes_over (route_at routes e.route) z) refl refl h
      where
        r : Route
        r = route_at routes e.route

        need : TrainNo → ℕ
        need v = release_offset r z + train_length d v

        kept : e.train ≡ u → 0 < rest_after (need u) (path_routes routes between u) → clears d routes between e z ≡ false
        kept same l = sym (rest_is (need e.train) (path_routes routes between e.train)) ∙ ap (λ v. rest_after (need v) (path_routes routes between v) == 0) same ∙ not_zero (rest_after (need u) (path_routes routes between u)) l

        go : (a b : Bool) → is_train e.train u ≡ a → goes_over r z ≡ b → 0 < (if a && b then rest_after (need u) (path_routes routes between u) else 0) → stops d routes between t z e ≡ true
        go true true ea eb l =
            let same = same_train e.train u ea in
            and_both (not (is_train e.train t) && goes_over r z) (not (clears d routes between e z))
            (and_both (not (is_train e.train t)) (goes_over r z) (ap (λ v. not (is_train v t)) same ∙ ap not other) eb)
            (ap not (kept same l))
        go true false ea eb l = absurd (omega arith)
        go false true ea eb l = absurd (omega arith)
        go false false ea eb l = absurd (omega arith)

    stop_in : (between : List (List Command)) (es : List Command) → 0 < lack_in d routes z u (path_routes routes between u) es → list_any (stops d routes between t z) es ≡ true
    stop_in between [] h = absurd (omega arith)
    stop_in between (e ∷ es) h = go (above (lack_of d routes z u (path_routes routes between u) e) (lack_in d routes z u (path_routes routes between u) es) h) (stop_in between es)
      where
        go : (0 < lack_of d routes z u (path_routes routes between u) e) ⊎ (0 < lack_in d routes z u (path_routes routes between u) es) → (0 < lack_in d routes z u (path_routes routes between u) es → list_any (stops d routes between t z) es ≡ true) → (stops d routes between t z e || list_any (stops d routes between t z) es) ≡ true
        go (inl l) rest = or_left (stops d routes between t z e) (list_any (stops d routes between t z) es) (stop_of between e l)
        go (inr l) rest = or_right (stops d routes between t z e) (list_any (stops d routes between t z) es) (rest l)

    stopped_by : (before : List (List Command)) → 0 < lack d routes z u before → is_stopped d routes t z before [] ≡ true
    stopped_by [] h = absurd (omega arith)
    stopped_by (s ∷ ss) h = go (above (lack_in d routes z u (path_routes routes (s ∷ ss) u) s) (lack d routes z u ss) h) (stopped_by ss)
      where
        go : (0 < lack_in d routes z u (path_routes routes (s ∷ ss) u) s) ⊎ (0 < lack d routes z u ss) → (0 < lack d routes z u ss → is_stopped d routes t z ss [] ≡ true) → (list_any (stops d routes (s ∷ ss) t z) s || is_stopped d routes t z ss []) ≡ true
        go (inl l) rest = or_left (list_any (stops d routes (s ∷ ss) t z) s) (is_stopped d routes t z ss []) (stop_in (s ∷ ss) s l)
        go (inr l) rest = or_right (list_any (stops d routes (s ∷ ss) t z) s) (is_stopped d routes t z ss []) (rest l)

  -- so the hold says it
  pub kept_out_is : (before : List (List Command)) (h : Hold) → ((u : TrainNo) → lack d routes z u before ≡ lacks h u) → is_stopped d routes t z before [] ≡ keeps_out h t
  kept_out_is before h tells = same_bool (is_stopped d routes t z before []) (keeps_out h t) (λ k. from (lack_of_stopped before k)) to
    where
      from : (u : TrainNo) × (is_train u t ≡ false) × (0 < lack d routes z u before) → keeps_out h t ≡ true
      from (u, other, l) = go (is_train u h.train) refl (subst (λ n. 0 < n) (tells u) l)
        where
          go : (b : Bool) → is_train u h.train ≡ b → 0 < (if b then h.left else 0) → keeps_out h t ≡ true
          go true e k =
              let same = same_train u h.train e in
              and_both (not (is_train h.train t)) (not (h.left == 0)) (ap not (ap (λ v. is_train v t) (sym same) ∙ other)) (ap not (not_zero h.left k))
          go false e k = absurd (omega arith)

      to : keeps_out h t ≡ true → is_stopped d routes t z before [] ≡ true
      to k =
          let other = is_false (is_train h.train t) (and_left (not (is_train h.train t)) (not (h.left == 0)) k) in
          let left = some h.left (is_false (h.left == 0) (and_right (not (is_train h.train t)) (not (h.left == 0)) k)) in
          let own : lacks h h.train ≡ h.left = ap (λ b. if b then h.left else 0) (is_own h.train) in
          stopped_by h.train other before (subst (λ n. 0 < n) (sym (tells h.train ∙ own)) left)

-- ---- the holds and the step say what stops a train

module _ (d : Station) (routes : List Route) (step : List Command) (before : List (List Command)) (holds : List Hold) (are : AreHolds d routes before holds) where
  held_is : (t : TrainNo) (z : SectionNo) → is_kept_from routes holds step t z ≡ is_stopped d routes t z before step
  held_is t z =
      sym (stopped_apart d routes t z before step
      ∙ ap (λ b. b || list_any (takes routes t z) step) (kept_out_is d routes t z before (hold_at holds z) (are.each z)))

  pub held_sections_are : (c : Command) → kept_sections routes holds step c ≡ stopped_sections d routes before step c
  held_sections_are c = kept_same (is_kept_from routes holds step c.train) (λ z. is_stopped d routes c.train z before step) (sections (route_at routes c.route)) (λ z m. held_is c.train z)
