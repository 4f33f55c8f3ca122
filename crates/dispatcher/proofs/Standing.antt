-- What stands on a section for a command.
use Rattle.std.proofs.Common.{◌≡◌, ◌⊎◌, inl, inr, ℕ, ◌+◌, Bool, true, false, cond, ◌&&◌, ◌||◌, ◌==◌, List, [], ◌∷◌, ◌++◌, map, filter, flat_map, refl, sym, ap, ap₂, subst, ◌∙◌, eqb-true, eq-eqb, true≢false}
use Rattle.std.specs.List.{list_all, enumerate_from}
use Rattle.rail_base.specs.declared.station.SectionNo.{SectionNo}
use Rattle.rail_base.specs.declared.station.TrainNo.{TrainNo}
use Rattle.rail_base.specs.declared.route.Route.{Route}
use Rattle.rail_base.specs.declared.plan.Command.{Command}
use Rattle.rail_base.specs.declared.state.TrainEvent.{TrainEvent}
use Rattle.rail_base.specs.declared.state.TrainState.{TrainState}
use Rattle.rail_base.specs.Members.{In}
use Rattle.rail_base.specs.Routes.{route_at, has_section, own_sections, held_sections, sections}
use Rattle.rail_base.proofs.Lists.{in_append, in_append_left, in_append_right, in_filter_back, in_map_back}
use Rattle.rail_base.proofs.Members.{false_unless, filter-append}
use Rattle.rail_base.proofs.Sharing.{has_when_in, in_sections}
use Rattle.rail_laws.proofs.Standing.{at_in}
use Rattle.rail_base.specs.declared.station.Station.{Station}
use Rattle.rail_spec.specs.Plans.{is_train}
use Rattle.rail_spec.specs.Dispatches.{has_come, has_released, release}
use Rattle.rail_course.specs.declared.itineraries.Itineraries.{Itineraries}
use Rattle.rail_course.specs.declared.waits.Wait.{Wait}
use Rattle.rail_course.specs.Itineraries.{going_in, own_waits_in, hold_waits_in}
use Rattle.rail_course.specs.Waits.{IsWait, holds_before, wait_for_own, wait_for_held}
use Rattle.rail_course.proofs.Holding.{held_known, in_enumerated, own_known, train_of_release}
use Rattle.dispatcher.specs.Waits.{for_section, lets_pass, waits_at}

-- parts of which all members are kept where what they are made of is
pub kept_parts : {X Y : Type 0} (f : X → List Y) (keep : X → Bool) (test : Y → Bool) → ((x : X) (y : Y) → In y (f x) → test y ≡ keep x) → (xs : List X) → filter test (flat_map f xs) ≡ flat_map f (filter keep xs)
kept_parts f keep test same [] = refl
kept_parts {X} {Y} f keep test same (x ∷ xs) = filter-append test (f x) (flat_map f xs) ∙ go (keep x) refl (kept_parts f keep test same xs)
  where
    all : (ys : List Y) → ((y : Y) → In y ys → test y ≡ true) → filter test ys ≡ ys
    all [] h = refl
    all (y ∷ ys) h = ap (λ b. cond b (y ∷ filter test ys) (filter test ys)) (h y (inl refl)) ∙ ap (λ zs. y ∷ zs) (all ys (λ z m. h z (inr m)))

    none : (ys : List Y) → ((y : Y) → In y ys → test y ≡ false) → filter test ys ≡ []
    none [] h = refl
    none (y ∷ ys) h = ap (λ b. cond b (y ∷ filter test ys) (filter test ys)) (h y (inl refl)) ∙ none ys (λ z m. h z (inr m))

    go : (b : Bool) → keep x ≡ b → filter test (flat_map f xs) ≡ flat_map f (filter keep xs) → filter test (f x) ++ filter test (flat_map f xs) ≡ flat_map f (cond b (x ∷ filter keep xs) (filter keep xs))
    go true e rest = ap (λ ys. ys ++ filter test (flat_map f xs)) (all (f x) (λ y m. same x y m ∙ e)) ∙ ap (λ ys. f x ++ ys) rest
    go false e rest = ap (λ ys. ys ++ filter test (flat_map f xs)) (none (f x) (λ y m. same x y m ∙ e)) ∙ rest

-- of what stands once or more, all the same, all passes where one does
all_same : {Y : Type 0} (test : Y → Bool) (a : Bool) (ys : List Y) → ((y : Y) → In y ys → test y ≡ a) → (y : Y) → In y ys → list_all test ys ≡ a
all_same test a [] h y m = absurd m
all_same {Y} test a (x ∷ xs) h y m = go a (λ z k. h z k)
  where
    rest : (zs : List Y) → ((z : Y) → In z zs → test z ≡ true) → list_all test zs ≡ true
    rest [] k = refl
    rest (z ∷ zs) k = ap (λ b. b && list_all test zs) (k z (inl refl)) ∙ rest zs (λ w i. k w (inr i))

    go : (b : Bool) → ((z : Y) → In z (x ∷ xs) → test z ≡ b) → list_all test (x ∷ xs) ≡ b
    go true k = rest (x ∷ xs) k
    go false k = ap (λ b. b && list_all test xs) (k x (inl refl))

module _ (i : Itineraries) (z : SectionNo) (e : Command) where
  abbrev made : Wait → Type 0
  made w = w.event ≡ release i.interlocking.now.design.station i.interlocking.now.routes (going_in i) e z

  same_section : (y : SectionNo) → (y.0 == z.0) ≡ true → y ≡ z
  same_section y h = ap (λ n. record { 0 = n }) (eqb-true y.0 z.0 h)

  own_made : (w : Wait) → In w (for_section z (own_waits_in i e)) → made w
  own_made w m = go (in_map_back (λ (v : SectionNo × Wait). v.1) (filter (λ v. v.0.0 == z.0) (own_waits_in i e)) w m)
    where
      at : (v : SectionNo × Wait) → ((v.0.0 == z.0) ≡ true) → ((y : SectionNo) × In y (own_sections (route_at i.interlocking.now.routes e.route)) × (wait_for_own i.interlocking.now.design.station i.interlocking.now.routes (going_in i) e y ≡ v)) → made v.1
      at v h (y, k, s) =
          let same = same_section y (subst (λ (x : SectionNo × Wait). (x.0.0 == z.0) ≡ true) (sym s) h) in
          sym (ap (λ (x : SectionNo × Wait). x.1.event) s) ∙ ap (release i.interlocking.now.design.station i.interlocking.now.routes (going_in i) e) same

      go : ((v : SectionNo × Wait) × In v (filter (λ v. v.0.0 == z.0) (own_waits_in i e)) × (v.1 ≡ w)) → made w
      go (v, k, s) =
          let f = in_filter_back (λ (x : SectionNo × Wait). x.0.0 == z.0) (own_waits_in i e) v k in
          subst made s (at v f.1 (in_map_back (wait_for_own i.interlocking.now.design.station i.interlocking.now.routes (going_in i) e) (own_sections (route_at i.interlocking.now.routes e.route)) v f.0))

  held_made : (w : Wait) → In w (for_section z (hold_waits_in i e)) → made w
  held_made w m = go (in_map_back (λ (v : SectionNo × Wait). v.1) (filter (λ v. v.0.0 == z.0) (hold_waits_in i e)) w m)
    where
      numbers : List (ℕ × SectionNo)
      numbers = enumerate_from (holds_before i.interlocking.now.design.station i.interlocking.now.routes (going_in i) e) (held_sections (route_at i.interlocking.now.routes e.route))

      at : (v : SectionNo × Wait) → ((v.0.0 == z.0) ≡ true) → ((n : ℕ × SectionNo) × In n numbers × (wait_for_held i.interlocking.now.design.station i.interlocking.now.routes (going_in i) e n ≡ v)) → made v.1
      at v h (n, k, s) =
          let same = same_section n.1 (subst (λ (x : SectionNo × Wait). (x.0.0 == z.0) ≡ true) (sym s) h) in
          sym (ap (λ (x : SectionNo × Wait). x.1.event) s) ∙ ap (release i.interlocking.now.design.station i.interlocking.now.routes (going_in i) e) same

      go : ((v : SectionNo × Wait) × In v (filter (λ v. v.0.0 == z.0) (hold_waits_in i e)) × (v.1 ≡ w)) → made w
      go (v, k, s) =
          let f = in_filter_back (λ (x : SectionNo × Wait). x.0.0 == z.0) (hold_waits_in i e) v k in
          subst made s (at v f.1 (in_map_back (wait_for_held i.interlocking.now.design.station i.interlocking.now.routes (going_in i) e) numbers v f.0))

  all_made : (w : Wait) → In w (waits_at i z e) → made w
  all_made w m = go (in_append w (for_section z (own_waits_in i e)) (for_section z (hold_waits_in i e)) m)
    where
      go : In w (for_section z (own_waits_in i e)) ⊎ In w (for_section z (hold_waits_in i e)) → made w
      go (inl k) = own_made w k
      go (inr k) = held_made w k

  -- each is for the command's train
  pub train_at : (w : Wait) → In w (waits_at i z e) → w.event.train ≡ e.train
  train_at w m = ap (λ (v : TrainEvent). v.train) (all_made w m) ∙ train_of_release i.interlocking.now.design.station i.interlocking.now.routes (going_in i) e z

  -- there is one where the route has the section
  some_at : has_section (route_at i.interlocking.now.routes e.route) z ≡ true → (w : Wait) × In w (waits_at i z e)
  some_at on = go (in_append z (own_sections (route_at i.interlocking.now.routes e.route)) (held_sections (route_at i.interlocking.now.routes e.route)) (in_sections (route_at i.interlocking.now.routes e.route) z on))
    where
      one_of : {X : Type 0} (f : X → SectionNo × Wait) (xs : List X) (x : X) → In x xs → (f x).0 ≡ z → (w : Wait) × In w (for_section z (map f xs))
      one_of f [] x m s = absurd m
      one_of f (y ∷ ys) x (inl k) s = (let h : ((f y).0.0 == z.0) ≡ true = eq-eqb (f y).0.0 z.0 (ap (λ (q : SectionNo). q.0) (ap (λ a. (f a).0) k ∙ s)) in
          ((f y).1, subst (λ b. In (f y).1 (map (λ w. w.1) (cond b (f y ∷ filter (λ w. w.0.0 == z.0) (map f ys)) (filter (λ w. w.0.0 == z.0) (map f ys))))) (sym h) (inl refl)))
      one_of f (y ∷ ys) x (inr k) s = more ((f y).0.0 == z.0) (one_of f ys x k s)
        where
          more : (b : Bool) → ((w : Wait) × In w (for_section z (map f ys))) → (w : Wait) × In w (map (λ w. w.1) (cond b (f y ∷ filter (λ w. w.0.0 == z.0) (map f ys)) (filter (λ w. w.0.0 == z.0) (map f ys))))
          more true (w, j) = (w, inr j)
          more false (w, j) = (w, j)

      left : (vs ws : List Wait) → ((w : Wait) × In w vs) → (w : Wait) × In w (vs ++ ws)
      left [] ws (w, j) = absurd j
      left (v ∷ vs) ws (w, inl j) = (w, inl j)
      left (v ∷ vs) ws (w, inr j) = let f = left vs ws (w, j) in (f.0, inr f.1)

      right : (vs ws : List Wait) → ((w : Wait) × In w ws) → (w : Wait) × In w (vs ++ ws)
      right [] ws f = f
      right (v ∷ vs) ws f = let g = right vs ws f in (g.0, inr g.1)

      numbered : (a : ℕ) (zs : List SectionNo) → In z zs → (n : ℕ) × In (n, z) (enumerate_from a zs)
      numbered a [] m = absurd m
      numbered a (y ∷ ys) (inl s) = (a, inl (ap (λ q. (a, q)) s))
      numbered a (y ∷ ys) (inr m) = let f = numbered (a + 1) ys m in (f.0, inr f.1)

      go : In z (own_sections (route_at i.interlocking.now.routes e.route)) ⊎ In z (held_sections (route_at i.interlocking.now.routes e.route)) → (w : Wait) × In w (waits_at i z e)
      go (inl m) = left (for_section z (own_waits_in i e)) (for_section z (hold_waits_in i e)) (one_of (wait_for_own i.interlocking.now.design.station i.interlocking.now.routes (going_in i) e) (own_sections (route_at i.interlocking.now.routes e.route)) z m refl)
      go (inr m) =
          let f = numbered (holds_before i.interlocking.now.design.station i.interlocking.now.routes (going_in i) e) (held_sections (route_at i.interlocking.now.routes e.route)) m in
          right (for_section z (own_waits_in i e)) (for_section z (hold_waits_in i e)) (one_of (wait_for_held i.interlocking.now.design.station i.interlocking.now.routes (going_in i) e) (enumerate_from (holds_before i.interlocking.now.design.station i.interlocking.now.routes (going_in i) e) (held_sections (route_at i.interlocking.now.routes e.route))) (f.0, z) f.1 refl)

-- there is none where the route hasn't the section
pub none_at : (i : Itineraries) (z : SectionNo) (e : Command) → has_section (route_at i.interlocking.now.routes e.route) z ≡ false → waits_at i z e ≡ []
none_at i z e off = ap₂ (λ a b. a ++ b) (none_of (wait_for_own d routes (going_in i) e) (own_sections r) own) (none_of (wait_for_held d routes (going_in i) e) (enumerate_from (holds_before d routes (going_in i) e) (held_sections r)) held)
  where
    d : Station
    d = i.interlocking.now.design.station

    routes : List Route
    routes = i.interlocking.now.routes

    r : Route
    r = route_at routes e.route

    none_of : {X : Type 0} (f : X → SectionNo × Wait) (xs : List X) → ((x : X) → In x xs → ((f x).0.0 == z.0) ≡ false) → for_section z (map f xs) ≡ []
    none_of f [] h = refl
    none_of f (x ∷ xs) h = ap (λ b. map (λ (w : SectionNo × Wait). w.1) (cond b (f x ∷ filter (λ w. w.0.0 == z.0) (map f xs)) (filter (λ w. w.0.0 == z.0) (map f xs)))) (h x (inl refl)) ∙ none_of f xs (λ y m. h y (inr m))

    other : (y : SectionNo) → In y (sections r) → (y.0 == z.0) ≡ false
    other y m = false_unless (y.0 == z.0) (λ h. let same : y ≡ z = ap (λ n. record { 0 = n }) (eqb-true y.0 z.0 h) in true≢false (sym (has_when_in r z (subst (λ x. In x (sections r)) same m)) ∙ off))

    own : (y : SectionNo) → In y (own_sections r) → (y.0 == z.0) ≡ false
    own y m = other y (in_append_left y (own_sections r) (held_sections r) m)

    held : (n : ℕ × SectionNo) → In n (enumerate_from (holds_before d routes (going_in i) e) (held_sections r)) → (n.1.0 == z.0) ≡ false
    held n m = let f = in_enumerated (holds_before d routes (going_in i) e) (held_sections r) n m in other n.1 (in_append_right n.1 (own_sections r) (held_sections r) (at_in (held_sections r) f.place n.1 f.there).0)

-- so they let a train pass where the command has released the section
pub waits_pass : (i : Itineraries) (ps : List (List TrainState)) (t : TrainNo) (z : SectionNo) (e : Command) → has_section (route_at i.interlocking.now.routes e.route) z ≡ true
    → list_all (lets_pass ps t) (waits_at i z e) ≡ (is_train e.train t || has_released i.interlocking.now.design.station i.interlocking.now.routes (going_in i) ps e z)
waits_pass i ps t z e on =
    let d = i.interlocking.now.design.station in
    let routes = i.interlocking.now.routes in
    let some = some_at i z e on in
    all_same (lets_pass ps t) (is_train e.train t || has_released d routes (going_in i) ps e z) (waits_at i z e)
    (λ w m. ap (λ u. is_train u t || has_come ps w.event) (train_at i z e w m) ∙ ap (λ v. is_train e.train t || has_come ps v) (all_made i z e w m)) some.0 some.1

-- and it is known how they end
pub waits_known : (i : Itineraries) (z : SectionNo) (e : Command) (w : Wait) → In w (waits_at i z e) → IsWait i.interlocking.now.design.station i.interlocking.now.routes (going_in i) w
waits_known i z e w m = go (in_append w (for_section z (own_waits_in i e)) (for_section z (hold_waits_in i e)) m)
  where
    of : (vs : List (SectionNo × Wait)) → In w (for_section z vs) → (v : SectionNo × Wait) × In v vs × (v.1 ≡ w)
    of vs k = let f = in_map_back (λ (v : SectionNo × Wait). v.1) (filter (λ v. v.0.0 == z.0) vs) w k in (f.0, (in_filter_back (λ (v : SectionNo × Wait). v.0.0 == z.0) vs f.0 f.1).0, f.2)

    go : In w (for_section z (own_waits_in i e)) ⊎ In w (for_section z (hold_waits_in i e)) → IsWait i.interlocking.now.design.station i.interlocking.now.routes (going_in i) w
    go (inl k) = let f = of (own_waits_in i e) k in subst (IsWait i.interlocking.now.design.station i.interlocking.now.routes (going_in i)) f.2 (own_known i.interlocking.now.design.station i.interlocking.now.routes (going_in i) e f.0 f.1)
    go (inr k) = let f = of (hold_waits_in i e) k in subst (IsWait i.interlocking.now.design.station i.interlocking.now.routes (going_in i)) f.2 (held_known i.interlocking.now.design.station i.interlocking.now.routes (going_in i) e f.0 f.1)
