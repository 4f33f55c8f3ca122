-- What waits are for: each release of an own section, and the end of each hold, by its number on its train's path.
use Rattle.std.proofs.Common.{◌≡◌, ◌⊎◌, inl, inr, ℕ, zero, suc, ◌+◌, ◌<◌, ◌≤◌, Bool, true, false, cond, if◌then◌else◌, List, [], ◌∷◌, ◌++◌, map, flat_map, length, slice_get, None, Some, option_map, refl, sym, ap, subst, ◌∙◌, arith, eqb-true, length-append}
use Rattle.std.specs.List.{enumerate_from}
use Rattle.std.proofs.lemmas.List.Concat.{flat_map-append}
use Rattle.std.proofs.lemmas.Option.{slice_get-map, slice_get_past}
use Rattle.rail_base.specs.declared.station.Station.{Station}
use Rattle.rail_base.specs.declared.station.SectionNo.{SectionNo}
use Rattle.rail_base.specs.declared.station.TrainNo.{TrainNo}
use Rattle.rail_base.specs.declared.route.Route.{Route}
use Rattle.rail_base.specs.declared.route.RouteNo.{RouteNo}
use Rattle.rail_base.specs.declared.plan.Command.{Command}
use Rattle.rail_base.specs.declared.state.TrainEvent.{TrainEvent}
use Rattle.rail_base.specs.Members.{In}
use Rattle.rail_base.specs.Numbering.{before_first}
use Rattle.rail_base.specs.Routes.{route_at, goes_over, own_sections, held_sections}
use Rattle.rail_base.proofs.Lists.{in_flat_map_back, in_map_back, length-map}
use Rattle.rail_base.proofs.Sharing.{own_goes_over}
use Rattle.rail_spec.specs.Plans.{is_route}
use Rattle.rail_spec.specs.Dispatches.{Dispatch, routes_before, release, release_of_own, release_of_overlap}
use Rattle.rail_course.specs.declared.journey.Hold.{Hold}
use Rattle.rail_course.specs.declared.waits.Wait.{Wait}
use Rattle.rail_course.specs.Holds.{hold_for, holds_of_route, holds_of_train}
use Rattle.rail_course.specs.Waits.{IsForHold, IsForNone, IsWait, holds_before, own_waits, hold_waits, wait_for_own, wait_for_held}

-- ---- lists

pub get_left : {X : Type 0} (xs ys : List X) (i : ℕ) (x : X) → slice_get xs i ≡ Some x → slice_get (xs ++ ys) i ≡ Some x
get_left [] ys i x e = cc
get_left (y ∷ xs) ys zero x e = e
get_left (y ∷ xs) ys (suc i) x e = get_left xs ys i x e

pub get_right : {X : Type 0} (xs ys : List X) (n i : ℕ) → n ≡ length xs + i → slice_get (xs ++ ys) n ≡ slice_get ys i
get_right [] ys n i e = let z : n ≡ i = omega arith in ap (slice_get ys) z
get_right (x ∷ xs) ys zero i e = absurd (omega arith)
get_right (x ∷ xs) ys (suc n) i e = get_right xs ys n i (omega arith)

-- a list in which something passes is what stands before the first that does, and that, and what comes behind
pub record Split {X : Type 0} (test : X → Bool) (xs : List X) : Type 0 where
  pub first : X
  pub rest : List X
  pub passes : test first ≡ true
  pub is : xs ≡ before_first test xs ++ first ∷ rest

split_later : {X : Type 0} (test : X → Bool) (y : X) (ys : List X) → test y ≡ false → Split test ys → Split test (y ∷ ys)
split_later test y ys e s = record { first = s.first; rest = s.rest; passes = s.passes; is = ap (λ zs. y ∷ zs) s.is ∙ sym (ap (λ b. cond b [] (y ∷ before_first test ys) ++ s.first ∷ s.rest) e) }

split_here : {X : Type 0} (test : X → Bool) (y : X) (ys : List X) → test y ≡ true → Split test (y ∷ ys)
split_here test y ys e = record { first = y; rest = ys; passes = e; is = sym (ap (λ b. cond b [] (y ∷ before_first test ys) ++ y ∷ ys) e) }

pub split_first : {X : Type 0} (test : X → Bool) (xs : List X) (x : X) → In x xs → test x ≡ true → Split test xs
split_first test [] x m p = absurd m
split_first {X} test (y ∷ ys) x m p = go (test y) refl m (λ k. split_first test ys x k p)
  where
    go : (b : Bool) → test y ≡ b → (y ≡ x) ⊎ In x ys → (In x ys → Split test ys) → Split test (y ∷ ys)
    go true e k later = split_here test y ys e
    go false e (inl same) later = absurd (let t : test y ≡ true = subst (λ z. test z ≡ true) (sym same) p in cc)
    go false e (inr k) later = split_later test y ys e (later k)

-- where nothing passes, all stands before it
pub split_or_all : {X : Type 0} (test : X → Bool) (xs : List X) → Split test xs ⊎ (before_first test xs ≡ xs)
split_or_all test [] = inr refl
split_or_all {X} test (y ∷ ys) = go (test y) refl (split_or_all test ys)
  where
    go : (b : Bool) → test y ≡ b → Split test ys ⊎ (before_first test ys ≡ ys) → Split test (y ∷ ys) ⊎ (before_first test (y ∷ ys) ≡ y ∷ ys)
    go true e k = inl (split_here test y ys e)
    go false e (inl s) = inl (split_later test y ys e s)
    go false e (inr all) = inr (ap (λ b. cond b [] (y ∷ before_first test ys)) e ∙ ap (λ zs. y ∷ zs) all)

-- what stands at a place of a list that is counted
pub record Numbered {X : Type 0} (a : ℕ) (xs : List X) (n : ℕ × X) : Type 0 where
  pub place : ℕ
  pub number : n.0 ≡ a + place
  pub there : slice_get xs place ≡ Some n.1

pub in_enumerated : {X : Type 0} (a : ℕ) (xs : List X) (n : ℕ × X) → In n (enumerate_from a xs) → Numbered a xs n
in_enumerated a [] n m = absurd m
in_enumerated a (x ∷ xs) n (inl e) = record { place = 0; number = sym (ap (λ k. k.0) e) ∙ omega arith; there = ap (λ k. Some k.1) e }
in_enumerated a (x ∷ xs) n (inr m) = let f = in_enumerated (a + 1) xs n m in record { place = suc f.place; number = (let k = f.number in omega arith); there = f.there }

module _ (d : Station) (routes : List Route) (p : Dispatch) where
  -- ---- releases

  pub release_is_own : (c : Command) (z : SectionNo) → goes_over (route_at routes c.route) z ≡ true → release d routes p c z ≡ release_of_own d routes p c z
  release_is_own c z h = ap (λ b. if b then release_of_own d routes p c z else release_of_overlap d routes p c z) h

  pub release_is_held : (c : Command) (z : SectionNo) → goes_over (route_at routes c.route) z ≡ false → release d routes p c z ≡ release_of_overlap d routes p c z
  release_is_held c z h = ap (λ b. if b then release_of_own d routes p c z else release_of_overlap d routes p c z) h

  either_release : (P : TrainEvent → Type 0) (c : Command) (z : SectionNo) → P (release_of_own d routes p c z) → P (release_of_overlap d routes p c z) → P (release d routes p c z)
  either_release P c z own held = go (goes_over (route_at routes c.route) z)
    where
      go : (b : Bool) → P (if b then release_of_own d routes p c z else release_of_overlap d routes p c z)
      go true = own
      go false = held

  pub train_of_release : (c : Command) (z : SectionNo) → (release d routes p c z).train ≡ c.train
  train_of_release c z = either_release (λ e. e.train ≡ c.train) c z refl refl

  pub grants_of_release : (c : Command) (z : SectionNo) → 1 ≤ (release d routes p c z).event.granted
  grants_of_release c z = either_release (λ e. 1 ≤ e.event.granted) c z (omega arith) (omega arith)

  pub number_of_release : (c : Command) (z : SectionNo) → (release d routes p c z).event.granted ≡ suc (length (routes_before d routes p c))
  number_of_release c z = either_release (λ e. e.event.granted ≡ suc (length (routes_before d routes p c))) c z refl refl

  -- ---- holds

  pub record HoldOf (t : TrainNo) (h : Hold) : Type 0 where
    pub route : RouteNo
    pub section : SectionNo
    pub on_path : In route (p.path t)
    pub held : In section (held_sections (route_at routes route))
    pub is : hold_for d routes p (record { train = t; route = route }) section ≡ h

  pub hold_of : (t : TrainNo) (h : Hold) → In h (holds_of_train d routes p t) → HoldOf t h
  hold_of t h m = go (in_flat_map_back (holds_of_route d routes p t) (p.path t) h m)
    where
      at : (r : RouteNo) → In r (p.path t) → ((z : SectionNo) × In z (held_sections (route_at routes r)) × (hold_for d routes p (record { train = t; route = r }) z ≡ h)) → HoldOf t h
      at r k (z, i, e) = record { route = r; section = z; on_path = k; held = i; is = e }

      go : ((r : RouteNo) × In r (p.path t) × In h (holds_of_route d routes p t r)) → HoldOf t h
      go (r, k, i) = at r k (in_map_back (hold_for d routes p (record { train = t; route = r })) (held_sections (route_at routes r)) h i)

  pub train_of_hold : (t : TrainNo) (h : Hold) → In h (holds_of_train d routes p t) → h.event.train ≡ t
  train_of_hold t h m = let k = hold_of t h m in subst (λ (g : Hold). g.event.train ≡ t) k.is (train_of_release (record { train = t; route = k.route }) k.section)

  pub grants_of_hold : (t : TrainNo) (h : Hold) → In h (holds_of_train d routes p t) → 1 ≤ h.event.event.granted
  grants_of_hold t h m = let k = hold_of t h m in subst (λ (g : Hold). 1 ≤ g.event.event.granted) k.is (grants_of_release (record { train = t; route = k.route }) k.section)

  many_holds : (t : TrainNo) (rs : List RouteNo) → length (flat_map (holds_of_route d routes p t) rs) ≡ length (flat_map (λ (r : Route). r.overlaps) (map (route_at routes) rs))
  many_holds t [] = refl
  many_holds t (r ∷ rs) =
      let a = length-append (holds_of_route d routes p t r) (flat_map (holds_of_route d routes p t) rs) in
      let b = length-append (route_at routes r).overlaps (flat_map (λ (q : Route). q.overlaps) (map (route_at routes) rs)) in
      let c = length-map (hold_for d routes p (record { train = t; route = r })) (held_sections (route_at routes r)) in
      let e = length-map (λ o. o.section) (route_at routes r).overlaps in
      let h = many_holds t rs in
      omega arith

  -- where the holds of a command stand among those of its train
  pub hold_there : (e : Command) → Split (λ r. is_route r e.route) (p.path e.train) → (i n : ℕ) (z : SectionNo) → n ≡ holds_before d routes p e + i → slice_get (held_sections (route_at routes e.route)) i ≡ Some z → slice_get (holds_of_train d routes p e.train) n ≡ Some (hold_for d routes p e z)
  hold_there e s i n z number there =
      ap (λ rs. slice_get (flat_map g rs) n) s.is
      ∙ ap (λ hs. slice_get hs n) (flat_map-append g before (s.first ∷ s.rest))
      ∙ get_right (flat_map g before) (flat_map g (s.first ∷ s.rest)) n i (let m = many_holds e.train before in omega arith)
      ∙ get_left (g s.first) (flat_map g s.rest) i (hold_for d routes p e z) (ap (λ r. slice_get (g r) i) same ∙ slice_get-map (hold_for d routes p e) (held_sections (route_at routes e.route)) i ∙ ap (option_map (hold_for d routes p e)) there)
    where
      g : RouteNo → List Hold
      g = holds_of_route d routes p e.train

      before : List RouteNo
      before = before_first (λ r. is_route r e.route) (p.path e.train)

      same : s.first ≡ e.route
      same = ap (λ n. record { 0 = n }) (eqb-true s.first.0 e.route.0 s.passes)

  -- ---- waits

  pub own_known : (e : Command) (w : SectionNo × Wait) → In w (own_waits d routes p e) → IsWait d routes p w.1
  own_known e w m = go (in_map_back (wait_for_own d routes p e) (own_sections (route_at routes e.route)) w m)
    where
      go : ((z : SectionNo) × In z (own_sections (route_at routes e.route)) × (wait_for_own d routes p e z ≡ w)) → IsWait d routes p w.1
      go (z, k, s) = inl (record { command = e; section = z; own = own_goes_over (route_at routes e.route) z k; event = sym (ap (λ (x : SectionNo × Wait). x.1.event) s); no_hold = sym (ap (λ (x : SectionNo × Wait). x.1.hold) s) })

  held_when_given : (e : Command) → Split (λ r. is_route r e.route) (p.path e.train) → (n : ℕ × SectionNo) → Numbered (holds_before d routes p e) (held_sections (route_at routes e.route)) n → IsForHold d routes p (wait_for_held d routes p e n).1
  held_when_given e s n f = record {
    number = n.0;
    hold = hold_for d routes p e n.1;
    there = subst (λ t. slice_get (holds_of_train d routes p t) n.0 ≡ Some (hold_for d routes p e n.1)) (sym (train_of_release e n.1)) (hold_there e s f.place n.0 n.1 f.number f.there);
    event = refl;
    which = refl;
  }

  -- a command that is on no path of its train comes after all that are
  held_by_none : (e : Command) → before_first (λ r. is_route r e.route) (p.path e.train) ≡ p.path e.train → (n : ℕ × SectionNo) → Numbered (holds_before d routes p e) (held_sections (route_at routes e.route)) n → IsForNone d routes p (wait_for_held d routes p e n).1
  held_by_none e all n f = record {
    number = n.0;
    none = subst (λ t. slice_get (holds_of_train d routes p t) n.0 ≡ None) (sym (train_of_release e n.1)) (slice_get_past (holds_of_train d routes p e.train) n.0 past);
    never = subst (λ t. length (p.path t) < (release d routes p e n.1).event.granted) (sym (train_of_release e n.1)) more;
    which = refl;
  }
    where
      past : length (holds_of_train d routes p e.train) ≤ n.0
      past =
          let many = many_holds e.train (p.path e.train) in
          let before : holds_before d routes p e ≡ length (flat_map (λ (r : Route). r.overlaps) (map (route_at routes) (p.path e.train))) = ap (λ rs. length (flat_map (λ (r : Route). r.overlaps) (map (route_at routes) rs))) all in
          let number = f.number in
          omega arith

      more : length (p.path e.train) < (release d routes p e n.1).event.granted
      more =
          let number = number_of_release e n.1 in
          let many = ap (λ rs. length (map (route_at routes) rs)) all ∙ length-map (route_at routes) (p.path e.train) in
          omega arith

  pub held_known : (e : Command) (w : SectionNo × Wait) → In w (hold_waits d routes p e) → IsWait d routes p w.1
  held_known e w m = go (in_map_back (wait_for_held d routes p e) (enumerate_from (holds_before d routes p e) (held_sections (route_at routes e.route))) w m) (split_or_all (λ r. is_route r e.route) (p.path e.train))
    where
      go : ((n : ℕ × SectionNo) × In n (enumerate_from (holds_before d routes p e) (held_sections (route_at routes e.route))) × (wait_for_held d routes p e n ≡ w)) → Split (λ r. is_route r e.route) (p.path e.train) ⊎ (before_first (λ r. is_route r e.route) (p.path e.train) ≡ p.path e.train) → IsWait d routes p w.1
      go (n, k, s) (inl on) = inr (inl (subst (λ (x : SectionNo × Wait). IsForHold d routes p x.1) s (held_when_given e on n (in_enumerated (holds_before d routes p e) (held_sections (route_at routes e.route)) n k))))
      go (n, k, s) (inr off) = inr (inr (subst (λ (x : SectionNo × Wait). IsForNone d routes p x.1) s (held_by_none e off n (in_enumerated (holds_before d routes p e) (held_sections (route_at routes e.route)) n k))))

-- ---- it is known how a wait ends in any dispatch with the same paths

module _ (d : Station) (routes : List Route) (path : TrainNo → List RouteNo) (some other : Command → List Command) (these those : ℕ → TrainNo → Bool) where
  abbrev one : Dispatch
  one = record { path = path; before = some; concerns = these }

  abbrev two : Dispatch
  two = record { path = path; before = other; concerns = those }

  wait_same : (w : Wait) → IsWait d routes one w → IsWait d routes two w
  wait_same w (inl o) = inl (record { command = o.command; section = o.section; own = o.own; event = o.event; no_hold = o.no_hold })
  wait_same w (inr (inl h)) = inr (inl (record { number = h.number; hold = h.hold; there = h.there; event = h.event; which = h.which }))
  wait_same w (inr (inr n)) = inr (inr (record { number = n.number; none = n.none; never = n.never; which = n.which }))

pub wait_elsewhere : (d : Station) (routes : List Route) (p q : Dispatch) → p.path ≡ q.path → (w : Wait) → IsWait d routes p w → IsWait d routes q w
wait_elsewhere d routes p q same w h =
    wait_same d routes q.path p.before q.before p.concerns q.concerns w (subst (λ path. IsWait d routes (record { path = path; before = p.before; concerns = p.concerns }) w) same h)
