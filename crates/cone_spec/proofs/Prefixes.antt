-- A train's path in a cone is the prefix of its path in a plan that gives the train all these commands.
use Rattle.std.proofs.Common.{◌≡◌, ℕ, zero, suc, ◌≤◌, ◌<◌, ◌⊎◌, inl, inr, Bool, true, false, not, List, [], ◌∷◌, ◌++◌, map, slice_get, Some, refl, sym, ap, ap₂, subst, ◌∙◌, arith, eqb-true, eq-eqb, true≢false}
use Rattle.std.specs.List.{list_all}
use Rattle.rail_base.specs.declared.station.NodeNo.{NodeNo}
use Rattle.rail_base.specs.declared.route.Route.{Route}
use Rattle.rail_base.specs.declared.route.RouteNo.{RouteNo}
use Rattle.rail_base.specs.declared.route.Start.{Start}
use Rattle.rail_base.specs.declared.route.Start.TheVariants as start
use Rattle.rail_base.specs.declared.route.Finish.{Finish}
use Rattle.rail_base.specs.declared.route.Finish.TheVariants as finish
use Rattle.rail_base.specs.Members.{all_pairs, all_neighbors}
use Rattle.rail_spec.specs.Plans.{is_start, goes_on, end_at_one_signal, starts_in, begins_in}
use Rattle.rail_base.proofs.Members.{In, and_left, and_right, and_both, list_all_at, below_or_not}
use Rattle.cone_spec.specs.Validity.{from_boundary}
use Rattle.cone_spec.specs.Clauses.{goes_further}
use Rattle.rail_laws.proofs.Sums.{get_in, in_get, get_map}

-- ---- starts and ends

pub not_to_boundary : (f : Finish) (n : NodeNo) → goes_on f (start.Boundary n) ≡ false
not_to_boundary (finish.Signal s) n = refl
not_to_boundary (finish.Exit m) n = refl
not_to_boundary (finish.DeadEnd m) n = refl

-- two routes from which one goes on to the same start end at one signal
pub both_end_there : (f g : Finish) (s : Start) → goes_on f s ≡ true → goes_on g s ≡ true → end_at_one_signal f g ≡ true
both_end_there (finish.Signal a) (finish.Signal b) (start.Signal s) h k = let e : a.0 ≡ s.0 = eqb-true a.0 s.0 h in let f : b.0 ≡ s.0 = eqb-true b.0 s.0 k in eq-eqb a.0 b.0 (e ∙ sym f)
both_end_there (finish.Signal a) (finish.Signal b) (start.Boundary s) h k = absurd (true≢false (sym h))
both_end_there (finish.Signal a) (finish.Exit b) s h k = absurd (true≢false (sym k))
both_end_there (finish.Signal a) (finish.DeadEnd b) s h k = absurd (true≢false (sym k))
both_end_there (finish.Exit a) g s h k = absurd (true≢false (sym h))
both_end_there (finish.DeadEnd a) g s h k = absurd (true≢false (sym h))

pub is_start_same : (s : Start) → is_start s s ≡ true
is_start_same (start.Boundary n) = eq-eqb n.0 n.0 refl
is_start_same (start.Signal n) = eq-eqb n.0 n.0 refl

pub not_both : (b : Bool) → not b ≡ true → b ≡ true → ⊥
not_both true h e = true≢false (sym h)
not_both false h e = true≢false (sym e)

-- ---- places in lists

pub pairs_at : {X : Type 0} (test : X → X → Bool) (xs : List X) (i j : ℕ) (x y : X) → all_pairs test xs ≡ true → i < j → slice_get xs i ≡ Some x → slice_get xs j ≡ Some y → test x y ≡ true
pairs_at test [] i j x y h l e f = cc
pairs_at test (z ∷ zs) i zero x y h l e f = absurd (omega arith)
pairs_at test (z ∷ zs) zero (suc j) x y h l e f = let same : z ≡ x = cc in subst (λ a. test a y ≡ true) same (all_at (test z) zs j y (and_left (list_all (test z) zs) _ h) f)
  where
    all_at : {X : Type 0} (t : X → Bool) (ys : List X) (i : ℕ) (y : X) → list_all t ys ≡ true → slice_get ys i ≡ Some y → t y ≡ true
    all_at t [] i y a b = cc
    all_at t (w ∷ ws) zero y a b = let same : w ≡ y = cc in subst (λ v. t v ≡ true) same (and_left (t w) _ a)
    all_at t (w ∷ ws) (suc i) y a b = all_at t ws i y (and_right (t w) _ a) b
pairs_at test (z ∷ zs) (suc i) (suc j) x y h l e f = pairs_at test zs i j x y (and_right (list_all (test z) zs) _ h) (omega arith) e f

pub neighbors_at : {X : Type 0} (test : X → X → Bool) (xs : List X) (i : ℕ) (x y : X) → all_neighbors test xs ≡ true → slice_get xs i ≡ Some x → slice_get xs (suc i) ≡ Some y → test x y ≡ true
neighbors_at test [] i x y h e f = cc
neighbors_at test (a ∷ []) i x y h e f = cc
neighbors_at test (a ∷ b ∷ xs) zero x y h e f = let s : a ≡ x = cc in let t : b ≡ y = cc in ap₂ test (sym s) (sym t) ∙ and_left (test a b) _ h
neighbors_at test (a ∷ b ∷ xs) (suc i) x y h e f = neighbors_at test (b ∷ xs) i x y (and_right (test a b) _ h) e f

pub place_below : {X : Type 0} (xs : List X) (i : ℕ) (y : X) → slice_get xs (suc i) ≡ Some y → (x : X) × (slice_get xs i ≡ Some x)
place_below [] i y e = cc
place_below (x ∷ xs) zero y e = (x, refl)
place_below (x ∷ xs) (suc i) y e = place_below xs i y e

-- a list that has each member of a second at its place has the second as its prefix
pub prefix_by_places : {X : Type 0} (xs ys : List X) → ((i : ℕ) (x : X) → slice_get xs i ≡ Some x → slice_get ys i ≡ Some x) → (rest : List X) × (ys ≡ xs ++ rest)
prefix_by_places [] ys h = (ys, refl)
prefix_by_places {X} (x ∷ xs) ys h = go ys (h 0 x refl) (λ i z e. h (suc i) z e) (λ zs. prefix_by_places xs zs)
  where
    go : (ys : List X) → slice_get ys 0 ≡ Some x → ((i : ℕ) (z : X) → slice_get xs i ≡ Some z → slice_get ys (suc i) ≡ Some z)
        → ((zs : List X) → ((i : ℕ) (z : X) → slice_get xs i ≡ Some z → slice_get zs i ≡ Some z) → (rest : List X) × (zs ≡ xs ++ rest)) → (rest : List X) × (ys ≡ x ∷ xs ++ rest)
    go [] e later again = cc
    go (y ∷ zs) e later again = let same : y ≡ x = cc in let k = again zs later in (k.0, ap₂ (λ a bs. a ∷ bs) same k.1)

-- ---- the prefix of a path

module _ (f : RouteNo → Route) (set : List NodeNo) (xs ys : List RouteNo) where
  boundary_first : (rs : List Route) (r : Route) → from_boundary rs ≡ true → slice_get rs 0 ≡ Some r → (n : NodeNo) × (r.start ≡ start.Boundary n)
  boundary_first [] r h e = cc
  boundary_first (q ∷ qs) r h e = let same : q ≡ r = cc in at r.start (ap (λ (a : Route). from_boundary (a ∷ [])) (sym same) ∙ h) refl
    where
      at : (s : Start) → from_boundary (r ∷ []) ≡ true → r.start ≡ s → (n : NodeNo) × (r.start ≡ start.Boundary n)
      at (start.Boundary n) h e = (n, e)
      at (start.Signal n) h e = absurd (true≢false (sym h ∙ ap (λ s. from_boundary (record r { start = s } ∷ [])) e))

  boundary_begins : (rs : List Route) (r : Route) → begins_in set rs ≡ true → slice_get rs 0 ≡ Some r → (n : NodeNo) × (r.start ≡ start.Boundary n)
  boundary_begins [] r h e = cc
  boundary_begins (q ∷ qs) r h e = let same : q ≡ r = cc in at r.start (ap (λ (a : Route). starts_in set a.start) (sym same) ∙ h) refl
    where
      at : (s : Start) → starts_in set r.start ≡ true → r.start ≡ s → (n : NodeNo) × (r.start ≡ start.Boundary n)
      at (start.Boundary n) h e = (n, e)
      at (start.Signal n) h e = absurd (true≢false (sym h ∙ ap (starts_in set) e))

  pub record Ways : Type 0 where
    pub from : from_boundary (map f xs) ≡ true
    pub goes : all_neighbors (λ r q. goes_on r.finish q.start) (map f xs) ≡ true
    pub begins : begins_in set (map f ys) ≡ true
    pub goes_too : all_neighbors (λ r q. goes_on r.finish q.start) (map f ys) ≡ true
    pub ends : all_pairs (λ r q. not (end_at_one_signal r.finish q.finish)) (map f ys) ≡ true
    pub all_in : (x : RouteNo) → In x xs → In x ys

  at_its_place : Ways → (i : ℕ) (x : RouteNo) → slice_get xs i ≡ Some x → slice_get ys i ≡ Some x
  at_its_place w zero x e = go (in_get ys x (w.all_in x (get_in xs 0 x e)))
    where
      go : ((j : ℕ) × (slice_get ys j ≡ Some x)) → slice_get ys 0 ≡ Some x
      go (zero, k) = k
      go (suc j, k) =
          let before = place_below ys j x k in
          let on = neighbors_at (λ r q. goes_on r.finish q.start) (map f ys) j (f before.0) (f x) w.goes_too (get_map f ys j before.0 before.1) (get_map f ys (suc j) x k) in
          let b = boundary_first (map f xs) (f x) w.from (get_map f xs 0 x e) in
          absurd (true≢false (sym on ∙ ap (goes_on (f before.0).finish) b.1 ∙ not_to_boundary (f before.0).finish b.0))
  at_its_place w (suc i) x e = go (in_get ys x (w.all_in x (get_in xs (suc i) x e))) (place_below xs i x e) (λ y. at_its_place w i y)
    where
      go : ((j : ℕ) × (slice_get ys j ≡ Some x)) → ((y : RouteNo) × (slice_get xs i ≡ Some y)) → ((y : RouteNo) → slice_get xs i ≡ Some y → slice_get ys i ≡ Some y) → slice_get ys (suc i) ≡ Some x
      go (zero, k) (y, m) again =
          let on = neighbors_at (λ r q. goes_on r.finish q.start) (map f xs) i (f y) (f x) w.goes (get_map f xs i y m) (get_map f xs (suc i) x e) in
          let b = boundary_begins (map f ys) (f x) w.begins (get_map f ys 0 x k) in
          absurd (true≢false (sym on ∙ ap (goes_on (f y).finish) b.1 ∙ not_to_boundary (f y).finish b.0))
      go (suc j, k) (y, m) again =
          let z = place_below ys j x k in
          let on = neighbors_at (λ r q. goes_on r.finish q.start) (map f xs) i (f y) (f x) w.goes (get_map f xs i y m) (get_map f xs (suc i) x e) in
          let too = neighbors_at (λ r q. goes_on r.finish q.start) (map f ys) j (f z.0) (f x) w.goes_too (get_map f ys j z.0 z.1) (get_map f ys (suc j) x k) in
          cases z.0 z.1 (both_end_there (f y).finish (f z.0).finish (f x).start on too) (both_end_there (f z.0).finish (f y).finish (f x).start too on) (below_or_not i j) (below_or_not j i)
        where
          cases : (z : RouteNo) → slice_get ys j ≡ Some z → end_at_one_signal (f y).finish (f z).finish ≡ true → end_at_one_signal (f z).finish (f y).finish ≡ true → (i < j) ⊎ (j ≤ i) → (j < i) ⊎ (i ≤ j) → slice_get ys (suc i) ≡ Some x
          cases z n one two (inl l) _ = absurd (not_both _ (pairs_at (λ r q. not (end_at_one_signal r.finish q.finish)) (map f ys) i j (f y) (f z) w.ends l (get_map f ys i y (again y m)) (get_map f ys j z n)) one)
          cases z n one two _ (inl l) = absurd (not_both _ (pairs_at (λ r q. not (end_at_one_signal r.finish q.finish)) (map f ys) j i (f z) (f y) w.ends l (get_map f ys j z n) (get_map f ys i y (again y m))) two)
          cases z n one two (inr l) (inr g) = let same : j ≡ i = omega arith in ap (λ a. slice_get ys (suc a)) (sym same) ∙ k

  pub prefix_of : Ways → (rest : List RouteNo) × (ys ≡ xs ++ rest)
  prefix_of w = prefix_by_places xs ys (at_its_place w)

-- ---- the end of a path

-- a route that follows others in a row goes further than they
pub further : (rs : List Route) (q : Route) (more : List Route) → from_boundary rs ≡ true
    → all_neighbors (λ r q. goes_on r.finish q.start) (rs ++ q ∷ more) ≡ true → all_pairs (λ r q. not (is_start r.start q.start)) (rs ++ q ∷ more) ≡ true → goes_further rs q ≡ true
further [] q more b h k = absurd (true≢false (sym b))
further (r ∷ rs) q more b h k = go r rs h k
  where
    go : (r : Route) (rs : List Route) → all_neighbors (λ r q. goes_on r.finish q.start) (r ∷ rs ++ q ∷ more) ≡ true → all_pairs (λ r q. not (is_start r.start q.start)) (r ∷ rs ++ q ∷ more) ≡ true → goes_further (r ∷ rs) q ≡ true
    go r [] h k = and_both _ _ (and_left (goes_on r.finish q.start) _ h) (and_left (not (is_start r.start q.start)) _ (and_left (list_all (λ y. not (is_start r.start y.start)) (q ∷ more)) _ k))
    go r (s ∷ rs) h k =
        and_both _ _ (list_all_at (λ (y : Route). not (is_start r.start y.start)) (s ∷ rs ++ q ∷ more) q (and_left (list_all (λ y. not (is_start r.start y.start)) (s ∷ rs ++ q ∷ more)) _ k) (inr (in_middle rs)))
        (go s rs (and_right (goes_on r.finish s.start) _ h) (and_right (list_all (λ y. not (is_start r.start y.start)) (s ∷ rs ++ q ∷ more)) _ k))
      where
        in_middle : (rs : List Route) → In q (rs ++ q ∷ more)
        in_middle [] = inl refl
        in_middle (a ∷ bs) = inr (in_middle bs)

-- and it is none of them
pub not_among : (rs : List Route) (q r : Route) → goes_further rs q ≡ true → In r rs → is_start r.start q.start ≡ false
not_among [] q r h m = absurd m
not_among (a ∷ []) q r h (inl e) = go (is_start r.start q.start) (ap (λ (x : Route). not (is_start x.start q.start)) (sym e) ∙ and_right (goes_on a.finish q.start) _ h)
  where
    go : (b : Bool) → not b ≡ true → b ≡ false
    go true k = sym k
    go false k = refl
not_among (a ∷ []) q r h (inr m) = absurd m
not_among (a ∷ b ∷ rs) q r h (inl e) = go (is_start r.start q.start) (ap (λ (x : Route). not (is_start x.start q.start)) (sym e) ∙ and_left (not (is_start a.start q.start)) _ h)
  where
    go : (b : Bool) → not b ≡ true → b ≡ false
    go true k = sym k
    go false k = refl
not_among (a ∷ b ∷ rs) q r h (inr m) = not_among (b ∷ rs) q r (and_right (not (is_start a.start q.start)) _ h) m
