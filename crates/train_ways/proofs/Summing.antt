-- What is counted over signals and over trains.
use Rattle.std.proofs.Common.{◌≡◌, ℕ, zero, suc, ◌+◌, ◌-◌, ◌*◌, ◌≤◌, ◌<◌, ◌⊎◌, inl, inr, Bool, true, false, if◌then◌else◌, ◌==◌, List, [], ◌∷◌, ◌++◌, map, length, sum_by, max, All, refl, sym, ap, ap₂, subst, ◌∙◌, arith, eqb-true, eq-eqb, true≢false, length-append}
use Rattle.std.specs.List.{list_any}
use Rattle.std.proofs.lemmas.List.{map-append}
use Rattle.std.proofs.lemmas.List.Sums.{sum_by-append, sum_by-cons}
use Rattle.rail_base.specs.declared.station.Station.{Station}
use Rattle.rail_base.specs.declared.station.SignalNo.{SignalNo}
use Rattle.rail_base.specs.declared.station.TrainNo.{TrainNo}
use Rattle.rail_base.specs.declared.route.Route.{Route}
use Rattle.rail_base.specs.declared.route.RouteNo.{RouteNo}
use Rattle.rail_base.specs.declared.route.Start.{Start}
use Rattle.rail_base.specs.declared.route.Start.TheVariants as start
use Rattle.rail_base.specs.Members.{In, Differ}
use Rattle.rail_base.specs.Numbering.{count_from}
use Rattle.rail_base.specs.Routes.{IsRoute}
use Rattle.rail_spec.specs.Plans.{route_at}
use Rattle.rail_base.proofs.Members.{below_or_not, false_unless, list_any_from, list_any_gives}
use Rattle.rail_base.proofs.Lists.{in_append, in_append_left, in_append_right, in_count_back, in_map_back, pairs_append, pairs_more}
use Rattle.rail_laws.proofs.Counting.{at_most}
use Rattle.graph_steps.proofs.Leading.{all_from}
use Rattle.way_spec.specs.Ways.{AreLive, IsFewestRoutes, IsFewestSteps, IsMostRoutes, IsMostSteps}
use Rattle.train_ways.specs.Reached.{AreSignals, with_start, with_starts}

-- ---- the signals at which routes start

has_signal : (signals : List SignalNo) (s : SignalNo) → list_any (λ q. q.0 == s.0) signals ≡ true → In s signals
has_signal signals s h =
    let g = list_any_gives (λ q. q.0 == s.0) signals h in
    subst (λ x. In x signals) (ap (λ n. record { 0 = n }) (eqb-true (g.0).0 s.0 g.2)) g.1

start_in : (signals : List SignalNo) (x : Start) (s : SignalNo) → In s (with_start signals x) → In s signals ⊎ (x ≡ start.Signal s)
start_in signals (start.Boundary n) s m = inl m
start_in signals (start.Signal q) s m = go (list_any (λ (x : SignalNo). x.0 == q.0) signals) m
  where
    new : In s signals ⊎ In s (q ∷ []) → In s signals ⊎ (start.Signal q ≡ start.Signal s)
    new (inl k) = inl k
    new (inr (inl e)) = inr (ap start.Signal e)
    new (inr (inr k)) = absurd k

    go : (b : Bool) → In s (if b then signals else signals ++ q ∷ []) → In s signals ⊎ (start.Signal q ≡ start.Signal s)
    go true k = inl k
    go false k = new (in_append s signals (q ∷ []) k)

start_stays : (signals : List SignalNo) (x : Start) (s : SignalNo) → In s signals → In s (with_start signals x)
start_stays signals (start.Boundary n) s m = m
start_stays signals (start.Signal q) s m = go (list_any (λ (x : SignalNo). x.0 == q.0) signals)
  where
    go : (b : Bool) → In s (if b then signals else signals ++ q ∷ [])
    go true = m
    go false = in_append_left s signals (q ∷ []) m

start_new : (signals : List SignalNo) (s : SignalNo) → In s (with_start signals (start.Signal s))
start_new signals s = go (list_any (λ (x : SignalNo). x.0 == s.0) signals) refl
  where
    go : (b : Bool) → list_any (λ (x : SignalNo). x.0 == s.0) signals ≡ b → In s (if b then signals else signals ++ s ∷ [])
    go true e = has_signal signals s e
    go false e = in_append_right s signals (s ∷ []) (inl refl)

start_differ : (signals : List SignalNo) (x : Start) → Differ signals → Differ (with_start signals x)
start_differ signals (start.Boundary n) differ = differ
start_differ signals (start.Signal q) differ = go (list_any (λ (x : SignalNo). x.0 == q.0) signals) refl
  where
    apart : list_any (λ (x : SignalNo). x.0 == q.0) signals ≡ false → (x y : SignalNo) → In x signals → In y (q ∷ []) → x ≡ y → ⊥
    apart e x y m (inl s) same =
        let there = list_any_from (λ (x : SignalNo). x.0 == q.0) signals x m (eq-eqb x.0 q.0 (ap (λ (z : SignalNo). z.0) (same ∙ sym s))) in
        true≢false (sym there ∙ e)
    apart e x y m (inr k) same = k

    go : (b : Bool) → list_any (λ (x : SignalNo). x.0 == q.0) signals ≡ b → Differ (if b then signals else signals ++ q ∷ [])
    go true e = differ
    go false e = pairs_append (λ (x y : SignalNo). x ≡ y → ⊥) signals (q ∷ []) differ (λ y m. absurd m, tt) (apart e)

start_few : (signals : List SignalNo) (x : Start) → length (with_start signals x) ≤ length signals + 1
start_few signals (start.Boundary n) = omega arith
start_few signals (start.Signal q) = go (list_any (λ (x : SignalNo). x.0 == q.0) signals)
  where
    go : (b : Bool) → length (if b then signals else signals ++ q ∷ []) ≤ length signals + 1
    go true = omega arith
    go false = let l = length-append signals (q ∷ []) in omega arith

module _ (routes : List Route) where
  all_in : (signals : List SignalNo) (rs : List RouteNo) (s : SignalNo) → In s (with_starts routes signals rs) → In s signals ⊎ ((r : RouteNo) × In r rs × ((route_at routes r).start ≡ start.Signal s))
  all_in signals [] s m = inl m
  all_in signals (r ∷ rs) s m = go (all_in (with_start signals (route_at routes r).start) rs s m)
    where
      first : In s signals ⊎ ((route_at routes r).start ≡ start.Signal s) → In s signals ⊎ ((q : RouteNo) × In q (r ∷ rs) × ((route_at routes q).start ≡ start.Signal s))
      first (inl k) = inl k
      first (inr e) = inr (r, inl refl, e)

      go : In s (with_start signals (route_at routes r).start) ⊎ ((q : RouteNo) × In q rs × ((route_at routes q).start ≡ start.Signal s)) → In s signals ⊎ ((q : RouteNo) × In q (r ∷ rs) × ((route_at routes q).start ≡ start.Signal s))
      go (inl k) = first (start_in signals (route_at routes r).start s k)
      go (inr k) = inr (k.0, inr k.1, k.2)

  all_stay : (signals : List SignalNo) (rs : List RouteNo) (s : SignalNo) → In s signals → In s (with_starts routes signals rs)
  all_stay signals [] s m = m
  all_stay signals (r ∷ rs) s m = all_stay (with_start signals (route_at routes r).start) rs s (start_stays signals (route_at routes r).start s m)

  all_new : (signals : List SignalNo) (rs : List RouteNo) (r : RouteNo) (s : SignalNo) → In r rs → (route_at routes r).start ≡ start.Signal s → In s (with_starts routes signals rs)
  all_new signals [] r s m e = absurd m
  all_new signals (q ∷ rs) r s (inl k) e =
      let x : (route_at routes q).start ≡ start.Signal s = ap (λ z. (route_at routes z).start) k ∙ e in
      all_stay (with_start signals (route_at routes q).start) rs s (subst (λ x. In s (with_start signals x)) (sym x) (start_new signals s))
  all_new signals (q ∷ rs) r s (inr k) e = all_new (with_start signals (route_at routes q).start) rs r s k e

  all_differ : (signals : List SignalNo) (rs : List RouteNo) → Differ signals → Differ (with_starts routes signals rs)
  all_differ signals [] differ = differ
  all_differ signals (r ∷ rs) differ = all_differ (with_start signals (route_at routes r).start) rs (start_differ signals (route_at routes r).start differ)

  all_few : (signals : List SignalNo) (rs : List RouteNo) → length (with_starts routes signals rs) ≤ length signals + length rs
  all_few signals [] = omega arith
  all_few signals (r ∷ rs) = let a = start_few signals (route_at routes r).start in let b = all_few (with_start signals (route_at routes r).start) rs in omega arith

  pub are_signals : (rs : List RouteNo) → AreSignals routes rs (with_starts routes [] rs)
  are_signals rs = record {
    differ = all_differ [] rs tt;
    of_route = λ s m. go s (all_in [] rs s m);
    each = λ r s m e. all_new [] rs r s m e;
  }
    where
      go : (s : SignalNo) → In s [] ⊎ ((r : RouteNo) × In r rs × ((route_at routes r).start ≡ start.Signal s)) → (r : RouteNo) × In r rs × ((route_at routes r).start ≡ start.Signal s)
      go s (inl k) = absurd k
      go s (inr k) = k

  pub few_signals : (rs : List RouteNo) → length (with_starts routes [] rs) ≤ length rs
  few_signals rs = let h = all_few [] rs in omega arith

-- ---- one train

module _ (d : Station) (routes : List Route) (t : TrainNo) (live : List RouteNo) (are : AreLive d routes t live) where
  pub live_named : (r : RouteNo) → In r live → IsRoute routes r
  live_named r m = let l = (are.each r).0 m in l.1.walk.named r l.2

  pub live_routes_named : (xs : List RouteNo) → xs ≡ live → All (IsRoute routes) xs
  live_routes_named xs e = all_from (IsRoute routes) xs (λ r m. live_named r (subst (In r) e m))

  pub few_live : length live ≤ length routes
  few_live = at_most (λ (r : RouteNo). r.0) (λ r q e. ap (λ n. record { 0 = n }) e) (length routes) live
      (pairs_more (λ (r q : RouteNo). r.0 < q.0) (λ (r q : RouteNo). r ≡ q → ⊥) live (λ r q m n l e. let s : r.0 ≡ q.0 = ap (λ (x : RouteNo). x.0) e in absurd (omega arith)) are.in_order) live_named

  pub most_routes : (signals : List SignalNo) → signals ≡ with_starts routes [] live → IsMostRoutes d routes t (length signals + 1)
  most_routes signals e = record {
    signals = signals;
    each = λ s. ((λ m. let r = a.of_route s (subst (In s) e m) in (r.0, (are.each r.0).0 r.1, r.2)), (λ l. subst (In s) (sym e) (a.each l.0 s ((are.each l.0).1 l.1) l.2)));
    each_once = subst Differ (sym e) a.differ;
    so_many = refl;
  }
    where
      a : AreSignals routes live (with_starts routes [] live)
      a = are_signals routes live

-- ---- all trains

abbrev train_no : ℕ → TrainNo
train_no n = record { 0 = n }

one_longer : (a k : ℕ) → count_from a (k + 1) ≡ count_from a k ++ (a + k) ∷ []
one_longer a zero = ap (λ x. x ∷ []) (omega arith)
one_longer a (suc k) =
    let more : suc k + 1 ≡ suc (k + 1) = omega arith in
    let last : a + 1 + k ≡ a + suc k = omega arith in
    ap (count_from a) more ∙ ap (λ xs. a ∷ xs) (one_longer (a + 1) k) ∙ ap (λ n. a ∷ (count_from (a + 1) k ++ n ∷ [])) last

-- a number below the next one
lower_or_last : (m n : ℕ) → m < n + 1 → (m < n) ⊎ (m ≡ n)
lower_or_last m n h = grind arith

sum_by-same : {X : Type 0} (f g : X → ℕ) (xs : List X) → ((x : X) → In x xs → f x ≡ g x) → sum_by f xs ≡ sum_by g xs
sum_by-same f g [] h = refl
sum_by-same f g (x ∷ xs) h = sum_by-cons f x xs ∙ ap₂ (λ a b. a + b) (h x (inl refl)) (sum_by-same f g xs (λ y m. h y (inr m))) ∙ sym (sum_by-cons g x xs)

module _ (d : Station) (routes : List Route) where
  -- the most routes of the trains before this number, with their sum
  pub record SumSoFar (n m : ℕ) : Type 0 where
    pub most : TrainNo → ℕ
    pub each : (t : TrainNo) → 1 ≤ t.0 → t.0 < n → IsMostRoutes d routes t (most t)
    pub sum : m ≡ sum_by most (map train_no (count_from 1 (n - 1)))
    pub few : m ≤ (n - 1) * 2001

  pub sum_first : SumSoFar 1 0
  sum_first = record { most = λ t. 0; each = λ t l h. absurd (omega arith); sum = refl; few = omega arith }

  pub sum_next : (n m b : ℕ) → 1 ≤ n → IsMostRoutes d routes (train_no n) b → b ≤ 2001 → SumSoFar n m → SumSoFar (n + 1) (m + b)
  sum_next n m b low is few sum = record {
    most = most;
    each = λ t l h. each t l (lower_or_last t.0 n h);
    sum = total;
    few = let f = sum.few in omega arith;
  }
    where
      most : TrainNo → ℕ
      most t = if t.0 == n then b else sum.most t

      there : most (train_no n) ≡ b
      there = ap (λ c. if c then b else sum.most (train_no n)) (eq-eqb n n refl)

      before : (t : TrainNo) → t.0 < n → most t ≡ sum.most t
      before t h = ap (λ c. if c then b else sum.most t) (false_unless (t.0 == n) (λ e. let s = eqb-true t.0 n e in omega arith))

      each : (t : TrainNo) → 1 ≤ t.0 → (t.0 < n) ⊎ (t.0 ≡ n) → IsMostRoutes d routes t (most t)
      each t l (inl h) = subst (IsMostRoutes d routes t) (sym (before t h)) (sum.each t l h)
      each t l (inr e) = subst (λ u. IsMostRoutes d routes u (most u)) (ap train_no (sym e)) (subst (IsMostRoutes d routes (train_no n)) (sym there) is)

      earlier : (t : TrainNo) → In t (map train_no (count_from 1 (n - 1))) → most t ≡ sum.most t
      earlier t m =
          let i = in_map_back train_no (count_from 1 (n - 1)) t m in
          let b = in_count_back 1 (n - 1) i.0 i.1 in
          let h = b.1 in
          let e : i.0 ≡ t.0 = ap (λ (u : TrainNo). u.0) i.2 in
          before t (omega arith)

      total : m + b ≡ sum_by most (map train_no (count_from 1 (n + 1 - 1)))
      total =
          let many : n + 1 - 1 ≡ n - 1 + 1 = omega arith in
          let last : 1 + (n - 1) ≡ n = omega arith in
          let list : map train_no (count_from 1 (n + 1 - 1)) ≡ map train_no (count_from 1 (n - 1)) ++ train_no n ∷ [] =
          ap (λ k. map train_no (count_from 1 k)) many ∙ ap (map train_no) (one_longer 1 (n - 1)) ∙ map-append train_no (count_from 1 (n - 1)) ((1 + (n - 1)) ∷ [])
          ∙ ap (λ k. map train_no (count_from 1 (n - 1)) ++ train_no k ∷ []) last in
          let apart = ap (sum_by most) list ∙ sum_by-append most (map train_no (count_from 1 (n - 1))) (train_no n ∷ []) in
          let firsts = sum_by-same most sum.most (map train_no (count_from 1 (n - 1))) earlier in
          let one = sum_by-cons most (train_no n) [] in
          let was = sum.sum in
          let new = there in
          omega arith

  pub sum_all : (n m : ℕ) → n ≡ length d.trains + 1 → SumSoFar n m → IsMostSteps d routes m
  sum_all n m e sum = record {
    most = sum.most;
    of_train = λ t known. sum.each t known.0 (let h = known.1 in omega arith);
    is_sum = let k : n - 1 ≡ length d.trains = omega arith in sum.sum ∙ ap (λ k. sum_by sum.most (map train_no (count_from 1 k))) k;
  }

  -- the fewest routes of the trains before this number, of which m is the most
  pub record FewestSoFar (n m : ℕ) : Type 0 where
    pub each : (t : TrainNo) → 1 ≤ t.0 → t.0 < n → (k : ℕ) × IsFewestRoutes d routes t k × (k ≤ m)
    pub of_train : 1 < n → (t : TrainNo) × (1 ≤ t.0) × (t.0 < n) × IsFewestRoutes d routes t m
    pub none_yet : n ≡ 1 → m ≡ 0

  pub fewest_first : FewestSoFar 1 0
  fewest_first = record { each = λ t l h. absurd (omega arith); of_train = λ h. absurd (omega arith); none_yet = λ e. refl }

  pub fewest_next : (n m k : ℕ) → 1 ≤ n → IsFewestRoutes d routes (train_no n) k → FewestSoFar n m → FewestSoFar (n + 1) (max m k)
  fewest_next n m k low is so = record {
    each = λ t l h. each t l (lower_or_last t.0 n h);
    of_train = λ h. one (below_or_not k m);
    none_yet = λ e. absurd (omega arith);
  }
    where
      each : (t : TrainNo) → 1 ≤ t.0 → (t.0 < n) ⊎ (t.0 ≡ n) → (j : ℕ) × IsFewestRoutes d routes t j × (j ≤ max m k)
      each t l (inl h) = let s = so.each t l h in (s.0, s.1, let u = s.2 in omega arith)
      each t l (inr e) = (k, subst (λ u. IsFewestRoutes d routes u k) (ap train_no (sym e)) is, omega arith)

      later : k < m → 1 < n
      later h = go (lower_or_last 1 n (omega arith))
        where
          go : (1 < n) ⊎ (1 ≡ n) → 1 < n
          go (inl l) = l
          go (inr e) = let z = so.none_yet (sym e) in absurd (omega arith)

      one : (k < m) ⊎ (m ≤ k) → (t : TrainNo) × (1 ≤ t.0) × (t.0 < n + 1) × IsFewestRoutes d routes t (max m k)
      one (inl h) =
          let t = so.of_train (later h) in
          let e : m ≡ max m k = omega arith in
          (t.0, t.1, let u = t.2 in omega arith, subst (IsFewestRoutes d routes t.0) e t.3)
      one (inr h) = let e : k ≡ max m k = omega arith in (train_no n, low, omega arith, subst (IsFewestRoutes d routes (train_no n)) e is)

  pub fewest_all : (n m : ℕ) → n ≡ length d.trains + 1 → 1 ≤ length d.trains → FewestSoFar n m → IsFewestSteps d routes m
  fewest_all n m e some so =
      let t = so.of_train (omega arith) in
      record {
        train = t.0;
        there = (t.1, let h = t.2 in omega arith);
        of_train = t.3;
        each = λ u known. so.each u known.0 (let h = known.1 in omega arith);
      }
