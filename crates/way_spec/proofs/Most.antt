-- A train has at most one command more than there are signals at which its live routes start.
use Rattle.std.proofs.Common.{◌≡◌, ℕ, ◌+◌, ◌≤◌, ◌<◌, ◌⊎◌, inl, inr, Bool, true, false, cond, not, List, [], ◌∷◌, ◌++◌, filter, flat_map, length, sum_by, refl, sym, ap, subst, ◌∙◌, arith, eq-eqb, true≢false, length-append}
use Rattle.std.specs.List.{list_all}
use Rattle.std.proofs.lemmas.List.Sums.{sum_by-cons}
use Rattle.rail_base.specs.declared.station.Station.{Station}
use Rattle.rail_base.specs.declared.station.SignalNo.{SignalNo}
use Rattle.rail_base.specs.declared.station.TrainNo.{TrainNo}
use Rattle.rail_base.specs.declared.route.Route.{Route}
use Rattle.rail_base.specs.declared.route.Start.{Start}
use Rattle.rail_base.specs.declared.route.Start.TheVariants as start
use Rattle.rail_base.specs.declared.route.Finish.{Finish}
use Rattle.rail_base.specs.declared.route.Finish.TheVariants as finish
use Rattle.rail_base.specs.declared.plan.Command.{Command}
use Rattle.rail_base.specs.Members.{In, Pairs, Differ, all_pairs, all_neighbors}
use Rattle.rail_base.specs.Stations.{IsTrain, trains}
use Rattle.rail_spec.specs.Plans.{commands, goes_on, is_start, is_train, path, path_routes, route_at}
use Rattle.rail_spec.specs.Track.{routes_of}
use Rattle.rail_spec.specs.Feasible.{IsFeasible}
use Rattle.rail_base.proofs.Members.{and_left, and_right, list_all_at}
use Rattle.rail_base.proofs.Lists.{in_append, in_append_left, in_append_right, in_flat_map_back, in_map_back, length-map, pairs_flat_map}
use Rattle.rail_laws.proofs.Given.{path_is}
use Rattle.rail_laws.proofs.Sums.{sum_by-less}
use Rattle.way_spec.specs.Ways.{IsLiveStart, IsMostRoutes, IsMostSteps}
use Rattle.way_spec.specs.Laws.{HasMostRoutes, HasShortPlan, NoneOfAny}
use Rattle.way_spec.proofs.Paths.{has_train, in_trains, in_trains_back, path_is_walk, paths_are_ways, starts_differ}
use Rattle.way_spec.proofs.Shortening.{without_empty, more_steps, stays_feasible}

-- ---- different members of a list are at most as many as it has

parted : {X : Type 0} (x : X) (ys : List X) → In x ys → (us : List X) × (vs : List X) × (ys ≡ us ++ x ∷ vs)
parted x [] m = absurd m
parted x (y ∷ ys) (inl e) = ([], ys, ap (λ z. z ∷ ys) e)
parted x (y ∷ ys) (inr m) = let p = parted x ys m in (y ∷ p.0, p.1, ap (λ zs. y ∷ zs) p.2)

elsewhere : {X : Type 0} (x y : X) (us vs : List X) → (x ≡ y → ⊥) → In y (us ++ x ∷ vs) → In y (us ++ vs)
elsewhere {X} x y us vs apart m = go (in_append y us (x ∷ vs) m)
  where
    go : In y us ⊎ In y (x ∷ vs) → In y (us ++ vs)
    go (inl k) = in_append_left y us vs k
    go (inr (inl e)) = absurd (apart e)
    go (inr (inr k)) = in_append_right y us vs k

at_most : {X : Type 0} (xs ys : List X) → Differ xs → ((x : X) → In x xs → In x ys) → length xs ≤ length ys
at_most [] ys differ there = omega arith
at_most {X} (x ∷ xs) ys differ there =
    let p = parted x ys (there x (inl refl)) in
    let few = at_most xs (p.0 ++ p.1) differ.1 (λ y m. elsewhere x y p.0 p.1 (differ.0 y m) (subst (λ zs. In y zs) p.2 (there y (inr m)))) in
    let whole : length ys ≡ length p.0 + length (x ∷ p.1) = ap length p.2 ∙ length-append p.0 (x ∷ p.1) in
    let less : length (p.0 ++ p.1) ≡ length p.0 + length p.1 = length-append p.0 p.1 in
    omega arith

-- ---- the signals at which routes start

abbrev signal_of_start : Start → List SignalNo
signal_of_start (start.Boundary n) = []
signal_of_start (start.Signal s) = s ∷ []

abbrev signals_of : List Route → List SignalNo
signals_of rs = flat_map (λ r. signal_of_start r.start) rs

at_signal : (f : Finish) (s : Start) → goes_on f s ≡ true → (x : SignalNo) × (s ≡ start.Signal x)
at_signal (finish.Signal s) (start.Signal q) h = (q, refl)
at_signal (finish.Signal s) (start.Boundary n) h = cc
at_signal (finish.Exit m) s h = cc
at_signal (finish.DeadEnd m) s h = cc

as_many : (r : Route) (rs : List Route) → all_neighbors (λ (r q : Route). goes_on r.finish q.start) (r ∷ rs) ≡ true → length (signals_of rs) ≡ length rs
as_many r [] h = refl
as_many r (q ∷ qs) h =
    let more = as_many q qs (and_right (goes_on r.finish q.start) _ h) in
    let s = at_signal r.finish q.start (and_left (goes_on r.finish q.start) (all_neighbors (λ (r q : Route). goes_on r.finish q.start) (q ∷ qs)) h) in
    let both : length (signals_of (q ∷ qs)) ≡ length (signal_of_start q.start) + length (signals_of qs) = length-append (signal_of_start q.start) (signals_of qs) in
    let one : length (signal_of_start q.start) ≡ 1 = ap (λ x. length (signal_of_start x)) s.1 in
    omega arith

from_signal : (s : Start) (x : SignalNo) → In x (signal_of_start s) → s ≡ start.Signal x
from_signal (start.Boundary n) x m = absurd m
from_signal (start.Signal s) x (inl e) = ap start.Signal e
from_signal (start.Signal s) x (inr m) = absurd m

one_signal : (s : Start) → Differ (signal_of_start s)
one_signal (start.Boundary n) = tt
one_signal (start.Signal s) = (λ y m. absurd m, tt)

pairs_of : {X : Type 0} (test : X → X → Bool) (xs : List X) → all_pairs test xs ≡ true → Pairs (λ x y. test x y ≡ true) xs
pairs_of test [] h = tt
pairs_of test (x ∷ xs) h = (λ y m. list_all_at (test x) xs y (and_left (list_all (test x) xs) _ h) m, pairs_of test xs (and_right (list_all (test x) xs) _ h))

signals_differ : (rs : List Route) → all_pairs (λ (r q : Route). not (is_start r.start q.start)) rs ≡ true → Differ (signals_of rs)
signals_differ rs h = pairs_flat_map (λ (r q : Route). not (is_start r.start q.start) ≡ true) (λ (x y : SignalNo). x ≡ y → ⊥) (λ (r : Route). signal_of_start r.start) rs (pairs_of _ rs h) (λ r m. one_signal r.start) (λ a b y z m n apart my mz e.
    let s = from_signal a.start y my in
    let q = from_signal b.start z mz in
    let same : is_start (start.Signal y) (start.Signal z) ≡ true = eq-eqb y.0 z.0 (ap (λ (x : SignalNo). x.0) e) in
    let there : is_start a.start b.start ≡ true = subst (λ v. is_start v b.start ≡ true) (sym s) (subst (λ v. is_start (start.Signal y) v ≡ true) (sym q) same) in
    true≢false (sym apart ∙ ap not there))

-- ---- how long a path is

module _ (d : Station) (n : ℕ) (plan : List (List Command)) (f : IsFeasible d n plan) (t : TrainNo) (known : IsTrain d t) where
  abbrev rs : List Route
  rs = path_routes (routes_of d) plan t

  live_start : (x : SignalNo) → In x (signals_of rs) → IsLiveStart d (routes_of d) t x
  live_start x m =
      let a = in_flat_map_back (λ (r : Route). signal_of_start r.start) rs x m in
      let b = in_map_back (route_at (routes_of d)) (path plan t) a.0 a.1 in
      (b.0, (path plan t, paths_are_ways d n plan f t known, b.1), ap (λ (r : Route). r.start) b.2 ∙ from_signal (a.0).start x a.2)

  signals_or_one : (qs : List Route) → all_neighbors (λ (r q : Route). goes_on r.finish q.start) qs ≡ true → length qs ≤ length (signals_of qs) + 1
  signals_or_one [] h = omega arith
  signals_or_one (q ∷ qs) h =
      let more = as_many q qs h in
      let both : length (signals_of (q ∷ qs)) ≡ length (signal_of_start q.start) + length (signals_of qs) = length-append (signal_of_start q.start) (signals_of qs) in
      omega arith

  pub path_at_most : (m : ℕ) → IsMostRoutes d (routes_of d) t m → length (path plan t) ≤ m
  path_at_most m most =
      let follows = (path_is_walk d (routes_of d) n plan f.runnable.well_formed t known).goes_on in
      let long = signals_or_one rs follows in
      let few = at_most (signals_of rs) most.signals (signals_differ rs (starts_differ d (routes_of d) n plan f.runnable.well_formed t known)) (λ x k. (most.each x).1 (live_start x k)) in
      let same = length-map (route_at (routes_of d)) (path plan t) in
      let is = most.so_many in
      omega arith

pub has_most_routes : (d : Station) (n : ℕ) (plan : List (List Command)) → IsFeasible d n plan → HasMostRoutes d plan
has_most_routes d n plan f t m known most = path_at_most d n plan f t known m most

-- ---- all commands

sum_by-le_in : {X : Type 0} (f g : X → ℕ) (xs : List X) → ((x : X) → In x xs → f x ≤ g x) → sum_by f xs ≤ sum_by g xs
sum_by-le_in f g [] h = omega arith
sum_by-le_in f g (x ∷ xs) h = let a = h x (inl refl) in let b = sum_by-le_in f g xs (λ y m. h y (inr m)) in let x1 = sum_by-cons f x xs in let y1 = sum_by-cons g x xs in omega arith

abbrev of_train : TrainNo → List Command → List Command
of_train t cs = filter (λ c. is_train c.train t) cs

counted : (ts : List TrainNo) (cs : List Command) → ((c : Command) → In c cs → In c.train ts) → length cs ≤ sum_by (λ t. length (of_train t cs)) ts
counted ts [] h = omega arith
counted ts (c ∷ cs) h =
    let more = counted ts cs (λ e m. h e (inr m)) in
    let less = sum_by-less (λ t. length (of_train t cs)) (λ t. length (of_train t (c ∷ cs))) ts c.train (λ t. never_less t (is_train c.train t)) (h c (inl refl)) (one_more (is_train c.train c.train) (eq-eqb c.train.0 c.train.0 refl)) in
    omega arith
  where
    never_less : (t : TrainNo) (b : Bool) → length (of_train t cs) ≤ length (cond b (c ∷ of_train t cs) (of_train t cs))
    never_less t true = omega arith
    never_less t false = omega arith

    one_more : (b : Bool) → b ≡ true → length (of_train c.train cs) < length (cond b (c ∷ of_train c.train cs) (of_train c.train cs))
    one_more true e = omega arith
    one_more false e = cc

path_length : (plan : List (List Command)) (t : TrainNo) → length (path plan t) ≡ length (of_train t (commands plan))
path_length plan t = ap length (path_is t plan) ∙ length-map (λ (c : Command). c.route) (of_train t (commands plan))

pub short_plan : (d : Station) (m : ℕ) → IsMostSteps d (routes_of d) m → HasShortPlan d m
short_plan d m most n plan f =
    let all = counted (trains d) (commands plan) (λ c k. in_trains d c.train (has_train d (routes_of d) n plan f.runnable.well_formed c k)) in
    let each = sum_by-le_in (λ t. length (of_train t (commands plan))) most.most (trains d) (λ t k. one t (in_trains_back d t k)) in
    let is = most.is_sum in
    (without_empty plan, stays_feasible d m n plan f (omega arith))
  where
    one : (t : TrainNo) → IsTrain d t → length (of_train t (commands plan)) ≤ most.most t
    one t k = let p = path_at_most d n plan f t k (most.most t) (most.of_train t k) in let e = path_length plan t in omega arith

pub none_of_any : (d : Station) (m : ℕ) → IsMostSteps d (routes_of d) m → NoneOfAny d m
none_of_any d m most n more none k plan f = let s = short_plan d m most k plan f in none s.0 (more_steps d m n s.0 more s.1)
