-- What the tables of an encoder have.
use Rattle.std.proofs.Common.{◌≡◌, ℕ, zero, suc, ◌+◌, ◌-◌, ◌*◌, ◌≤◌, ◌<◌, ◌⊎◌, inl, inr, Bool, true, false, cond, ◌&&◌, List, [], ◌∷◌, ◌++◌, map, filter, flat_map, length, get_or, refl, sym, ap, subst, ◌∙◌, arith, drop, length-append, append-nil}
use Rattle.std.proofs.Math.Nat.{suc-mul}
use Rattle.std.proofs.lemmas.Nat.{mul-le}
use Rattle.clause_spec.specs.Clauses.{Clause, exclude, later_pairs}
use Rattle.std.proofs.lemmas.List.{append_assoc, drop_all, drop_more}
use Rattle.plan_encoding.proofs.Emission.{Next}
use Rattle.std.specs.Prelude.{All}
use Rattle.rail_base.specs.declared.station.Station.{Station}
use Rattle.rail_base.specs.declared.station.TrainNo.{TrainNo}
use Rattle.rail_base.specs.declared.route.Route.{Route}
use Rattle.rail_base.specs.declared.route.RouteNo.{RouteNo}
use Rattle.rail_base.specs.declared.plan.Command.{Command}
use Rattle.rail_base.specs.Numbering.{one_to, entry}
use Rattle.rail_base.specs.Members.{In}
use Rattle.rail_base.specs.Routes.{IsRoute, route_at}
use Rattle.rail_base.specs.Stations.{IsTrain, trains}
use Rattle.rail_base.proofs.Members.{filter-append}
use Rattle.rail_base.proofs.Lists.{in_append, in_map_back, in_flat_map_back, in_filter_back, in_count_back, length-map, length-count}
use Rattle.rail_spec.specs.Plans.{all_commands, commands_of, contend, route_numbers}
use Rattle.plan_encoding.specs.declared.encoder.Encoder.{Encoder}
use Rattle.plan_encoding.specs.declared.network.Network.{Network}
use Rattle.plan_encoding.specs.declared.tables.Tables.{Tables}
use Rattle.plan_encoding.specs.Families.{rivals_of}
use Rattle.plan_encoding.specs.Encoders.{HasCommands, IsCommand, commands, station, table}
use Rattle.command_set.specs.Commands.{is_among}
use Rattle.live_clause_spec.specs.Listed.{is_live_for}
use Rattle.plan_encoding.specs.Tables.{ArePairs, exclusions}

-- ---- members

pub in_get : {X : Type 0} (xs : List X) (i : ℕ) (other : X) → i < length xs → In (get_or xs i other) xs
in_get [] i other h = absurd (omega arith)
in_get (x ∷ xs) zero other h = inl refl
in_get (x ∷ xs) (suc i) other h = inr (in_get xs i other (omega arith))

pub all_by_members : {X : Type 0} (P : X → Type 0) (xs : List X) → ((x : X) → In x xs → P x) → All P xs
all_by_members P xs h = λ i other l. h (get_or xs i other) (in_get xs i other l)

pub route_known : (routes : List Route) (r : RouteNo) → In r (route_numbers routes) → IsRoute routes r
route_known routes r m =
    let named : ℕ → RouteNo = λ n. record { 0 = n } in
    let back = in_map_back named (one_to (length routes)) r m in
    let e : back.0 ≡ r.0 = ap (λ (q : RouteNo). q.0) back.2 in
    let range = in_count_back 1 (length routes) back.0 back.1 in
    let a = range.0 in let b = range.1 in
    (omega arith, omega arith)

pub train_known : (d : Station) (t : TrainNo) → In t (trains d) → IsTrain d t
train_known d t m =
    let named : ℕ → TrainNo = λ n. record { 0 = n } in
    let back = in_map_back named (one_to (length d.trains)) t m in
    let e : back.0 ≡ t.0 = ap (λ (q : TrainNo). q.0) back.2 in
    let range = in_count_back 1 (length d.trains) back.0 back.1 in
    let a = range.0 in let b = range.1 in
    (omega arith, omega arith)

pub all_numbers : (routes : List Route) → All (IsRoute routes) (route_numbers routes)
all_numbers routes = all_by_members (IsRoute routes) (route_numbers routes) (route_known routes)

pub all_kept : (routes : List Route) (test : RouteNo → Bool) → All (IsRoute routes) (filter test (route_numbers routes))
all_kept routes test = all_by_members (IsRoute routes) (filter test (route_numbers routes)) (λ r m. route_known routes r (in_filter_back test (route_numbers routes) r m).0)

pub all_trains : (d : Station) → All (IsTrain d) (trains d)
all_trains d = all_by_members (IsTrain d) (trains d) (train_known d)

pub command_known : (f : Encoder) (c : Command) → In c (commands f) → IsCommand f c
command_known f c m =
    let d = f.interlocking.now.design.station in
    let routes = f.interlocking.now.routes in
    let live : Command → Bool = is_among (commands f) in
    let kept = in_filter_back live (all_commands d routes) c (subst (λ (xs : List Command). In c xs) (sym f.of_design) m) in
    let outer = in_flat_map_back (commands_of routes) (trains d) c kept.0 in
    let make : RouteNo → Command = λ r. record { train = outer.0; route = r } in
    let inner = in_map_back make (route_numbers routes) c outer.2 in
    let t : outer.0 ≡ c.train = ap (λ (e : Command). e.train) inner.2 in
    let r : inner.0 ≡ c.route = ap (λ (e : Command). e.route) inner.2 in
    record {
      train = subst (IsTrain d) t (train_known d outer.0 outer.1);
      route = subst (IsRoute routes) r (route_known routes inner.0 inner.1);
      known = kept.1;
    }

pub all_known : (f : Encoder) → All (IsCommand f) (commands f)
all_known f = all_by_members (IsCommand f) (commands f) (command_known f)

pub all_kept_commands : (f : Encoder) (test : Command → Bool) → All (IsCommand f) (filter test (commands f))
all_kept_commands f test = all_by_members (IsCommand f) (filter test (commands f)) (λ c m. command_known f c (in_filter_back test (commands f) c m).0)

-- the train's commands with those of the routes that it has commands for
pub among_known : (f : Encoder) (t : TrainNo) (rs : List RouteNo) → IsTrain (station f) t → All (IsRoute (table f)) rs → HasCommands f t (filter (is_live_for (is_among (commands f)) t) rs)
among_known f t rs h k =
    let test = is_live_for (is_among (commands f)) t in
    all_by_members (λ r. IsCommand f (record { train = t; route = r })) (filter test rs) (λ r m.
    let kept = in_filter_back test rs r m in
    record { train = h; route = at rs k r kept.0; known = kept.1 })
  where
    at : (xs : List RouteNo) → All (IsRoute (table f)) xs → (r : RouteNo) → In r xs → IsRoute (table f) r
    at [] a r m = absurd m
    at (x ∷ xs) a r (inl e) = subst (IsRoute (table f)) e (a 0 x (omega arith))
    at (x ∷ xs) a r (inr m) = at xs (λ i other l. a (suc i) other (omega arith)) r m

-- the same of those that were put in a list, once none is left
pub among_found : (f : Encoder) (t : TrainNo) (rs found : List RouteNo) (i : ℕ) → length rs ≤ i → found ++ filter (is_live_for (is_among (commands f)) t) (drop i rs) ≡ filter (is_live_for (is_among (commands f)) t) rs
    → IsTrain (station f) t → All (IsRoute (table f)) rs → HasCommands f t found
among_found f t rs found i done is h k =
    let test = is_live_for (is_among (commands f)) t in
    let all : found ≡ filter test rs = sym (ap (λ xs. found ++ filter test xs) (drop_all i rs done) ∙ append-nil found) ∙ is in
    subst (λ xs. HasCommands f t xs) (sym all) (among_known f t rs h k)

-- no route has no command
pub nothing_known : (f : Encoder) (t : TrainNo) (rs : List RouteNo) → rs ≡ [] → HasCommands f t rs
nothing_known f t [] e = λ i x l. absurd (omega arith)
nothing_known f t (r ∷ rs) e = absurd (cc)

-- ---- rivals

-- a command with each of these that contends with it
abbrev pub each_pair : List Route → List Command → Command → List (Command × Command)
each_pair routes all e = map (λ c. (e, c)) (filter (contend routes e) all)

-- a filter of a filter
pub filter_both : {X : Type 0} (one other : X → Bool) (xs : List X) → filter other (filter one xs) ≡ filter (λ x. one x && other x) xs
filter_both one other [] = refl
filter_both {X} one other (x ∷ xs) = go (one x) (filter_both one other xs)
  where
    go : (b : Bool) → filter other (filter one xs) ≡ filter (λ x. one x && other x) xs → filter other (cond b (x ∷ filter one xs) (filter one xs)) ≡ cond (b && other x) (x ∷ filter (λ x. one x && other x) xs) (filter (λ x. one x && other x) xs)
    go true h = ap (λ ys. cond (other x) (x ∷ ys) ys) h
    go false h = h

-- the part of a command's pairs, over its rivals
pub next_rivals : (g : Command × Command → List Clause) (routes : List Route) (all cs : List Command) (i : ℕ) (other : Command) → i < length cs → (rivals : List Command) → rivals ≡ filter (contend routes (get_or cs i other)) all
    → Next (flat_map (λ e. flat_map g (each_pair routes all e)) (drop i cs)) (flat_map g (map (λ c. (get_or cs i other, c)) rivals)) (flat_map (λ e. flat_map g (each_pair routes all e)) (drop (i + 1) cs))
next_rivals g routes all cs i other h rivals is = record {
  is =
      ap (flat_map (λ e. flat_map g (each_pair routes all e))) (drop_more cs i other h)
      ∙ ap (λ rs. flat_map g (map (λ c. (get_or cs i other, c)) rs) ++ flat_map (λ e. flat_map g (each_pair routes all e)) (drop (i + 1) cs)) (sym is);
}

-- all commands are few
pub commands_many : (d : Station) (routes : List Route) → length (all_commands d routes) ≡ length d.trains * length routes
commands_many d routes =
    let named : ℕ → TrainNo = λ t. record { 0 = t } in
    go (trains d) ∙ ap (λ m. m * length routes) (length-map named (one_to (length d.trains)) ∙ length-count 1 (length d.trains))
  where
    each : (t : TrainNo) → length (commands_of routes t) ≡ length routes
    each t =
        let named : ℕ → RouteNo = λ r. record { 0 = r } in
        let command : RouteNo → Command = λ r. record { train = t; route = r } in
        length-map command (route_numbers routes) ∙ (length-map named (one_to (length routes)) ∙ length-count 1 (length routes))

    go : (ts : List TrainNo) → length (flat_map (commands_of routes) ts) ≡ length ts * length routes
    go [] = omega arith
    go (t ∷ ts) =
        let a = length-append (commands_of routes t) (flat_map (commands_of routes) ts) in
        let b = each t in
        let c = go ts in
        let e = suc-mul (length ts) (length routes) in
        omega arith

pub commands_few : (d : Station) (routes : List Route) → length d.trains ≤ 128 → length routes ≤ 2000 → length (all_commands d routes) ≤ 256000
commands_few d routes a b = let c = commands_many d routes in let e : length d.trains * length routes ≤ 128 * 2000 = mul-le (length d.trains) (length routes) 128 2000 a b in omega arith

-- the other members are in the table too
pub tail_known : (routes : List Route) (all : List RouteNo) (r : RouteNo) (later : List RouteNo) → all ≡ r ∷ later → All (IsRoute routes) all → All (IsRoute routes) later
tail_known routes all r later is h = λ i other l. subst (λ rs. All (IsRoute routes) rs) is h (suc i) other (omega arith)

-- the pairs of one route more
pub exclusions_next : (test : RouteNo × RouteNo → Bool) (old new whole : List (RouteNo × RouteNo)) (all : List RouteNo) (r : RouteNo) (later : List RouteNo) → all ≡ r ∷ later → new ≡ old ++ filter test (map (λ q. (r, q)) later) → old ++ filter test (later_pairs all) ≡ whole → new ++ filter test (later_pairs later) ≡ whole
exclusions_next test old new whole all r later is e h =
    ap (λ ps. ps ++ filter test (later_pairs later)) e ∙ (append_assoc old (filter test (map (λ q. (r, q)) later)) (filter test (later_pairs later))
    ∙ (ap (λ ps. old ++ ps) (sym (ap (λ rs. filter test (later_pairs rs)) is ∙ filter-append test (map (λ q. (r, q)) later) (later_pairs later))) ∙ h))

-- the visit of a number stands at the index before it
pub visit_is : {X : Type 0} (k : ℕ) (other : X) (seen visits : List X) (x none : X) → seen ≡ visits → 1 ≤ k → k - 1 < length seen → x ≡ get_or seen (k - 1) other → x ≡ entry none visits k
visit_is zero other seen visits x none e a b h = absurd (omega arith)
visit_is {X} (suc i) other seen visits x none e a b h = h ∙ (ap (λ j. get_or seen j other) (less i) ∙ (same seen i (omega arith) ∙ ap (λ vs. get_or vs i none) e))
  where
    less : (i : ℕ) → suc i - 1 ≡ i
    less i = omega arith

    same : (ys : List X) (j : ℕ) → j < length ys → get_or ys j other ≡ get_or ys j none
    same [] j l = absurd (omega arith)
    same (y ∷ ys) zero l = refl
    same (y ∷ ys) (suc j) l = same ys j (omega arith)

-- pairs of members that pass a test of each
later_known : {X : Type 0} (P : X → Type 0) (xs : List X) → ((x : X) → In x xs → P x) → (p : X × X) → In p (later_pairs xs) → P p.0 × P p.1
later_known P [] h p m = absurd m
later_known {X} P (x ∷ xs) h p m = go (in_append p (map (λ y. (x, y)) xs) (later_pairs xs) m) (later_known P xs (λ y l. h y (inr l)) p)
  where
    go : In p (map (λ y. (x, y)) xs) ⊎ In p (later_pairs xs) → (In p (later_pairs xs) → P p.0 × P p.1) → P p.0 × P p.1
    go (inl k) rest =
        let made = in_map_back (λ (y : X). (x, y)) xs p k in
        subst (λ (q : X × X). P q.0 × P q.1) made.2 (h x (inl refl), h made.0 (inr made.1))
    go (inr k) rest = rest k

-- pairs of routes are of routes in the table
pub all_pairs_known : (routes : List Route) → All (ArePairs routes) (exclusions routes)
all_pairs_known routes = all_by_members (ArePairs routes) (exclusions routes) (λ p m.
    later_known (IsRoute routes) (route_numbers routes) (λ r k. route_known routes r k) p (in_filter_back (λ (p : RouteNo × RouteNo). exclude (route_at routes p.0) (route_at routes p.1)) (later_pairs (route_numbers routes)) p m).0)

-- ---- what tables and networks hold

pub known_trains : (t : Tables) (ts : List TrainNo) → ts ≡ t.trains.items → All (IsTrain (station t.encoder)) ts
known_trains t ts e = subst (λ (xs : List TrainNo). All (IsTrain (station t.encoder)) xs) (sym (e ∙ t.every_train)) (all_trains (station t.encoder))

pub known_pairs : (t : Tables) (ps : List (RouteNo × RouteNo)) → ps ≡ t.exclusions.items → All (ArePairs (table t.encoder)) ps
known_pairs t ps e = subst (λ (xs : List (RouteNo × RouteNo)). All (ArePairs (table t.encoder)) xs) (sym (e ∙ t.excluded)) (all_pairs_known (table t.encoder))

pub known_routes : (n : Network) (rs : List RouteNo) → rs ≡ n.numbers.items → All (IsRoute (table n.encoder)) rs
known_routes n rs e = subst (λ (xs : List RouteNo). All (IsRoute (table n.encoder)) xs) (sym (e ∙ n.every_number)) (all_numbers (table n.encoder))

pub known_rivals : (f : Encoder) (e : Command) (cs : List Command) → cs ≡ rivals_of f e → All (IsCommand f) cs
known_rivals f e cs is = subst (λ (xs : List Command). All (IsCommand f) xs) (sym is) (all_kept_commands f _)
