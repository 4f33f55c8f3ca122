-- Starts and finishes, commands of a design, and routes that share a section.
use Rattle.std.proofs.Common.{◌≡◌, ℕ, ◌+◌, ◌≤◌, true, false, List, [], ◌∷◌, filter, length, refl, sym, ap, subst, ◌∙◌, arith, true≢false, eqb-true, eq-eqb, ℤ}
use Rattle.rail_base.specs.declared.station.Station.{Station}
use Rattle.rail_base.specs.declared.station.SectionNo.{SectionNo}
use Rattle.rail_base.specs.declared.station.TrainNo.{TrainNo}
use Rattle.rail_base.specs.declared.route.Route.{Route}
use Rattle.rail_base.specs.declared.route.RouteNo.{RouteNo}
use Rattle.rail_base.specs.declared.route.Start.{Start}
use Rattle.rail_base.specs.declared.route.Start.TheVariants as start
use Rattle.rail_base.specs.declared.route.Finish.{Finish}
use Rattle.rail_base.specs.declared.route.Finish.TheVariants as finish
use Rattle.rail_base.specs.declared.plan.Command.{Command}
use Rattle.rail_base.specs.Numbering.{one_to}
use Rattle.rail_base.specs.Stations.{trains}
use Rattle.rail_spec.specs.Plans.{is_start, goes_on, end_at_one_signal, share, own_shared, sections, has_section, route_numbers, commands_of, all_commands, contend}
use Rattle.rail_base.proofs.Members.{In, list_any_gives, in_filter}
use Rattle.clause_spec.specs.Variables.{pairs, pairs_before}
use Rattle.clause_spec.specs.Clauses.{at_boundary, left_by}
use Rattle.clause_spec.proofs.Lists.{Distinct, distinct_count, distinct_map}
use Rattle.clause_spec.proofs.Steps.{cmd}
use Rattle.rail_laws.proofs.AsEdges.{fold_above}
use Rattle.rail_base.proofs.Lists.{in_map_back, in_map, in_flat_map_back, in_flat_map, in_filter_back, in_count}

-- ---- starts and finishes

pub start_self : (s : Start) → is_start s s ≡ true
start_self (start.Boundary n) = eq-eqb n.0 n.0 refl
start_self (start.Signal q) = eq-eqb q.0 q.0 refl

pub start_sym : (s u : Start) → is_start s u ≡ true → is_start u s ≡ true
start_sym (start.Boundary m) (start.Boundary n) h = eq-eqb n.0 m.0 (sym (eqb-true m.0 n.0 h))
start_sym (start.Boundary m) (start.Signal q) h = h
start_sym (start.Signal s) (start.Boundary n) h = h
start_sym (start.Signal s) (start.Signal q) h = eq-eqb q.0 s.0 (sym (eqb-true s.0 q.0 h))

pub finish_sym : (f g : Finish) → end_at_one_signal f g ≡ true → end_at_one_signal g f ≡ true
finish_sym (finish.Signal s) (finish.Signal q) h = eq-eqb q.0 s.0 (sym (eqb-true s.0 q.0 h))
finish_sym (finish.Signal s) (finish.Exit m) h = absurd (true≢false (sym h))
finish_sym (finish.Signal s) (finish.DeadEnd m) h = absurd (true≢false (sym h))
finish_sym (finish.Exit m) g h = absurd (true≢false (sym h))
finish_sym (finish.DeadEnd m) g h = absurd (true≢false (sym h))

-- what goes on from one finish starts at one place
pub one_start : (f : Finish) (s u : Start) → goes_on f s ≡ true → goes_on f u ≡ true → is_start s u ≡ true
one_start (finish.Signal q) (start.Signal s) (start.Signal u) h k = eq-eqb s.0 u.0 (sym (eqb-true q.0 s.0 h) ∙ eqb-true q.0 u.0 k)
one_start (finish.Signal q) (start.Signal s) (start.Boundary u) h k = absurd (true≢false (sym k))
one_start (finish.Signal q) (start.Boundary s) u h k = absurd (true≢false (sym h))
one_start (finish.Exit m) s u h k = absurd (true≢false (sym h))
one_start (finish.DeadEnd m) s u h k = absurd (true≢false (sym h))

-- what leads to one start ends at one signal
pub one_finish : (f g : Finish) (s : Start) → goes_on f s ≡ true → goes_on g s ≡ true → end_at_one_signal f g ≡ true
one_finish (finish.Signal a) (finish.Signal b) (start.Signal s) h k = eq-eqb a.0 b.0 (eqb-true a.0 s.0 h ∙ sym (eqb-true b.0 s.0 k))
one_finish (finish.Signal a) (finish.Signal b) (start.Boundary s) h k = absurd (true≢false (sym h))
one_finish (finish.Signal a) (finish.Exit m) s h k = absurd (true≢false (sym k))
one_finish (finish.Signal a) (finish.DeadEnd m) s h k = absurd (true≢false (sym k))
one_finish (finish.Exit m) g s h k = absurd (true≢false (sym h))
one_finish (finish.DeadEnd m) g s h k = absurd (true≢false (sym h))

-- nothing goes on at a boundary
pub boundary_first : (f : Finish) (s : Start) → goes_on f s ≡ true → at_boundary s ≡ false
boundary_first (finish.Signal q) (start.Signal s) h = refl
boundary_first (finish.Signal q) (start.Boundary s) h = absurd (true≢false (sym h))
boundary_first (finish.Exit m) s h = absurd (true≢false (sym h))
boundary_first (finish.DeadEnd m) s h = absurd (true≢false (sym h))

-- ---- commands of a design

pub record IsOf (d : Station) (routes : List Route) (c : Command) : Type 0 where
  pub train : In c.train (trains d)
  pub route : In c.route (route_numbers routes)

pub command_of : (d : Station) (routes : List Route) (c : Command) → In c (all_commands d routes) → IsOf d routes c
command_of d routes c m =
    let f = in_flat_map_back (commands_of routes) (trains d) c m in
    let g = in_map_back (λ (r : RouteNo). cmd f.0 r) (route_numbers routes) c f.2 in
    record {
      train = subst (λ (e : Command). In e.train (trains d)) g.2 f.1;
      route = subst (λ (e : Command). In e.route (route_numbers routes)) g.2 g.1;
    }

pub command_from : (d : Station) (routes : List Route) (t : TrainNo) (r : RouteNo) → In t (trains d) → In r (route_numbers routes) → In (cmd t r) (all_commands d routes)
command_from d routes t r m k = in_flat_map (commands_of routes) (trains d) t (cmd t r) m (in_map (λ (q : RouteNo). cmd t q) (route_numbers routes) r k)

number : ℕ → RouteNo
number r = record { 0 = r }

pub route_in : (routes : List Route) (r : RouteNo) → 1 ≤ r.0 → r.0 ≤ length routes → In r (route_numbers routes)
route_in routes r h k =
    let f : ℕ → RouteNo = λ n. record { 0 = n } in
    in_map f (one_to (length routes)) r.0 (in_count 1 (length routes) r.0 h (omega arith))

pub train_in : (d : Station) (t : TrainNo) → 1 ≤ t.0 → t.0 ≤ length d.trains → In t (trains d)
train_in d t h k =
    let f : ℕ → TrainNo = λ n. record { 0 = n } in
    in_map f (one_to (length d.trains)) t.0 (in_count 1 (length d.trains) t.0 h (omega arith))

pub distinct_routes : (routes : List Route) → Distinct (route_numbers routes)
distinct_routes routes =
    let f : ℕ → RouteNo = λ n. record { 0 = n } in
    distinct_map f (one_to (length routes)) (λ x y e. ap (λ (r : RouteNo). r.0) e) (distinct_count 1 (length routes))

-- ---- pairs that contend

pub record IsPair (d : Station) (routes : List Route) (e c : Command) : Type 0 where
  pub one : In e (all_commands d routes)
  pub other : In c (all_commands d routes)
  pub contend : contend routes e c ≡ true

pub pair_of : (d : Station) (routes : List Route) (p : Command × Command) → In p (pairs d routes) → IsPair d routes p.0 p.1
pair_of d routes p m =
    let f = in_flat_map_back (pairs_before d routes) (all_commands d routes) p m in
    let g = in_map_back (λ (c : Command). (f.0, c)) (filter (contend routes f.0) (all_commands d routes)) p f.2 in
    let k = in_filter_back (contend routes f.0) (all_commands d routes) g.0 g.1 in
    subst (λ (q : Command × Command). IsPair d routes q.0 q.1) g.2 (record { one = f.1; other = k.0; contend = k.1 })

pub pair_from : (d : Station) (routes : List Route) (e c : Command) → In e (all_commands d routes) → In c (all_commands d routes) → contend routes e c ≡ true → In (e, c) (pairs d routes)
pair_from d routes e c m k h =
    in_flat_map (pairs_before d routes) (all_commands d routes) e (e, c) m (in_map (λ (u : Command). (e, u)) (filter (contend routes e) (all_commands d routes)) c (in_filter (contend routes e) (all_commands d routes) c k h))

-- ---- places that a tail leaves

-- a tail that has left all these places has left each
pub left_each : (xs : List ℕ) (l x : ℕ) → In x xs → x + l ≤ left_by xs l
left_each [] l x m = absurd m
left_each (y ∷ ys) l x m = let g = fold_above 0 (y ∷ ys) x m in omega arith
