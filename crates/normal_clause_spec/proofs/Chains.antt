-- A train's routes in a row, from one that it is given to a later one, are a chain.
use Rattle.std.proofs.Common.{◌≡◌, ℕ, zero, suc, ◌+◌, ◌≤◌, ◌<◌, ◌⊎◌, inl, inr, true, not, List, [], ◌∷◌, ◌++◌, length, refl, sym, ap, subst, arith, eq-eqb}
use Rattle.std.specs.List.{list_any}
use Rattle.rail_base.specs.declared.station.Station.{Station}
use Rattle.rail_base.specs.declared.station.TrainNo.{TrainNo}
use Rattle.rail_base.specs.declared.route.Route.{Route}
use Rattle.rail_base.specs.declared.route.RouteNo.{RouteNo}
use Rattle.rail_base.specs.declared.plan.Command.{Command}
use Rattle.rail_base.specs.Numbering.{one_to}
use Rattle.rail_spec.specs.Plans.{route_at, commands, step_of, is_route, is_start, route_numbers}
use Rattle.rail_base.proofs.Members.{In, and_both, below_or_not, false_unless, in_filter, list_any_from, list_any_gives, or_left, or_right}
use Rattle.rail_base.proofs.Lists.{in_append, length-map, length-count}
use Rattle.clause_spec.specs.Clauses.{extends, onward}
use Rattle.clause_spec.proofs.Lists.{Distinct, length_among, distinct_push, length_push}
use Rattle.clause_spec.proofs.Steps.{cmd, IsNext, Placed, one_a_step}
use Rattle.clause_spec.proofs.Forward.{Fit, links, of, one, place, same_start}
use Rattle.normal_clause_spec.specs.Clauses.{ends_chain, leads_to}

module _ (d : Station) (routes : List Route) (n : ℕ) (plan : List (List Command)) (fit : Fit d routes n plan) (t : TrainNo) where
  abbrev There : RouteNo → Type 0
  There r = In (cmd t r) (commands plan)

  -- the route that comes next after one, and no later than another
  record Onward (q g : RouteNo) : Type 0 where
    route : RouteNo
    next : IsNext (links d routes n plan) plan t q route
    here : There route
    no_later : step_of plan (cmd t route) ≤ step_of plan (cmd t g)

  onward_from : (k : ℕ) (q g : RouteNo) → There q → There g → step_of plan (cmd t g) ≤ k → step_of plan (cmd t q) < step_of plan (cmd t g) → Onward q g
  onward_from zero q g m h high l = absurd (omega arith)
  onward_from (suc k) q g m h high l = go (place d routes n plan fit (cmd t g) h) (onward_from k q)
    where
      at : (p : RouteNo) → IsNext (links d routes n plan) plan t p g → (step_of plan (cmd t q) < step_of plan (cmd t p)) ⊎ (step_of plan (cmd t p) ≤ step_of plan (cmd t q))
          → ((p : RouteNo) → There q → There p → step_of plan (cmd t p) ≤ k → step_of plan (cmd t q) < step_of plan (cmd t p) → Onward q p) → Onward q g
      at p x (inl below) rest =
          let e = x.earlier in
          let r = rest p m x.member (omega arith) below in
          let high = r.no_later in
          record { route = r.route; next = r.next; here = r.here; no_later = omega arith }
      at p x (inr not_below) rest =
          let b = x.between q m l in
          let same : q ≡ p = one_a_step plan t q p (one d routes n plan fit) m x.member (omega arith) in
          record { route = g; next = subst (λ y. IsNext (links d routes n plan) plan t y g) (sym same) x; here = h; no_later = omega arith }

      go : Placed (links d routes n plan) plan t g → ((p : RouteNo) → There q → There p → step_of plan (cmd t p) ≤ k → step_of plan (cmd t q) < step_of plan (cmd t p) → Onward q p) → Onward q g
      go (inl x) rest = let a = x.least q m in absurd (omega arith)
      go (inr (p, x)) rest = at p x (below_or_not (step_of plan (cmd t q)) (step_of plan (cmd t p))) rest

  -- routes that the train is given, all different, and none later than the last one
  record Begun (chain : List RouteNo) (last : RouteNo) : Type 0 where
    there : (v : RouteNo) → In v chain → There v
    no_later : (v : RouteNo) → In v chain → step_of plan (cmd t v) ≤ step_of plan (cmd t last)
    apart : Distinct chain

  few : (chain : List RouteNo) (last : RouteNo) → Begun chain last → length chain ≤ length routes
  few chain last b =
      let number : ℕ → RouteNo = λ r. record { 0 = r } in
      let a = length_among chain (route_numbers routes) b.apart (λ v m. (of d routes n plan fit (cmd t v) (b.there v m)).route) in
      let l = length-map number (one_to (length routes)) in
      let c = length-count 1 (length routes) in
      omega arith

  -- the next route extends them
  extended : (chain : List RouteNo) (last r : RouteNo) → Begun chain last → There r → IsNext (links d routes n plan) plan t last r → extends routes chain last r ≡ true
  extended chain last r b h x = and_both (links d routes n plan last r) (not (list_any (λ v. is_start (route_at routes v).start (route_at routes r).start) chain)) x.linked
      (ap not (false_unless (list_any (λ v. is_start (route_at routes v).start (route_at routes r).start) chain) (λ k.
      let y = list_any_gives (λ v. is_start (route_at routes v).start (route_at routes r).start) chain k in
      let same = same_start d routes n plan fit t y.0 r (b.there y.0 y.1) h y.2 in
      let step : step_of plan (cmd t y.0) ≡ step_of plan (cmd t r) = ap (λ v. step_of plan (cmd t v)) same in
      let low = b.no_later y.0 y.1 in
      let late = x.earlier in
      absurd (omega arith))))

  longer : (chain : List RouteNo) (last r : RouteNo) → Begun chain last → There r → IsNext (links d routes n plan) plan t last r → Begun (chain ++ r ∷ []) r
  longer chain last r b h x = record {
    there = λ v m. there v (in_append v chain (r ∷ []) m);
    no_later = λ v m. no_later v (in_append v chain (r ∷ []) m);
    apart = distinct_push chain r b.apart (λ m. let l = b.no_later r m in let late = x.earlier in absurd (omega arith));
  }
    where
      there : (v : RouteNo) → In v chain ⊎ In v (r ∷ []) → There v
      there v (inl m) = b.there v m
      there v (inr (inl e)) = subst There e h
      there v (inr (inr m)) = absurd m

      no_later : (v : RouteNo) → In v chain ⊎ In v (r ∷ []) → step_of plan (cmd t v) ≤ step_of plan (cmd t r)
      no_later v (inl m) = let l = b.no_later v m in let late = x.earlier in omega arith
      no_later v (inr (inl e)) = let same : step_of plan (cmd t r) ≡ step_of plan (cmd t v) = ap (λ w. step_of plan (cmd t w)) e in omega arith
      no_later v (inr (inr m)) = absurd m

  ends : (more : ℕ) (chain : List RouteNo) (last g : RouteNo) → Begun chain last → There last → There g → step_of plan (cmd t last) ≤ step_of plan (cmd t g) → length routes < length chain + more → ends_chain routes more chain last g ≡ true
  ends zero chain last g b m h l fuel = let f = few chain last b in absurd (omega arith)
  ends (suc more) chain last g b m h l fuel = go (below_or_not (step_of plan (cmd t last)) (step_of plan (cmd t g))) (ends more)
    where
      go : (step_of plan (cmd t last) < step_of plan (cmd t g)) ⊎ (step_of plan (cmd t g) ≤ step_of plan (cmd t last))
          → ((chain : List RouteNo) (last g : RouteNo) → Begun chain last → There last → There g → step_of plan (cmd t last) ≤ step_of plan (cmd t g) → length routes < length chain + more → ends_chain routes more chain last g ≡ true)
          → ends_chain routes (suc more) chain last g ≡ true
      go (inr k) rest =
          let same : last ≡ g = one_a_step plan t last g (one d routes n plan fit) m h (omega arith) in
          or_left (is_route last g) (list_any (λ q. ends_chain routes more (chain ++ q ∷ []) q g) (onward routes chain last)) (eq-eqb last.0 g.0 (ap (λ (r : RouteNo). r.0) same))
      go (inl k) rest =
          let x = onward_from (step_of plan (cmd t g)) last g m h (omega arith) k in
          let size = length_push chain x.route in
          or_right (is_route last g) (list_any (λ q. ends_chain routes more (chain ++ q ∷ []) q g) (onward routes chain last))
          (list_any_from (λ q. ends_chain routes more (chain ++ q ∷ []) q g) (onward routes chain last) x.route
          (in_filter (extends routes chain last) (route_numbers routes) x.route (of d routes n plan fit (cmd t x.route) x.here).route (extended chain last x.route b x.here x.next))
          (rest (chain ++ x.route ∷ []) x.route g (longer chain last x.route b x.here x.next) x.here h x.no_later (omega arith)))

  -- from each route that it is given a chain leads to each later one
  pub leads : (q g : RouteNo) → There q → There g → step_of plan (cmd t q) ≤ step_of plan (cmd t g) → leads_to routes q g ≡ true
  leads q g m h l =
      let alone : length (q ∷ []) ≡ 1 = refl in
      ends (length routes) (q ∷ []) q g (record { there = there; no_later = no_later; apart = ((λ k. k), tt) }) m h l (omega arith)
    where
      there : (v : RouteNo) → In v (q ∷ []) → There v
      there v (inl e) = subst There e m
      there v (inr k) = absurd k

      no_later : (v : RouteNo) → In v (q ∷ []) → step_of plan (cmd t v) ≤ step_of plan (cmd t q)
      no_later v (inl e) = let same : step_of plan (cmd t q) ≡ step_of plan (cmd t v) = ap (λ w. step_of plan (cmd t w)) e in omega arith
      no_later v (inr k) = absurd k
