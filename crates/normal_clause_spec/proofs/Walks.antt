-- Chains lead to the routes to which steps do that come to no route with the start of the first.
use Rattle.std.proofs.Common.{◌≡◌, ℕ, zero, suc, ◌+◌, ◌≤◌, ◌<◌, ◌⊎◌, inl, inr, Bool, true, false, not, List, [], ◌∷◌, ◌++◌, length, refl, sym, ap, subst, ◌∙◌, arith, true≢false, eqb-true, eq-eqb}
use Rattle.std.specs.List.{list_any}
use Rattle.rail_base.specs.declared.route.Route.{Route}
use Rattle.rail_base.specs.declared.route.RouteNo.{RouteNo}
use Rattle.rail_base.specs.declared.route.Start.{Start}
use Rattle.rail_base.specs.declared.route.Start.TheVariants as start
use Rattle.rail_base.specs.declared.route.Finish.{Finish}
use Rattle.rail_base.specs.declared.route.Finish.TheVariants as finish
use Rattle.rail_base.specs.Numbering.{one_to}
use Rattle.rail_spec.specs.Plans.{route_at, is_route, is_start, goes_on, route_numbers}
use Rattle.rail_base.proofs.Members.{In, and_left, and_right, and_both, either, false_unless, in_filter, is_false, list_any_from, list_any_gives, or_left, or_right}
use Rattle.rail_base.proofs.Lists.{in_append, in_append_left, in_append_right, in_filter_back, length-map, length-count}
use Rattle.rail_laws.proofs.Given.{same_route}
use Rattle.clause_spec.specs.Clauses.{extends, onward}
use Rattle.clause_spec.proofs.Lists.{Distinct, length_among, distinct_push, length_push}
use Rattle.clause_spec.proofs.Places.{start_self, route_in}
use Rattle.normal_clause_spec.specs.Clauses.{ends_chain, leads_to}
use Rattle.normal_clause_spec.specs.Walks.{Reaches, LeadsBySteps}

-- ---- starts

start_trans : (s u v : Start) → is_start s u ≡ true → is_start u v ≡ true → is_start s v ≡ true
start_trans (start.Boundary a) (start.Boundary b) (start.Boundary c) h k = eq-eqb a.0 c.0 (eqb-true a.0 b.0 h ∙ eqb-true b.0 c.0 k)
start_trans (start.Boundary a) (start.Boundary b) (start.Signal c) h k = k
start_trans (start.Boundary a) (start.Signal b) v h k = absurd (true≢false (sym h))
start_trans (start.Signal a) (start.Boundary b) v h k = absurd (true≢false (sym h))
start_trans (start.Signal a) (start.Signal b) (start.Boundary c) h k = k
start_trans (start.Signal a) (start.Signal b) (start.Signal c) h k = eq-eqb a.0 c.0 (eqb-true a.0 b.0 h ∙ eqb-true b.0 c.0 k)

goes_on_alike : (f : Finish) (s u : Start) → goes_on f s ≡ true → is_start s u ≡ true → goes_on f u ≡ true
goes_on_alike (finish.Signal q) (start.Signal s) (start.Signal u) h k = eq-eqb q.0 u.0 (eqb-true q.0 s.0 h ∙ eqb-true s.0 u.0 k)
goes_on_alike (finish.Signal q) (start.Signal s) (start.Boundary u) h k = absurd (true≢false (sym k))
goes_on_alike (finish.Signal q) (start.Boundary s) u h k = absurd (true≢false (sym h))
goes_on_alike (finish.Exit m) s u h k = absurd (true≢false (sym h))
goes_on_alike (finish.DeadEnd m) s u h k = absurd (true≢false (sym h))

module _ (routes : List Route) where
  abbrev starts_with : RouteNo → RouteNo → Bool
  starts_with q r = is_start (route_at routes q).start (route_at routes r).start

  -- one of these routes starts where this one does
  abbrev is_taken : List RouteNo → RouteNo → Bool
  is_taken chain r = list_any (λ v. is_start (route_at routes v).start (route_at routes r).start) chain

  -- a route of the table that starts where none of these does
  record Fresh (chain : List RouteNo) (r : RouteNo) : Type 0 where
    known : In r (route_numbers routes)
    free : is_taken chain r ≡ false

  record Follows (chain : List RouteNo) (r q : RouteNo) : Type 0 where
    goes : goes_on (route_at routes r).finish (route_at routes q).start ≡ true
    fresh : Fresh chain q

  follows_in : (chain : List RouteNo) (r q : RouteNo) → Follows chain r q → In q (onward routes chain r)
  follows_in chain r q f = in_filter (extends routes chain r) (route_numbers routes) q f.fresh.known
      (and_both (goes_on (route_at routes r).finish (route_at routes q).start) (not (is_taken chain q)) f.goes (ap not f.fresh.free))

  follows_of : (chain : List RouteNo) (r q : RouteNo) → In q (onward routes chain r) → Follows chain r q
  follows_of chain r q m =
      let k = in_filter_back (extends routes chain r) (route_numbers routes) q m in
      record {
        goes = and_left (goes_on (route_at routes r).finish (route_at routes q).start) (not (is_taken chain q)) k.1;
        fresh = record { known = k.0; free = is_false (is_taken chain q) (and_right (goes_on (route_at routes r).finish (route_at routes q).start) (not (is_taken chain q)) k.1) };
      }

  -- fewer starts are taken by fewer routes
  fresh_less : (chain fewer : List RouteNo) (r : RouteNo) → ((v : RouteNo) → In v fewer → In v chain) → Fresh chain r → Fresh fewer r
  fresh_less chain fewer r among f = record {
    known = f.known;
    free = false_unless (is_taken fewer r) (λ h.
        let x = list_any_gives (λ v. is_start (route_at routes v).start (route_at routes r).start) fewer h in
        true≢false (sym (list_any_from (λ v. is_start (route_at routes v).start (route_at routes r).start) chain x.0 (among x.0 x.1) x.2) ∙ f.free));
  }

  fresh_more : (chain : List RouteNo) (s r : RouteNo) → Fresh chain r → starts_with s r ≡ false → Fresh (chain ++ s ∷ []) r
  fresh_more chain s r f apart = record {
    known = f.known;
    free = false_unless (is_taken (chain ++ s ∷ []) r) (λ h.
        let x = list_any_gives (λ v. is_start (route_at routes v).start (route_at routes r).start) (chain ++ s ∷ []) h in
        go x.0 x.2 (in_append x.0 chain (s ∷ []) x.1));
  }
    where
      go : (v : RouteNo) → starts_with v r ≡ true → In v chain ⊎ In v (s ∷ []) → ⊥
      go v e (inl m) = true≢false (sym (list_any_from (λ v. is_start (route_at routes v).start (route_at routes r).start) chain v m e) ∙ f.free)
      go v e (inr (inl same)) = true≢false (sym (subst (λ w. starts_with w r ≡ true) (sym same) e) ∙ apart)
      go v e (inr (inr m)) = m

  -- ---- from chains to steps

  steps_of : (first : RouteNo) (more : ℕ) (chain : List RouteNo) (last w : RouteNo) → In first chain → ends_chain routes more chain last w ≡ true → (k : ℕ) × Reaches routes (first ∷ []) k last w
  steps_of first zero chain last w m h = (zero, same_route last w h)
  steps_of first (suc more) chain last w m h = go (either (is_route last w) (list_any (λ q. ends_chain routes more (chain ++ q ∷ []) q w) (onward routes chain last)) h) (steps_of first more)
    where
      among : (v : RouteNo) → In v (first ∷ []) → In v chain
      among v (inl e) = subst (λ x. In x chain) e m
      among v (inr k) = absurd k

      go : (is_route last w ≡ true) ⊎ (list_any (λ q. ends_chain routes more (chain ++ q ∷ []) q w) (onward routes chain last) ≡ true)
          → ((chain : List RouteNo) (last w : RouteNo) → In first chain → ends_chain routes more chain last w ≡ true → (k : ℕ) × Reaches routes (first ∷ []) k last w)
          → (k : ℕ) × Reaches routes (first ∷ []) k last w
      go (inl e) rest = (zero, same_route last w e)
      go (inr e) rest =
          let x = list_any_gives (λ q. ends_chain routes more (chain ++ q ∷ []) q w) (onward routes chain last) e in
          let f = follows_of chain last x.0 x.1 in
          let r = rest (chain ++ x.0 ∷ []) x.0 w (in_append_left first chain (x.0 ∷ []) m) x.2 in
          (suc r.0, (x.0, follows_in (first ∷ []) last x.0 (record { goes = f.goes; fresh = fresh_less chain (first ∷ []) x.0 among f.fresh }), r.1))

  -- ---- from steps to chains

  -- the last route on the way that starts where s does
  record LastVisit (chain : List RouteNo) (s w : RouteNo) : Type 0 where
    route : RouteNo
    same : starts_with s route ≡ true
    fresh : Fresh chain route
    count : ℕ
    steps : Reaches routes (chain ++ route ∷ []) count route w

  -- no route on the way does
  record NoVisit (chain : List RouteNo) (s r w : RouteNo) : Type 0 where
    apart : starts_with s r ≡ false
    count : ℕ
    steps : Reaches routes (chain ++ s ∷ []) count r w

  -- steps that come to no start of s come to none of a route that starts there
  renamed : (chain : List RouteNo) (s q : RouteNo) → starts_with s q ≡ true → (k : ℕ) (r w : RouteNo) → Reaches routes (chain ++ s ∷ []) k r w → Reaches routes (chain ++ q ∷ []) k r w
  renamed chain s q e zero r w h = h
  renamed chain s q e (suc k) r w h =
      let f = follows_of (chain ++ s ∷ []) r h.0 h.1 in
      let old = fresh_less (chain ++ s ∷ []) chain h.0 (λ v m. in_append_left v chain (s ∷ []) m) f.fresh in
      let apart = false_unless (starts_with q h.0) (λ x. true≢false (sym (list_any_from (λ v. is_start (route_at routes v).start (route_at routes h.0).start) (chain ++ s ∷ []) s (in_append_right s chain (s ∷ []) (inl refl))
      (start_trans (route_at routes s).start (route_at routes q).start (route_at routes h.0).start e x)) ∙ f.fresh.free)) in
      (h.0, follows_in (chain ++ q ∷ []) r h.0 (record { goes = f.goes; fresh = fresh_more chain q h.0 old apart }), renamed chain s q e k h.0 w h.2)

  visits : (chain : List RouteNo) (s : RouteNo) (k : ℕ) (r w : RouteNo) → Fresh chain r → Reaches routes chain k r w → LastVisit chain s w ⊎ NoVisit chain s r w
  visits chain s zero r w f h = go (starts_with s r) refl
    where
      go : (b : Bool) → starts_with s r ≡ b → LastVisit chain s w ⊎ NoVisit chain s r w
      go true e = inl (record { route = r; same = e; fresh = f; count = zero; steps = h })
      go false e = inr (record { apart = e; count = zero; steps = h })
  visits chain s (suc k) r w f h = go (visits chain s k h.0 w next.fresh h.2)
    where
      next : Follows chain r h.0
      next = follows_of chain r h.0 h.1

      on : NoVisit chain s h.0 w → (j : ℕ) × Reaches routes (chain ++ s ∷ []) j r w
      on n = (suc n.count, (h.0, follows_in (chain ++ s ∷ []) r h.0 (record { goes = next.goes; fresh = fresh_more chain s h.0 next.fresh n.apart }), n.steps))

      at : NoVisit chain s h.0 w → (b : Bool) → starts_with s r ≡ b → LastVisit chain s w ⊎ NoVisit chain s r w
      at n true e = let o = on n in inl (record { route = r; same = e; fresh = f; count = o.0; steps = renamed chain s r e o.0 r w o.1 })
      at n false e = let o = on n in inr (record { apart = e; count = o.0; steps = o.1 })

      go : LastVisit chain s w ⊎ NoVisit chain s h.0 w → LastVisit chain s w ⊎ NoVisit chain s r w
      go (inl l) = inl l
      go (inr n) = at n (starts_with s r) refl

  -- different routes of the table
  record Listed (chain : List RouteNo) : Type 0 where
    known : (v : RouteNo) → In v chain → In v (route_numbers routes)
    apart : Distinct chain

  few : (chain : List RouteNo) → Listed chain → length chain ≤ length routes
  few chain l =
      let number : ℕ → RouteNo = λ r. record { 0 = r } in
      let a = length_among chain (route_numbers routes) l.apart l.known in
      let b = length-map number (one_to (length routes)) in
      let c = length-count 1 (length routes) in
      omega arith

  longer : (chain : List RouteNo) (q : RouteNo) → Listed chain → Fresh chain q → Listed (chain ++ q ∷ [])
  longer chain q l f = record {
    known = λ v m. known v (in_append v chain (q ∷ []) m);
    apart = distinct_push chain q l.apart (λ m. true≢false (sym (list_any_from (λ v. is_start (route_at routes v).start (route_at routes q).start) chain q m (start_self (route_at routes q).start)) ∙ f.free));
  }
    where
      known : (v : RouteNo) → In v chain ⊎ In v (q ∷ []) → In v (route_numbers routes)
      known v (inl m) = l.known v m
      known v (inr (inl e)) = subst (λ x. In x (route_numbers routes)) e f.known
      known v (inr (inr m)) = absurd m

  ends_here : (more : ℕ) (chain : List RouteNo) (last w : RouteNo) → last ≡ w → ends_chain routes more chain last w ≡ true
  ends_here zero chain last w e = eq-eqb last.0 w.0 (ap (λ (r : RouteNo). r.0) e)
  ends_here (suc more) chain last w e = or_left (is_route last w) (list_any (λ q. ends_chain routes more (chain ++ q ∷ []) q w) (onward routes chain last)) (eq-eqb last.0 w.0 (ap (λ (r : RouteNo). r.0) e))

  chain_of : (more : ℕ) (chain : List RouteNo) (last w : RouteNo) (k : ℕ) → Listed chain → length routes < length chain + more → Reaches routes chain k last w → ends_chain routes more chain last w ≡ true
  chain_of more chain last w zero l fuel h = ends_here more chain last w h
  chain_of zero chain last w (suc k) l fuel h = let f = few chain l in absurd (omega arith)
  chain_of (suc more) chain last w (suc k) l fuel h = go (visits chain h.0 k h.0 w next.fresh h.2) (chain_of more)
    where
      next : Follows chain last h.0
      next = follows_of chain last h.0 h.1

      go : LastVisit chain h.0 w ⊎ NoVisit chain h.0 h.0 w
          → ((chain : List RouteNo) (last w : RouteNo) (k : ℕ) → Listed chain → length routes < length chain + more → Reaches routes chain k last w → ends_chain routes more chain last w ≡ true)
          → ends_chain routes (suc more) chain last w ≡ true
      go (inr n) rest = absurd (true≢false (sym (start_self (route_at routes h.0).start) ∙ n.apart))
      go (inl v) rest =
          let size = length_push chain v.route in
          let goes = goes_on_alike (route_at routes last).finish (route_at routes h.0).start (route_at routes v.route).start next.goes v.same in
          or_right (is_route last w) (list_any (λ q. ends_chain routes more (chain ++ q ∷ []) q w) (onward routes chain last))
          (list_any_from (λ q. ends_chain routes more (chain ++ q ∷ []) q w) (onward routes chain last) v.route (follows_in chain last v.route (record { goes = goes; fresh = v.fresh }))
          (rest (chain ++ v.route ∷ []) v.route w v.count (longer chain v.route l v.fresh) (omega arith) v.steps))

  pub leads_by_steps : LeadsBySteps routes
  leads_by_steps v w is = (to, from)
    where
      to : leads_to routes v w ≡ true → (k : ℕ) × Reaches routes (v ∷ []) k v w
      to h = steps_of v (length routes) (v ∷ []) v w (inl refl) h

      listed : Listed (v ∷ [])
      listed = record { known = known; apart = ((λ k. k), tt) }
        where
          known : (q : RouteNo) → In q (v ∷ []) → In q (route_numbers routes)
          known q (inl e) = subst (λ x. In x (route_numbers routes)) e (route_in routes v is.0 is.1)
          known q (inr m) = absurd m

      from : (k : ℕ) × Reaches routes (v ∷ []) k v w → leads_to routes v w ≡ true
      from h = let alone : length (v ∷ []) ≡ 1 = refl in chain_of (length routes) (v ∷ []) v w h.0 listed (omega arith) h.1
