-- A plan that can be carried out gives a train enough track before another is given a section that they share.
use Rattle.std.proofs.Common.{◌≡◌, ℕ, zero, suc, ◌+◌, ◌-◌, ◌≤◌, ◌<◌, ◌⊎◌, inl, inr, Bool, true, false, not, ◌&&◌, ◌||◌, List, [], ◌∷◌, ◌++◌, map, filter, length, refl, sym, ap, subst, ◌∙◌, arith, true≢false, leb-true, nat_le, nat_lt}
use Rattle.std.specs.Prelude.{sum_by}
use Rattle.std.specs.List.{list_any, list_all}
use Rattle.std.proofs.lemmas.List.Elements.{filter-append}
use Rattle.std.proofs.lemmas.List.{map-append}
use Rattle.rail_base.specs.declared.station.Station.{Station}
use Rattle.rail_base.specs.declared.station.SectionNo.{SectionNo}
use Rattle.rail_base.specs.declared.station.TrainNo.{TrainNo}
use Rattle.rail_base.specs.declared.route.Route.{Route}
use Rattle.rail_base.specs.declared.route.RouteNo.{RouteNo}
use Rattle.rail_base.specs.declared.plan.Command.{Command}
use Rattle.rail_base.specs.Numbering.{one_to}
use Rattle.rail_base.specs.Stations.{train_length}
use Rattle.rail_spec.specs.Plans.{route_at, path, commands, step_of, routes_given, is_train, is_start, can_clear, given_between, own_shared, release_offset, length_mm, exits, route_numbers, contend}
use Rattle.rail_base.proofs.Members.{In, and_left, and_right, and_both, list_all_at, list_any_gives, in_filter, below_or_not, false_unless}
use Rattle.clause_spec.specs.Variables.{Given, Literal, yes, no}
use Rattle.clause_spec.specs.Clauses.{Clause, extends, onward, chain_length, chains, clearing, left_by, wait_clause, waits}
use Rattle.clause_spec.specs.Models.{holds, is_so}
use Rattle.clause_spec.proofs.Lists.{Distinct, sum_among, sum_by-map, below_one, distinct_kept}
use Rattle.clause_spec.proofs.Steps.{cmd, step_low, Placed, one_a_step}
use Rattle.clause_spec.proofs.Truth.{Fails, at_clause, no_false, yes_false}
use Rattle.clause_spec.proofs.Places.{one_start}
use Rattle.clause_spec.proofs.Forward.{IsChain, Found, chains_are, links, Fit, way, one, of, place, same_start, so_in, so_step, so_from, so_not, in_turn}
use Rattle.rail_base.proofs.Lists.{in_map_back, in_map, in_flat_map_back, in_filter_back, in_append_left, in_append_right}
use Rattle.rail_laws.proofs.Given.{same_train}

path_is : (plan : List (List Command)) (t : TrainNo) → path plan t ≡ map (λ (c : Command). c.route) (filter (λ (c : Command). is_train c.train t) (commands plan))
path_is [] t = refl
path_is (step ∷ steps) t =
    let keep : Command → Bool = λ c. is_train c.train t in
    let route : Command → RouteNo = λ c. c.route in
    ap (λ rs. routes_given t step ++ rs) (path_is steps t) ∙ (sym (map-append route (filter keep step) (filter keep (commands steps))) ∙ ap (map route) (sym (filter-append keep step (commands steps))))

module _ (d : Station) (routes : List Route) (n : ℕ) (plan : List (List Command)) (fit : Fit d routes n plan) (e c : Command) (i : ℕ) (chain : List RouteNo × RouteNo) where
  -- all routes of the chain are given, and none with which it goes on
  record Stuck : Type 0 where
    contend : contend routes e c ≡ true
    is : IsChain routes (clearing d routes n e c) chain
    has : In e.route chain.0
    here : In c (commands plan)
    given : (r : RouteNo) → In r chain.0 → is_so plan (Given (cmd e.train r) i) ≡ true
    next : step_of plan c ≡ i + 1
    ended : (r : RouteNo) → In r (onward routes chain.0 chain.1) → is_so plan (Given (cmd e.train r) i) ≡ false

  module _ (s : Stuck) where
    standing : (r : RouteNo) → In r chain.0 → In (cmd e.train r) (commands plan)
    standing r m = so_in d routes n plan fit (cmd e.train r) i (s.given r m)

    first : In e (commands plan)
    first = standing e.route s.has

    -- a route that follows one of the chain, and is given in time, is in the chain
    follows : (q r : RouteNo) → In q chain.0 → In (cmd e.train r) (commands plan) → links d routes n plan q r ≡ true → step_of plan (cmd e.train r) ≤ i → In r chain.0
    follows q r m k l h = go (s.is.goes q m)
      where
        same : (v : RouteNo) → In v chain.0 → is_start (route_at routes v).start (route_at routes r).start ≡ true → In r chain.0
        same v j f = subst (λ w. In w chain.0) (same_start d routes n plan fit e.train v r (standing v j) k f) j

        at_last : q ≡ chain.1 → (b : Bool) → list_any (λ v. is_start (route_at routes v).start (route_at routes r).start) chain.0 ≡ b → In r chain.0
        at_last f true g =
            let x = list_any_gives (λ v. is_start (route_at routes v).start (route_at routes r).start) chain.0 g in same x.0 x.1 x.2
        at_last f false g =
            let linked : links d routes n plan chain.1 r ≡ true = subst (λ v. links d routes n plan v r ≡ true) f l in
            let goes : extends routes chain.0 chain.1 r ≡ true = and_both (links d routes n plan chain.1 r) _ linked (ap not g) in
            let out = s.ended r (in_filter (extends routes chain.0 chain.1) (route_numbers routes) r (of d routes n plan fit (cmd e.train r) k).route goes) in
            absurd (true≢false (sym (so_from d routes n plan fit (cmd e.train r) i k h) ∙ out))

        go : (q ≡ chain.1) ⊎ ((v : RouteNo) × In v chain.0 × (links d routes n plan q v ≡ true)) → In r chain.0
        go (inl f) = at_last f (list_any (λ v. is_start (route_at routes v).start (route_at routes r).start) chain.0) refl
        go (inr (v, j, f)) = same v j (one_start (route_at routes q).finish (route_at routes v).start (route_at routes r).start f l)

    -- so is each that is given from the first on
    inside : (k : ℕ) (r : RouteNo) → In (cmd e.train r) (commands plan) → step_of plan (cmd e.train r) ≤ k → step_of plan e ≤ step_of plan (cmd e.train r) → step_of plan (cmd e.train r) ≤ i → In r chain.0
    inside zero r m h low high = let l = step_low plan (cmd e.train r) in absurd (omega arith)
    inside (suc k) r m h low high = go (place d routes n plan fit (cmd e.train r) m) (below_or_not (step_of plan e) (step_of plan (cmd e.train r))) (inside k)
      where
        begin : step_of plan (cmd e.train r) ≡ step_of plan e → In r chain.0
        begin f = subst (λ w. In w chain.0) (one_a_step plan e.train e.route r (one d routes n plan fit) first m (sym f)) s.has

        go : Placed (links d routes n plan) plan e.train r → (step_of plan e < step_of plan (cmd e.train r)) ⊎ (step_of plan (cmd e.train r) ≤ step_of plan e)
            → ((q : RouteNo) → In (cmd e.train q) (commands plan) → step_of plan (cmd e.train q) ≤ k → step_of plan e ≤ step_of plan (cmd e.train q) → step_of plan (cmd e.train q) ≤ i → In q chain.0) → In r chain.0
        go p (inr l) rest = begin (omega arith)
        go (inl x) (inl l) rest = let f = x.least e.route first in absurd (omega arith)
        go (inr (q, x)) (inl l) rest =
            let a = x.earlier in
            let b = x.between e.route first l in
            follows q r (rest q x.member (omega arith) b (omega arith)) m x.linked high

    route_of : Command → RouteNo
    route_of g = g.route

    between : Command → Bool
    between g = is_train g.train e.train && nat_le (step_of plan e) (step_of plan g) && nat_lt (step_of plan g) (step_of plan c)

    of_train : (g : Command) → (is_train g.train e.train && nat_le (step_of plan e) (step_of plan g) && nat_lt (step_of plan g) (step_of plan c)) ≡ true → is_train g.train e.train ≡ true
    of_train g h = and_left (is_train g.train e.train) _ (and_left (is_train g.train e.train && nat_le (step_of plan e) (step_of plan g)) _ h)

    given_inside : (g : Command) → In g (given_between plan e c) → In g.route chain.0
    given_inside g m =
        let k = in_filter_back (λ (g : Command). is_train g.train e.train && nat_le (step_of plan e) (step_of plan g) && nat_lt (step_of plan g) (step_of plan c)) (commands plan) g m in
        let same : g ≡ cmd e.train g.route = ap (λ t. cmd t g.route) (same_train g.train e.train (of_train g k.1)) in
        let low = leb-true _ _ (and_right (is_train g.train e.train) _ (and_left (is_train g.train e.train && nat_le (step_of plan e) (step_of plan g)) _ k.1)) in
        let high = leb-true _ _ (and_right (is_train g.train e.train && nat_le (step_of plan e) (step_of plan g)) _ k.1) in
        let where_c = s.next in
        inside i g.route (subst (λ x. In x (commands plan)) same k.0)
        (subst (λ x. step_of plan x ≤ i) same (omega arith)) (subst (λ x. step_of plan e ≤ step_of plan x) same low) (subst (λ x. step_of plan x ≤ i) same (omega arith))

    apart : Distinct (map (λ (g : Command). g.route) (given_between plan e c))
    apart = distinct_kept (λ (g : Command). g.route) (λ (g : Command). is_train g.train e.train && nat_le (step_of plan e) (step_of plan g) && nat_lt (step_of plan g) (step_of plan c)) (λ (g : Command). is_train g.train e.train) (commands plan) of_train
        (subst Distinct (path_is plan e.train) (way d routes n plan fit e.train (of d routes n plan fit e first).train).apart)

    sum_short : sum_by length_mm (map (λ (g : Command). route_at routes g.route) (given_between plan e c)) ≤ chain_length routes chain.0
    sum_short =
        let weight : RouteNo → ℕ = λ w. length_mm (route_at routes w) in
        let a = sum_by-map length_mm (λ (g : Command). route_at routes g.route) (given_between plan e c) in
        let b = sum_by-map weight (λ (g : Command). g.route) (given_between plan e c) in
        let f = sum_among weight (map (λ (g : Command). g.route) (given_between plan e c)) chain.0 apart inner in
        omega arith
      where
        inner : (r : RouteNo) → In r (map (λ (g : Command). g.route) (given_between plan e c)) → In r chain.0
        inner r m = let x = in_map_back (λ (g : Command). g.route) (given_between plan e c) r m in subst (λ w. In w chain.0) x.2 (given_inside x.0 x.1)

    no_exit : list_any exits (map (λ (g : Command). route_at routes g.route) (given_between plan e c)) ≡ false
    no_exit = false_unless _ (λ h.
        let x = list_any_gives exits (map (λ (g : Command). route_at routes g.route) (given_between plan e c)) h in
        let y = in_map_back (λ (g : Command). route_at routes g.route) (given_between plan e c) x.0 x.1 in
        true≢false (sym x.2 ∙ (ap exits (sym y.2) ∙ s.is.stays y.0.route (given_inside y.0 y.1))))

    cannot : (z : SectionNo) → In z (own_shared (route_at routes e.route) (route_at routes c.route)) → chain_length routes chain.0 < release_offset (route_at routes e.route) z + train_length d e.train → can_clear d routes plan e c z ≡ true → ⊥
    cannot z m l h = go (nat_le (release_offset (route_at routes e.route) z + train_length d e.train) (sum_by length_mm (map (λ (g : Command). route_at routes g.route) (given_between plan e c)))) refl
        (list_any exits (map (λ (g : Command). route_at routes g.route) (given_between plan e c))) no_exit h
      where
        go : (a : Bool) → nat_le (release_offset (route_at routes e.route) z + train_length d e.train) (sum_by length_mm (map (λ (g : Command). route_at routes g.route) (given_between plan e c))) ≡ a → (b : Bool) → b ≡ false → (a || b) ≡ true → ⊥
        go true f b x k = let p = leb-true _ _ f in let q = sum_short in absurd (omega arith)
        go false f b x k = true≢false (sym k ∙ x)

    not_stuck : ⊥
    not_stuck = go (in_turn d routes n plan fit e c s.contend first s.here)
      where
        release : SectionNo → ℕ
        release z = release_offset (route_at routes e.route) z

        go : (step_of plan c < step_of plan e) ⊎ ((step_of plan e < step_of plan c) × (list_all (can_clear d routes plan e c) (own_shared (route_at routes e.route) (route_at routes c.route)) ≡ true)) → ⊥
        go (inl l) = let a = so_step d routes n plan fit e i (s.given e.route s.has) in let b = s.next in absurd (omega arith)
        go (inr l) = some (own_shared (route_at routes e.route) (route_at routes c.route)) (λ z m. m) s.is.short l.1
          where
            some : (zs : List SectionNo) → ((z : SectionNo) → In z zs → In z (own_shared (route_at routes e.route) (route_at routes c.route)))
                → chain_length routes chain.0 < left_by (map (release_offset (route_at routes e.route)) zs) (train_length d e.train) → list_all (can_clear d routes plan e c) zs ≡ true → ⊥
            some [] there short clear = absurd (omega arith)
            some (first ∷ zs) there short clear =
                let y = below_one (map release (first ∷ zs)) (train_length d e.train) (chain_length routes chain.0) (release first) (inl refl) short in
                let z = in_map_back release (first ∷ zs) y.0 y.1 in
                cannot z.0 (there z.0 z.1) (subst (λ v. chain_length routes chain.0 < v + train_length d e.train) (sym z.2) y.2) (list_all_at (can_clear d routes plan e c) (first ∷ zs) z.0 clear z.1)

module _ (d : Station) (routes : List Route) (n : ℕ) (plan : List (List Command)) (fit : Fit d routes n plan) where
  pub waits_holds : (e c : Command) (cl : Clause) → contend routes e c ≡ true → In cl (waits d routes n (e, c)) → holds (is_so plan) cl ≡ true
  waits_holds e c cl con m =
      let f = in_flat_map_back (λ chain. map (wait_clause d routes n e c chain) (one_to (n - 1))) (chains routes (length routes) (clearing d routes n e c) [] e.route) cl m in
      let g = in_map_back (wait_clause d routes n e c f.0) (one_to (n - 1)) cl f.2 in
      let found = chains_are routes (length routes) (clearing d routes n e c) [] e.route f.0 (record { stays = λ r k. absurd k; goes = λ r k. absurd k }) f.1 in
      at_clause (is_so plan) g.2 (λ h. stuck f.0 g.0 found h)
    where
      stuck : (chain : List RouteNo × RouteNo) (i : ℕ) → Found routes (clearing d routes n e c) [] e.route chain → Fails (is_so plan) (wait_clause d routes n e c chain i) → ⊥
      stuck chain i found h =
          let before : List Literal = map (λ w. no (Given (cmd e.train w) i)) chain.0 in
          let after : List Literal = map (λ w. yes (Given (cmd e.train w) i)) (onward routes chain.0 chain.1) in
          let rest : List Literal = no (Given c (i + 1)) ∷ yes (Given c i) ∷ after in
          let a = no_false (is_so plan) (Given c (i + 1)) h (in_append_right (no (Given c (i + 1))) before rest (inl refl)) in
          let b = yes_false (is_so plan) (Given c i) h (in_append_right (yes (Given c i)) before rest (inr (inl refl))) in
          let here = so_in d routes n plan fit c (i + 1) a in
          let high = so_step d routes n plan fit c (i + 1) a in
          let low = so_not d routes n plan fit c i here b in
          not_stuck d routes n plan fit e c i chain (record {
            contend = con;
            is = found.is;
            has = found.has e.route (inl refl);
            here = here;
            given = λ r k. no_false (is_so plan) (Given (cmd e.train r) i) h (in_append_left (no (Given (cmd e.train r) i)) before rest (in_map (λ w. no (Given (cmd e.train w) i)) chain.0 r k));
            next = omega arith;
            ended = λ r k. yes_false (is_so plan) (Given (cmd e.train r) i) h (in_append_right (yes (Given (cmd e.train r) i)) before rest (inr (inr (in_map (λ w. yes (Given (cmd e.train w) i)) (onward routes chain.0 chain.1) r k))));
          })
