-- Counting stretches, no further than one past the most.
use Rattle.std.proofs.Common.{◌≡◌, ℕ, ◌+◌, ◌*◌, ◌≤◌, ◌<◌, ◌⊎◌, inl, inr, true, false, if◌then◌else◌, List, [], ◌∷◌, ◌++◌, map, filter, length, sum_by, drop, sym, ap, ◌∙◌, arith, mul-le-mul}
use Rattle.std.proofs.lemmas.List.Sums.{sum_by-cons, sum_by-append}
use Rattle.rail_base.specs.declared.station.Station.{Station}
use Rattle.rail_base.specs.declared.route.Route.{Route}
use Rattle.rail_base.specs.declared.route.RouteNo.{RouteNo}
use Rattle.rail_base.proofs.Members.{below_or_not}
use Rattle.cone_spec.specs.Clauses.{goes_further}
use Rattle.rail_course.specs.Tracks.{routes_at}
use Rattle.free_spec.specs.Legs.{Leg, following, with_next}
use Rattle.bound_spec.specs.Validity.{stretches_in, stretches_of_walk}
use Rattle.std.proofs.Math.ListN.{drop_of_length-le}
use Rattle.bound_spec.specs.declared.Leg.{Leg as BoundLeg}
use Rattle.bound_spec.specs.Validity.{stretches_of_leg}
use Rattle.bound_ticks.specs.Looks.{cap, too_many}
use Rattle.bound_ticks.specs.Walks.{walks_by_number}
use Rattle.bound_ticks.proofs.Longer.{numbered}

-- those of a walk with each of some routes that goes on where it ends
abbrev pub stretches_after : List Route → List Route → ℕ
stretches_after rs qs = sum_by (λ (l : Leg). stretches_in l.routes) (following qs rs true)

-- those of all walks
abbrev pub stretches_of_walks : Station → List Route → List (List RouteNo) → ℕ
stretches_of_walks d routes walks = sum_by (stretches_of_walk d routes) (map (routes_at routes) walks)

with_one : (rs : List Route) (q : Route) → stretches_in (rs ++ q ∷ []) ≡ stretches_in rs + length q.edges
with_one rs q =
    let a = sum_by-append (λ (r : Route). length r.edges) rs (q ∷ []) in
    let b = sum_by-cons (λ (r : Route). length r.edges) q [] in
    omega arith

pub goes_after : (rs : List Route) (q : Route) (qs : List Route) → goes_further rs q ≡ true → stretches_after rs (q ∷ qs) ≡ stretches_in rs + length q.edges + stretches_after rs qs
goes_after rs q qs h =
    let f : Leg → ℕ = λ (l : Leg). stretches_in l.routes in
    let split = ap (λ b. sum_by f (map (with_next rs true) (if b then q ∷ filter (goes_further rs) qs else filter (goes_further rs) qs))) h in
    let cons = sum_by-cons f (with_next rs true q) (following qs rs true) in
    let one = with_one rs q in
    split ∙ (cons ∙ ap (λ n. n + stretches_after rs qs) one)

pub stays_after : (rs : List Route) (q : Route) (qs : List Route) → goes_further rs q ≡ false → stretches_after rs (q ∷ qs) ≡ stretches_after rs qs
stays_after rs q qs h = ap (λ b. sum_by (λ (l : Leg). stretches_in l.routes) (map (with_next rs true) (if b then q ∷ filter (goes_further rs) qs else filter (goes_further rs) qs))) h

-- a product of counts that go no further
pub capped_product : (s p : ℕ) → cap (cap s * cap p) ≡ cap (s * p)
capped_product s p = go (below_or_not s too_many) (below_or_not p too_many) (below_or_not 0 s) (below_or_not 0 p)
  where
    go : (s < too_many) ⊎ (too_many ≤ s) → (p < too_many) ⊎ (too_many ≤ p) → (0 < s) ⊎ (s ≤ 0) → (0 < p) ⊎ (p ≤ 0) → cap (cap s * cap p) ≡ cap (s * p)
    go (inl a) (inl b) _ _ =
        let c : cap s ≡ s = omega arith in
        let e : cap p ≡ p = omega arith in
        ap (λ n. cap (n * cap p)) c ∙ ap (λ n. cap (s * n)) e
    go (inr a) _ _ (inl q) =
        let most : too_many ≤ cap s = omega arith in
        let one : 1 ≤ cap p = omega arith in
        let c : too_many * 1 ≤ cap s * cap p = mul-le-mul most one in
        let e : too_many * 1 ≤ s * p = mul-le-mul a q in
        omega arith
    go (inr a) _ _ (inr q) =
        let e : p ≡ 0 = omega arith in
        ap (λ n. cap (cap s * cap n)) e ∙ (omega arith ∙ ap (λ n. cap (s * n)) (sym e))
    go (inl a) (inr b) (inl q) _ =
        let one : 1 ≤ cap s = omega arith in
        let most : too_many ≤ cap p = omega arith in
        let c : 1 * too_many ≤ cap s * cap p = mul-le-mul one most in
        let e : 1 * too_many ≤ s * p = mul-le-mul q b in
        omega arith
    go (inl a) (inr b) (inr q) _ =
        let e : s ≡ 0 = omega arith in
        ap (λ n. cap (cap n * cap p)) e ∙ (omega arith ∙ ap (λ n. cap (n * p)) (sym e))

-- the count of all walks of a leg is that of the leg
pub leg_total : (d : Station) (routes : List Route) (l : BoundLeg) (ws : List (List RouteNo)) (count i places p r : ℕ) → length ws ≤ i → count ≤ too_many
    → cap (count + stretches_of_walks d routes (drop i ws)) ≡ cap (stretches_of_walks d routes ws) → ws ≡ walks_by_number routes l.places → p ≡ cap places → r ≡ cap (count * p)
    → r ≡ cap (stretches_of_leg d routes l places)
leg_total d routes l ws count i places p r over few left are same h =
    let none = ap (λ vs. stretches_of_walks d routes vs) (drop_of_length-le ws over) in
    let all : count ≡ cap (stretches_of_walks d routes ws) = omega arith in
    h ∙ (ap (λ n. cap (n * p)) all ∙ (ap (λ n. cap (cap (stretches_of_walks d routes ws) * n)) same
    ∙ (capped_product (stretches_of_walks d routes ws) places ∙ ap (λ n. cap (n * places)) (ap (stretches_of_walks d routes) are ∙ ap (sum_by (stretches_of_walk d routes)) (numbered routes l.places)))))
