-- Where a route goes further than a path, one route of the path at a time.
use Rattle.std.proofs.Common.{◌≡◌, ℕ, ◌+◌, ◌<◌, Bool, true, false, not, ◌&&◌, List, [], ◌∷◌, map, drop, get_or, length, refl, sym, ap, ◌∙◌}
use Rattle.std.proofs.lemmas.List.{drop_more}
use Rattle.rail_base.specs.declared.route.Route.{Route}
use Rattle.rail_base.specs.declared.route.RouteNo.{RouteNo}
use Rattle.rail_base.specs.Routes.{route_at}
use Rattle.rail_spec.specs.Plans.{is_start, goes_on}
use Rattle.cone_spec.specs.Clauses.{goes_further}

-- after routes of which the last goes on or not
abbrev pub further_after : Route → Bool → List Route → Bool
further_after q goes [] = goes
further_after q goes (r ∷ rs) = goes_further (r ∷ rs) q

pub further_first : (q : Route) (rs : List Route) → further_after q false rs ≡ goes_further rs q
further_first q [] = refl
further_first q (r ∷ rs) = refl

stops : (q : Route) (goes : Bool) (r : Route) (rs : List Route) → is_start r.start q.start ≡ true → further_after q goes (r ∷ rs) ≡ false
stops q goes r [] h = ap (λ b. goes_on r.finish q.start && not b) h ∙ none (goes_on r.finish q.start)
  where
    none : (b : Bool) → (b && false) ≡ false
    none true = refl
    none false = refl
stops q goes r (r' ∷ rs) h = ap (λ b. not b && goes_further (r' ∷ rs) q) h

passes : (q : Route) (goes : Bool) (r : Route) (rs : List Route) → is_start r.start q.start ≡ false → further_after q goes (r ∷ rs) ≡ further_after q (goes_on r.finish q.start) rs
passes q goes r [] h = ap (λ b. goes_on r.finish q.start && not b) h ∙ all (goes_on r.finish q.start)
  where
    all : (b : Bool) → (b && true) ≡ b
    all true = refl
    all false = refl
passes q goes r (r' ∷ rs) h = ap (λ b. not b && goes_further (r' ∷ rs) q) h

module _ (routes : List Route) (q : Route) (path : List RouteNo) (i : ℕ) (other : RouteNo) (less : i < length path) (r : Route) (is : r ≡ route_at routes (get_or path i other)) where
  here : map (route_at routes) (drop i path) ≡ r ∷ map (route_at routes) (drop (i + 1) path)
  here = ap (map (route_at routes)) (drop_more path i other less) ∙ ap (λ x. x ∷ map (route_at routes) (drop (i + 1) path)) (sym is)

  pub further_stop : (b s t : Bool) → s ≡ is_start r.start q.start → s ≡ true → further_after q b (map (route_at routes) (drop i path)) ≡ t → false ≡ t
  further_stop b s t e f h = sym (stops q b r (map (route_at routes) (drop (i + 1) path)) (sym e ∙ f)) ∙ (sym (ap (further_after q b) here) ∙ h)

  pub further_next : (b s g t : Bool) → s ≡ is_start r.start q.start → s ≡ false → g ≡ goes_on r.finish q.start → further_after q b (map (route_at routes) (drop i path)) ≡ t → further_after q g (map (route_at routes) (drop (i + 1) path)) ≡ t
  further_next b s g t e f k h = ap (λ x. further_after q x (map (route_at routes) (drop (i + 1) path))) k ∙ (sym (passes q b r (map (route_at routes) (drop (i + 1) path)) (sym e ∙ f)) ∙ (sym (ap (further_after q b) here) ∙ h))
