-- Where a route goes further than a path, by the last of the path.
use Rattle.std.proofs.Common.{◌≡◌, suc, ◌-◌, true, not, List, [], ◌∷◌, map, length, slice_get, Option, None, Some, sym, ap, subst, ◌∙◌, arith, true≢false}
use Rattle.rail_base.specs.declared.route.Route.{Route}
use Rattle.rail_base.specs.declared.route.RouteNo.{RouteNo}
use Rattle.rail_base.proofs.Members.{and_left, and_right}
use Rattle.rail_spec.specs.Plans.{is_start, goes_on}
use Rattle.cone_spec.specs.Clauses.{goes_further}

value_or : RouteNo → Option RouteNo → RouteNo
value_or x None = x
value_or x (Some y) = y

-- a route that goes further starts at the signal where the last of the walk ends
pub last_goes : (f : RouteNo → Route) (q : Route) (xs : List RouteNo) (x : RouteNo) → Some x ≡ slice_get xs (length xs - 1) → goes_further (map f xs) q ≡ true → goes_on (f x).finish q.start ≡ true
unfolding value_or
last_goes f q [] x e h = absurd (true≢false (sym h))
last_goes f q (y ∷ []) x e h =
    let i : length (y ∷ []) - 1 ≡ 0 = omega arith in
    let same : x ≡ y = ap (value_or x) (e ∙ ap (slice_get (y ∷ [])) i) in
    subst (λ z. goes_on (f z).finish q.start ≡ true) (sym same) (and_left _ _ h)
last_goes f q (y ∷ z ∷ zs) x e h =
    let i : length (y ∷ z ∷ zs) - 1 ≡ suc (length (z ∷ zs) - 1) = omega arith in
    last_goes f q (z ∷ zs) x (e ∙ ap (slice_get (y ∷ z ∷ zs)) i) (and_right (not (is_start y'.start q.start)) _ h)
  where
    y' : Route
    y' = f y
