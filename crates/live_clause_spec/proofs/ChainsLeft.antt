-- Chains of live routes.
use Rattle.std.proofs.Common.{◌≡◌, ℕ, zero, suc, ◌⊎◌, inl, inr, Bool, true, false, cond, not, ◌&&◌, if◌then◌else◌, List, [], ◌∷◌, ◌++◌, flat_map, filter, nat_lt, refl, sym, ap, subst, ◌∙◌, true≢false}
use Rattle.std.specs.List.{list_all}
use Rattle.rail_base.specs.declared.station.TrainNo.{TrainNo}
use Rattle.rail_base.specs.declared.route.Route.{Route}
use Rattle.rail_base.specs.declared.route.RouteNo.{RouteNo}
use Rattle.rail_base.specs.declared.plan.Command.{Command}
use Rattle.rail_base.proofs.Members.{In, false_unless, filter-append, list_all_at}
use Rattle.rail_base.proofs.Lists.{in_append, in_append_left, in_append_right, in_flat_map_back, list_all_from}
use Rattle.rail_spec.specs.Plans.{exits, route_at}
use Rattle.clause_spec.specs.Clauses.{chain_length, chains, onward}
use Rattle.live_clause_spec.specs.Listed.{is_live_for, live_chains, live_onward}
use Rattle.live_clause_spec.proofs.Lists.{filter_none, flat_map_kept}

-- of lists that are made of each, what passes
filter_each : {X Y : Type 0} (keep : Y → Bool) (f : X → List Y) (xs : List X) → filter keep (flat_map f xs) ≡ flat_map (λ x. filter keep (f x)) xs
filter_each keep f [] = refl
filter_each keep f (x ∷ xs) = filter-append keep (f x) (flat_map f xs) ∙ ap (λ ys. filter keep (f x) ++ ys) (filter_each keep f xs)

module _ (live : Command → Bool) (routes : List Route) (t : TrainNo) where
  -- all routes of the chain are live for the train
  abbrev pub all_live : List RouteNo × RouteNo → Bool
  all_live chain = list_all (is_live_for live t) chain.0

  abbrev goes_on_with : ℕ → List RouteNo → RouteNo → Bool
  goes_on_with bound before w = not (exits (route_at routes w)) && nat_lt (chain_length routes (before ++ w ∷ [])) bound

  -- each chain has the routes with which it begins
  pub begins_so : (more bound : ℕ) (before : List RouteNo) (w : RouteNo) (chain : List RouteNo × RouteNo) → In chain (chains routes more bound before w) → (r : RouteNo) → In r (before ++ w ∷ []) → In r chain.0
  begins_so zero bound before w chain m r i = absurd m
  begins_so (suc more) bound before w chain m r i = go (not (exits (route_at routes w)) && nat_lt (chain_length routes (before ++ w ∷ [])) bound) m (λ v j. begins_so more bound (before ++ w ∷ []) v chain j r (in_append_left r (before ++ w ∷ []) (v ∷ []) i))
    where
      go : (a : Bool) → In chain (if a then (before ++ w ∷ [], w) ∷ flat_map (chains routes more bound (before ++ w ∷ [])) (onward routes (before ++ w ∷ []) w) else [])
          → ((v : RouteNo) → In chain (chains routes more bound (before ++ w ∷ []) v) → In r chain.0) → In r chain.0
      go false j rest = absurd j
      go true (inl e) rest = subst (λ (c : List RouteNo × RouteNo). In r c.0) e i
      go true (inr j) rest =
          let x = in_flat_map_back (chains routes more bound (before ++ w ∷ [])) (onward routes (before ++ w ∷ []) w) chain j in
          rest x.0 x.2

  -- so with a route that isn't live none is left
  none_with : (more bound : ℕ) (before : List RouteNo) (v : RouteNo) → is_live_for live t v ≡ false → filter all_live (chains routes more bound before v) ≡ []
  none_with more bound before v dead = filter_none all_live (chains routes more bound before v) (λ chain m. false_unless (all_live chain) (λ h.
      true≢false (sym (list_all_at (is_live_for live t) chain.0 v h (begins_so more bound before v chain m v (in_append_right v before (v ∷ []) (inl refl)))) ∙ dead)))

  -- those of live routes alone are left
  pub chains_left : (more bound : ℕ) (before : List RouteNo) (w : RouteNo) → ((r : RouteNo) → In r before → is_live_for live t r ≡ true) → is_live_for live t w ≡ true
      → filter all_live (chains routes more bound before w) ≡ live_chains live routes t more bound before w
  chains_left zero bound before w b k = refl
  chains_left (suc more) bound before w b k = go (not (exits (route_at routes w)) && nat_lt (chain_length routes (before ++ w ∷ [])) bound) (λ v h. chains_left more bound (before ++ w ∷ []) v longer h)
    where
      longer : (r : RouteNo) → In r (before ++ w ∷ []) → is_live_for live t r ≡ true
      longer r m = at (in_append r before (w ∷ []) m)
        where
          at : In r before ⊎ In r (w ∷ []) → is_live_for live t r ≡ true
          at (inl j) = b r j
          at (inr (inl e)) = subst (λ q. is_live_for live t q ≡ true) e k
          at (inr (inr j)) = absurd j

      go : (a : Bool) → ((v : RouteNo) → is_live_for live t v ≡ true → filter all_live (chains routes more bound (before ++ w ∷ []) v) ≡ live_chains live routes t more bound (before ++ w ∷ []) v)
          → filter all_live (if a then (before ++ w ∷ [], w) ∷ flat_map (chains routes more bound (before ++ w ∷ [])) (onward routes (before ++ w ∷ []) w) else [])
          ≡ (if a then (before ++ w ∷ [], w) ∷ flat_map (live_chains live routes t more bound (before ++ w ∷ [])) (live_onward live routes t (before ++ w ∷ []) w) else [])
      go false rest = refl
      go true rest =
          let chain : List RouteNo = before ++ w ∷ [] in
          let further = flat_map (chains routes more bound chain) (onward routes chain w) in
          let here : all_live (chain, w) ≡ true = list_all_from (is_live_for live t) chain longer in
          ap (λ x. cond x ((chain, w) ∷ filter all_live further) (filter all_live further)) here
          ∙ ap (λ xs. (chain, w) ∷ xs)
          (filter_each all_live (chains routes more bound chain) (onward routes chain w)
          ∙ flat_map_kept (is_live_for live t) (λ v. filter all_live (chains routes more bound chain v)) (live_chains live routes t more bound chain) (onward routes chain w) (λ v m h. rest v h) (λ v m h. none_with more bound chain v h))
