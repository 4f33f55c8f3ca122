-- Routes of a train's commands that exclude each other.
use Rattle.std.proofs.Common.{◌≡◌, ℕ, ◌+◌, ◌<◌, Bool, true, false, cond, ◌&&◌, List, [], ◌∷◌, ◌++◌, map, filter, drop, get_or, length, refl, ap, ap₂, ◌∙◌}
use Rattle.std.proofs.lemmas.List.{drop_more}
use Rattle.rail_base.specs.declared.station.Station.{Station}
use Rattle.rail_base.specs.declared.station.TrainNo.{TrainNo}
use Rattle.rail_base.specs.declared.route.Route.{Route}
use Rattle.rail_base.specs.declared.route.RouteNo.{RouteNo}
use Rattle.rail_base.specs.declared.plan.Command.{Command}
use Rattle.rail_base.proofs.Members.{filter-append}
use Rattle.rail_spec.specs.Plans.{route_numbers}
use Rattle.clause_spec.specs.Clauses.{later_pairs, not_both}
use Rattle.live_clause_spec.specs.Listed.{is_live_for, live_excluded}
use Rattle.live_clause_spec.proofs.Lists.{filter_both, filter_map, filter_none}
use Rattle.plan_encoding.specs.Tables.{exclude_both, exclusions}
use Rattle.plan_encoding.proofs.Emission.{Next}

module _ (live : Command → Bool) (t : TrainNo) where
  -- the train has commands for both
  abbrev pub both_for : RouteNo × RouteNo → Bool
  both_for p = is_live_for live t p.0 && is_live_for live t p.1

  later_left : (rs : List RouteNo) → filter both_for (later_pairs rs) ≡ later_pairs (filter (is_live_for live t) rs)
  later_left [] = refl
  later_left (r ∷ rs) = filter-append both_for (map (λ q. (r, q)) rs) (later_pairs rs) ∙ go (is_live_for live t r) refl (later_left rs)
    where
      with : RouteNo → RouteNo × RouteNo
      with q = (r, q)

      go : (b : Bool) → is_live_for live t r ≡ b → filter both_for (later_pairs rs) ≡ later_pairs (filter (is_live_for live t) rs)
          → filter both_for (map (λ q. (r, q)) rs) ++ filter both_for (later_pairs rs) ≡ later_pairs (cond b (r ∷ filter (is_live_for live t) rs) (filter (is_live_for live t) rs))
      go true e rest = ap₂ (λ xs ys. xs ++ ys) (filter_map both_for (is_live_for live t) with rs (λ q m. ap (λ b. b && is_live_for live t q) e)) rest
      go false e rest = ap₂ (λ xs ys. xs ++ ys) (filter_map both_for (λ q. false) with rs (λ q m. ap (λ b. b && is_live_for live t q) e) ∙ ap (map with) (filter_none (λ q. false) rs (λ q m. refl))) rest

  -- what a train's commands ask, by those of all routes that exclude each other
  pub excluded_among : (d : Station) (routes : List Route) (n : ℕ) → map (not_both d routes n t) (filter both_for (exclusions routes)) ≡ live_excluded live d routes n t
  excluded_among d routes n = ap (map (not_both d routes n t)) (filter_both both_for (exclude_both routes) (later_pairs (route_numbers routes)) ∙ ap (filter (exclude_both routes)) (later_left (route_numbers routes)))

-- the next member that passes, or does not
pub next_some : {X Y : Type 0} (g : X → Y) (test : X → Bool) (xs : List X) (i : ℕ) (other : X) → i < length xs → test (get_or xs i other) ≡ true → Next (map g (filter test (drop i xs))) (g (get_or xs i other) ∷ []) (map g (filter test (drop (i + 1) xs)))
next_some g test xs i other h e = record {
  is = ap (λ ys. map g (filter test ys)) (drop_more xs i other h) ∙ ap (λ b. map g (cond b (get_or xs i other ∷ filter test (drop (i + 1) xs)) (filter test (drop (i + 1) xs)))) e;
}

pub next_none : {X Y : Type 0} (g : X → Y) (test : X → Bool) (xs : List X) (i : ℕ) (other : X) → i < length xs → test (get_or xs i other) ≡ false → map g (filter test (drop i xs)) ≡ map g (filter test (drop (i + 1) xs))
next_none g test xs i other h e =
    ap (λ ys. map g (filter test ys)) (drop_more xs i other h) ∙ ap (λ b. map g (cond b (get_or xs i other ∷ filter test (drop (i + 1) xs)) (filter test (drop (i + 1) xs)))) e
