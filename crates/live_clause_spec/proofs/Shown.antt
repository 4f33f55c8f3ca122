-- What is shown of live commands, of their numbers and of plans.
use Rattle.std.proofs.Common.{◌≡◌, ℕ, ◌≤◌, ◌<◌, inl, inr, Bool, List, [], ◌∷◌, filter, length, slice_get, refl, sym, ap, ◌∙◌, arith}
use Rattle.rail_base.specs.declared.station.Station.{Station}
use Rattle.rail_base.specs.declared.route.Route.{Route}
use Rattle.rail_base.specs.declared.route.RouteNo.{RouteNo}
use Rattle.rail_base.specs.declared.plan.Command.{Command}
use Rattle.rail_base.specs.Members.{In, Pairs}
use Rattle.rail_base.specs.Numbering.{count_from}
use Rattle.rail_base.proofs.Lists.{in_filter_back, pairs_count, pairs_filter, pairs_map}
use Rattle.rail_base.specs.Stations.{train_of}
use Rattle.rail_base.proofs.Members.{in_filter}
use Rattle.rail_spec.specs.Plans.{route_numbers}
use Rattle.rail_spec.specs.Track.{routes_of}
use Rattle.clause_spec.specs.declared.question.Turns.{Turns}
use Rattle.clause_spec.specs.Variables.{By}
use Rattle.clause_spec.proofs.Numbers.{model_says}
use Rattle.alike_clause_spec.proofs.Holding.{has_model}
use Rattle.way_spec.specs.Ways.{IsLive}
use Rattle.way_spec.proofs.Paths.{commands_are_live}
use Rattle.train_ways.proofs.Pairing.{in_numbers}
use Rattle.train_ways.proofs.Standing.{has_nodes}
use Rattle.live_clause_spec.specs.Live.{is_live, is_live_route}
use Rattle.live_clause_spec.specs.Variables.{live_variables}
use Rattle.live_clause_spec.specs.Laws.{AreNumbered, FeasibleAreLive, FeasibleHaveLiveModels, ListsLive, LiveModelsGivePlans, ModelsSay, TellsLive}
use Rattle.live_clause_spec.proofs.Base.{base_of_plan, base_spread, decoded_live}
use Rattle.live_clause_spec.proofs.Living.{tells_live}
use Rattle.live_clause_spec.proofs.Numbers.{live_ones, stands_live}
use Rattle.live_clause_spec.proofs.Spread.{live_model_says}

-- ---- lists in order

-- two with the same members are one
same_list : (xs ys : List RouteNo) → Pairs (λ (r q : RouteNo). r.0 < q.0) xs → Pairs (λ (r q : RouteNo). r.0 < q.0) ys → ((x : RouteNo) → In x xs → In x ys) → ((x : RouteNo) → In x ys → In x xs) → xs ≡ ys
same_list [] [] a b f g = refl
same_list [] (y ∷ ys) a b f g = absurd (g y (inl refl))
same_list (x ∷ xs) [] a b f g = absurd (f x (inl refl))
same_list (x ∷ xs) (y ∷ ys) a b f g = joined (first (f x (inl refl)) (g y (inl refl))) (same_list xs ys a.1 b.1)
  where
    first : In x (y ∷ ys) → In y (x ∷ xs) → x ≡ y
    first (inl e) k = sym e
    first (inr m) (inl e) = e
    first (inr m) (inr k) = let l = b.0 x m in let u = a.0 y k in absurd (omega arith)

    behind : x ≡ y → (z : RouteNo) → In z xs → In z (y ∷ ys) → In z ys
    behind e z m (inl s) = let l = a.0 z m in let same : x.0 ≡ z.0 = ap (λ (r : RouteNo). r.0) (e ∙ s) in absurd (omega arith)
    behind e z m (inr k) = k

    before : x ≡ y → (z : RouteNo) → In z ys → In z (x ∷ xs) → In z xs
    before e z m (inl s) = let l = b.0 z m in let same : y.0 ≡ z.0 = ap (λ (r : RouteNo). r.0) (sym e ∙ s) in absurd (omega arith)
    before e z m (inr k) = k

    joined : x ≡ y → (((z : RouteNo) → In z xs → In z ys) → ((z : RouteNo) → In z ys → In z xs) → xs ≡ ys) → x ∷ xs ≡ y ∷ ys
    joined e rest = ap (λ r. r ∷ xs) e ∙ ap (λ rs. y ∷ rs) (rest (λ z m. behind e z m (f z (inr m))) (λ z m. before e z m (g z (inr m))))

-- ---- live commands

module _ (d : Station) where
  abbrev routes : List Route
  routes = routes_of d

  pub tells : TellsLive d (routes_of d)
  tells c = tells_live d routes c.train (has_nodes d routes refl) c.route

  pub lists : ListsLive d (routes_of d)
  lists t rs are = same_list rs (filter (is_live_route routes (train_of d t).visits) (route_numbers routes)) are.in_order ordered there back
    where
      ordered : Pairs (λ (r q : RouteNo). r.0 < q.0) (filter (is_live_route routes (train_of d t).visits) (route_numbers routes))
      ordered = pairs_filter (λ (r q : RouteNo). r.0 < q.0) (is_live_route routes (train_of d t).visits) (route_numbers routes)
          (pairs_map (λ (r q : RouteNo). r.0 < q.0) (λ (m n : ℕ). m < n) (λ n. record { 0 = n }) (count_from 1 (length routes)) (λ a b h. h) (pairs_count 1 (length routes)))

      there : (r : RouteNo) → In r rs → In r (filter (is_live_route routes (train_of d t).visits) (route_numbers routes))
      there r m =
          let live : IsLive d routes t r = (are.each r).0 m in
          in_filter (is_live_route routes (train_of d t).visits) (route_numbers routes) r (in_numbers routes r (live.1.walk.named r live.2)) ((tells_live d routes t (has_nodes d routes refl) r).1 live)

      back : (r : RouteNo) → In r (filter (is_live_route routes (train_of d t).visits) (route_numbers routes)) → In r rs
      back r m = (are.each r).1 ((tells_live d routes t (has_nodes d routes refl) r).0 (in_filter_back (is_live_route routes (train_of d t).visits) (route_numbers routes) r m).1)

  pub feasible_are_live : (n : ℕ) → FeasibleAreLive d n
  feasible_are_live n plan f c m = (tells c).1 (commands_are_live d n plan f c m)

-- ---- numbers

pub are_numbered : (live : Command → Bool) (d : Station) (routes : List Route) (n : ℕ) → AreNumbered live d routes n
are_numbered live d routes n v m =
    let k = live_ones live d routes n v m in
    let s = stands_live live d routes n v k.0 k.1 in
    let e = s.number in
    (omega arith, ap (slice_get (live_variables live d routes n)) (omega arith) ∙ s.there)

-- ---- plans

pub models_say : (live : Command → Bool) (d : Station) (routes : List Route) (n : ℕ) → ModelsSay live d routes n
models_say live d routes n plan v m = let k = live_ones live d routes n v m in live_model_says live d routes n plan v k.0 k.1

pub give_plans : (turns : Turns) (live : Command → Bool) (d : Station) (routes : List Route) (n : ℕ) → 1 ≤ n → LiveModelsGivePlans turns live d routes n
give_plans turns live d routes n some values h =
    let all = sym (base_spread turns live d routes n some values) ∙ h in
    (all, decoded_live turns live d routes n some values all)

pub have_live_models : (turns : Turns) (d : Station) (n k : ℕ) → 1 ≤ k → k ≤ n → FeasibleHaveLiveModels turns d n k
have_live_models turns d n k low high plan f =
    let m = has_model turns d n k low high plan f in
    let some : 1 ≤ n = omega arith in
    let live = is_live d (routes_of d) in
    let alone = feasible_are_live d n m.plan m.feasible in
    record {
      plan = m.plan;
      feasible = m.feasible;
      live_alone = alone;
      holds = base_of_plan turns live d (routes_of d) n some m.plan alone ∙ m.holds;
      by = live_model_says live d (routes_of d) n m.plan (By k) (low, high) refl ∙ (sym (model_says d (routes_of d) n m.plan (By k) (low, high)) ∙ m.by);
    }
