-- What plans take of the time of a within, and what their runs show with another time.
use Rattle.std.proofs.Common.{◌≡◌, ℕ, ◌+◌, ◌-◌, ◌*◌, ◌<◌, ◌≤◌, ◌⊎◌, Bool, true, false, List, length, nat_lt, Option, None, Some, if◌then◌else◌, refl, inl, inr, sym, ap, ap₂, subst, ◌∙◌, arith, true≢false, mul-le-mul, le_refl}
use Rattle.std.specs.Prelude.{◌||◌}
use Rattle.std.proofs.Math.Nat.{add-mul}
use Rattle.std.proofs.lemmas.Bool.Decides.{nat_tests}
use Rattle.std.proofs.lemmas.Bool.{le-ltb}
use Rattle.greatest_time.specs.Times.{with_max}
use Rattle.greatest_time.proofs.Alike.{routes_alike}
use Rattle.greatest_time.proofs.InTime.{exactly, feasible_at, has, makes}
use Rattle.rail_base.specs.Admitted.{IsAdmitted}
use Rattle.rail_base.specs.declared.history.Verdict.{Verdict}
use Rattle.rail_base.specs.declared.history.Verdict.TheVariants.{Met, Undecided}
use Rattle.rail_base.specs.declared.plan.Command.{Command}
use Rattle.rail_base.specs.declared.route.Route.{Route}
use Rattle.rail_base.specs.declared.station.Station.{Station}
use Rattle.rail_base.specs.declared.station.Within.{Within}
use Rattle.rail_base.specs.Stations.{horizon, within_of}
use Rattle.rail_laws.proofs.Deciding.{visit_within}
use Rattle.rail_laws.proofs.Verdicts.{met_exactly, no_failure, verdict}
use Rattle.rail_spec.specs.Feasible.{IsFeasible, IsInfeasible}
use Rattle.rail_spec.specs.Histories.{decided, history_at, verdict_of}
use Rattle.rail_spec.specs.Requirements.{cost, is_decided, is_done, meets, path_violation, violation_at, visited_at}
use Rattle.rail_spec.specs.Track.{routes_of}
use Rattle.verify_loop.specs.Tightening.{ticks_from, ticks_taken}

-- ---- numbers

-- a product of a sum is the sum of products
spread : (a k t : ℕ) → (a + k) * t ≡ a * t + k * t
spread a k t = add-mul a k t

pub less_or_not : (a b : ℕ) → (a < b) ⊎ (b ≤ a)
less_or_not a b = go (nat_lt a b) refl
  where
    go : (t : Bool) → nat_lt a b ≡ t → (a < b) ⊎ (b ≤ a)
    go true h = inl (grind (arith, nat_tests))
    go false h = inr (grind (arith, nat_tests))

taken_fits : (from to k t : ℕ) → to - from ≤ k → to * t ≤ from * t + k * t
taken_fits from to k t less = let l : to * t ≤ (from + k) * t = mul-le-mul (let h : to ≤ from + k = omega (arith, less) in h) (le_refl t) in subst (λ x. to * t ≤ x) (spread from k t) l

-- ---- verdicts of plans that meet a design

-- the run of such a plan shows all that happened until all was done
pub met_shows : (d : Station) (routes : List Route) (plan : List (List Command)) → IsAdmitted d → meets d routes plan ≡ true → verdict_of d routes plan (horizon d) ≡ Met (history_at d routes plan (cost d routes plan)) (cost d routes plan)
met_shows d routes plan good met =
    let none = no_failure d routes plan good ((met_exactly d routes plan good).0 met) in
    ap (λ (b : Bool). if b then Undecided else decided d routes plan (path_violation d routes plan) (violation_at d routes plan (cost d routes plan))) (le-ltb (horizon d) (cost d routes plan) (verdict d routes plan good).last)
    ∙ ap₂ (decided d routes plan) none.0 none.1

or_second : (a b : Bool) → b ≡ true → (a || b) ≡ true
or_second true b e = refl
or_second false b e = e

-- where all is done at one tick in both, none of the two decides later
no_later : (d e : Station) (routes : List Route) (plan : List (List Command)) → IsAdmitted d → IsAdmitted e → ((k : ℕ) → is_done d routes plan k ≡ is_done e routes plan k) → meets d routes plan ≡ true → meets e routes plan ≡ true
    → cost e routes plan ≤ cost d routes plan
no_later d e routes plan good fine alike met meets_too = go (less_or_not (cost d routes plan) (cost e routes plan))
  where
    done : is_done e routes plan (cost d routes plan) ≡ true
    done = sym (alike (cost d routes plan)) ∙ (verdict d routes plan good).met ((met_exactly d routes plan good).0 met)

    go : (cost d routes plan < cost e routes plan) ⊎ (cost e routes plan ≤ cost d routes plan) → cost e routes plan ≤ cost d routes plan
    go (inr le) = le
    go (inl less) = absurd (true≢false (sym (or_second _ (is_done e routes plan (cost d routes plan)) done)
        ∙ (verdict e routes plan fine).before (no_failure e routes plan fine ((met_exactly e routes plan fine).0 meets_too)).0 (cost d routes plan) (verdict d routes plan good).first less))

module _ (c : Station) (w : ℕ) (x y : ℕ) (plan : List (List Command)) (n : ℕ) (good : IsAdmitted (with_max c w x)) (fine : IsAdmitted (with_max c w y)) (f : IsFeasible (with_max c w x) n plan) (g : IsFeasible (with_max c w y) n plan) where
  meets_one : meets (with_max c w x) (routes_of c) plan ≡ true
  meets_one = subst (λ (rs : List Route). meets (with_max c w x) rs plan ≡ true) (routes_alike c _) f.met

  meets_other : meets (with_max c w y) (routes_of c) plan ≡ true
  meets_other = subst (λ (rs : List Route). meets (with_max c w y) rs plan ≡ true) (routes_alike c _) g.met

  costs_alike : cost (with_max c w x) (routes_of c) plan ≡ cost (with_max c w y) (routes_of c) plan
  costs_alike =
      let one = no_later (with_max c w x) (with_max c w y) (routes_of c) plan good fine (λ k. refl) meets_one meets_other in
      let other = no_later (with_max c w y) (with_max c w x) (routes_of c) plan fine good (λ k. refl) meets_other meets_one in
      omega (arith, one, other)

  -- a plan that is feasible with both times is shown alike
  pub shown_alike : verdict_of (with_max c w x) (routes_of c) plan (horizon c) ≡ verdict_of (with_max c w y) (routes_of c) plan (horizon c)
  shown_alike =
      met_shows (with_max c w x) (routes_of c) plan good meets_one
      ∙ (ap (λ (k : ℕ). Met (history_at c (routes_of c) plan k) k) costs_alike
      ∙ sym (met_shows (with_max c w y) (routes_of c) plan fine meets_other))

-- ---- what a plan takes

abbrev ticks_at : Station → List Route → List (List Command) → Within → ℕ
ticks_at d routes plan v = ticks_from (visited_at d routes plan (horizon d) v.from_train v.from_visit) (visited_at d routes plan (horizon d) v.to_train v.to_visit)

module _ (c : Station) (w : ℕ) (first : 1 ≤ w) (there : w ≤ length c.withins) (n : ℕ) where
  taken_is : (plan : List (List Command)) (ms : ℕ) (f : IsFeasible (with_max c w ms) n plan) → ticks_taken c w plan ≡ (makes c w first there n plan ms f).to - (makes c w first there n plan ms f).from
  taken_is plan ms f = let b = makes c w first there n plan ms f in ap₂ ticks_from b.from_is b.to_is

  -- it is feasible with no fewer ticks than it takes, and with all that are no fewer
  pub enough : (plan : List (List Command)) (ms k : ℕ) → IsFeasible (with_max c w ms) n plan → ticks_taken c w plan ≤ k → IsFeasible (with_max c w (k * c.tick_ms)) n plan
  enough plan ms k f less =
      let b = makes c w first there n plan ms f in
      feasible_at c w first there n plan ms b.from b.to (k * c.tick_ms) f b.from_is b.to_is (taken_fits b.from b.to k c.tick_ms (subst (λ z. z ≤ k) (taken_is plan ms f) less))

  pub needs : (plan : List (List Command)) (ms : ℕ) → IsFeasible (with_max c w ms) n plan → ticks_taken c w plan * c.tick_ms ≤ ms
  needs plan ms f =
      let b = makes c w first there n plan ms f in
      let late = (exactly c w first there n plan ms b.from b.to f b.from_is b.to_is ms).0 f in
      subst (λ z. z * c.tick_ms ≤ ms) (sym (taken_is plan ms f)) (fits b.from b.to late)
    where
      fits : (from to : ℕ) → to * c.tick_ms ≤ from * c.tick_ms + ms → (to - from) * c.tick_ms ≤ ms
      fits from to late = go (less_or_not to from)
        where
          go : (to < from) ⊎ (from ≤ to) → (to - from) * c.tick_ms ≤ ms
          go (inl less) = let none : to - from ≡ 0 = omega (arith, less) in subst (λ z. z * c.tick_ms ≤ ms) (sym none) (omega arith)
          go (inr le) = let sum : to ≡ from + (to - from) = omega (arith, le) in let both : to * c.tick_ms ≡ from * c.tick_ms + (to - from) * c.tick_ms = ap (λ z. z * c.tick_ms) sum ∙ spread from (to - from) c.tick_ms in omega (arith, late, both)

  -- where so many ticks are too few, all ms below one tick more are
  pub none_less : (k ms : ℕ) → IsInfeasible (with_max c w (k * c.tick_ms)) n → ms < (k + 1) * c.tick_ms → IsInfeasible (with_max c w ms) n
  none_less k ms none less = λ plan f. none plan (enough plan ms k f (go plan f (less_or_not k (ticks_taken c w plan))))
    where
      go : (plan : List (List Command)) → IsFeasible (with_max c w ms) n plan → (k < ticks_taken c w plan) ⊎ (ticks_taken c w plan ≤ k) → ticks_taken c w plan ≤ k
      go plan f (inr le) = le
      go plan f (inl more) =
          let l : (k + 1) * c.tick_ms ≤ ticks_taken c w plan * c.tick_ms = mul-le-mul (let h : k + 1 ≤ ticks_taken c w plan = omega (arith, more) in h) (le_refl c.tick_ms) in
          let h = needs plan ms f in
          absurd (omega (arith, l, h, less))

  -- it takes no more ticks than there are
  pub taken_by_horizon : (plan : List (List Command)) (ms : ℕ) → IsFeasible (with_max c w ms) n plan → ticks_taken c w plan ≤ horizon c
  taken_by_horizon plan ms f =
      let b = makes c w first there n plan ms f in
      let last = (visit_within c (routes_of c) plan (horizon c) (within_of c w).to_train (within_of c w).to_visit b.to b.to_is).1 in
      subst (λ z. z ≤ horizon c) (sym (taken_is plan ms f)) (omega (arith, last))

  -- and no more than it is feasible with
  pub takes_within : (plan : List (List Command)) (k : ℕ) → 1 ≤ c.tick_ms → IsFeasible (with_max c w (k * c.tick_ms)) n plan → ticks_taken c w plan ≤ k
  takes_within plan k some f = go (less_or_not k (ticks_taken c w plan))
    where
      go : (k < ticks_taken c w plan) ⊎ (ticks_taken c w plan ≤ k) → ticks_taken c w plan ≤ k
      go (inr le) = le
      go (inl more) =
          let l : (k + 1) * c.tick_ms ≤ ticks_taken c w plan * c.tick_ms = mul-le-mul (let h : k + 1 ≤ ticks_taken c w plan = omega (arith, more) in h) (le_refl c.tick_ms) in
          let h = needs plan (k * c.tick_ms) f in
          let both = spread k 1 c.tick_ms in
          absurd (omega (arith, l, h, both, some))

  -- with another time it takes as many
  pub taken_alike : (plan : List (List Command)) (ms : ℕ) → ticks_taken (with_max c w ms) w plan ≡ ticks_taken c w plan
  taken_alike plan ms =
      ap (λ (rs : List Route). ticks_at (with_max c w ms) rs plan (within_of (with_max c w ms) w)) (routes_alike c _)
      ∙ ap (ticks_at (with_max c w ms) (routes_of c) plan) (has c w first there ms)
