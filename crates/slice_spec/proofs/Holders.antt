-- Of the commands for which one waits, the holder is the one that is out of the way last.
use Rattle.std.proofs.Common.{◌≡◌, ℕ, zero, suc, ◌+◌, ◌-◌, ◌≤◌, inl, inr, Bool, true, false, not, ◌&&◌, ◌||◌, if◌then◌else◌, List, [], ◌∷◌, Option, None, Some, refl, sym, ap, subst, ◌∙◌, arith, leb-true, leb-false, true≢false, ℤ, ◌⊎◌}
use Rattle.std.specs.List.{list_all}
use Rattle.rail_base.specs.declared.station.Station.{Station}
use Rattle.rail_base.specs.declared.station.SectionNo.{SectionNo}
use Rattle.rail_base.specs.declared.route.Route.{Route}
use Rattle.rail_base.specs.declared.plan.Command.{Command}
use Rattle.rail_base.specs.declared.state.TrainState.{TrainState}
use Rattle.rail_base.specs.Numbering.{least, or_this}
use Rattle.rail_spec.specs.Plans.{route_at, share, shared, has_section, preceding, precedes, is_train, sections, commands}
use Rattle.rail_spec.specs.Dispatches.{state_of, is_granted, has_released, has_cleared, pasts_at, state_at}
use Rattle.rail_base.proofs.Members.{In, and_left, and_right, list_all_at, list_any_gives, in_filter, not_less}
use Rattle.rail_laws.proofs.Deciding.{least_gives, least_stays}
use Rattle.rail_spec.specs.Dispatches.{of_plan}
use Rattle.cone_spec.specs.Validity.{is_before}
use Rattle.slice_spec.specs.Holders.{is_later, clear_tick, later_of, latest}
use Rattle.cone_spec.proofs.Releasing.{released_granted}
use Rattle.rail_laws.proofs.Running.{idle_at_first, released_up_to}
use Rattle.rail_base.proofs.Lists.{list_all_from, in_map, in_filter_back}
use Rattle.std.specs.Prelude.{fold}

-- ---- later and not later

not_later_trans : (a b c : Option ℕ) → is_later a b ≡ false → is_later b c ≡ false → is_later a c ≡ false
not_later_trans a b None h k = top a
  where
    top : (a : Option ℕ) → is_later a None ≡ false
    top None = refl
    top (Some x) = refl
not_later_trans None None (Some z) h k = k
not_later_trans None (Some y) (Some z) h k = absurd (true≢false h)
not_later_trans (Some x) None (Some z) h k = absurd (true≢false k)
not_later_trans (Some x) (Some y) (Some z) h k = let l = leb-false (suc y) x h in let m = leb-false (suc z) y k in not_less z x (omega arith)

not_later_self : (a : Option ℕ) → is_later a a ≡ false
not_later_self None = refl
not_later_self (Some x) = not_less x x (omega arith)

later_back : (a b : Option ℕ) → is_later a b ≡ true → is_later b a ≡ false
later_back None None h = refl
later_back None (Some y) h = refl
later_back (Some x) None h = absurd (true≢false (sym h))
later_back (Some x) (Some y) h = let l = leb-true (suc y) x h in not_less x y (omega arith)

pub least_found : (test : ℕ → Bool) (n : ℕ) → 1 ≤ n → test n ≡ true → (a : ℕ) × (least test n ≡ Some a)
least_found test zero h t = absurd (omega arith)
least_found test (suc n) h t = go (least test n) (test (suc n)) t
  where
    go : (o : Option ℕ) (b : Bool) → b ≡ true → (a : ℕ) × (or_this o b (suc n) ≡ Some a)
    go (Some k) b e = (k, refl)
    go None true e = (suc n, refl)
    go None false e = absurd (true≢false (sym e))

module _ (d : Station) (routes : List Route) (plan : List (List Command)) (last : ℕ) (c : Command) where
  pub record Latest (es : List Command) (e : Command) : Type 0 where
    pub member : In e es
    pub none_later : (f : Command) → In f es → is_later (clear_tick d routes plan last c f) (clear_tick d routes plan last c e) ≡ false

  none_from : (f : Command) (es : List Command) → fold (later_of d routes plan last c) (Some f) es ≡ None → ⊥
  none_from f [] h = cc
  none_from f (x ∷ xs) h = go (is_later (clear_tick d routes plan last c x) (clear_tick d routes plan last c f) || not (is_later (clear_tick d routes plan last c f) (clear_tick d routes plan last c x)) && is_before x f) (none_from x xs) (none_from f xs) h
    where
      go : (b : Bool) → (fold (later_of d routes plan last c) (Some x) xs ≡ None → ⊥) → (fold (later_of d routes plan last c) (Some f) xs ≡ None → ⊥) → fold (later_of d routes plan last c) (if b then Some x else Some f) xs ≡ None → ⊥
      go true nx nf k = nx k
      go false nx nf k = nf k

  pub latest_none : (es : List Command) → latest d routes plan last c es ≡ None → es ≡ []
  latest_none [] h = refl
  latest_none (e ∷ es) h = absurd (none_from e es h)

  latest_from : (f : Command) (es : List Command) (e : Command) → fold (later_of d routes plan last c) (Some f) es ≡ Some e → Latest (f ∷ es) e
  latest_from f [] e h = let same : f ≡ e = cc in subst (Latest (f ∷ [])) same (record { member = inl refl; none_later = λ g m. alone g m })
    where
      alone : (g : Command) → In g (f ∷ []) → is_later (clear_tick d routes plan last c g) (clear_tick d routes plan last c f) ≡ false
      alone g (inl k) = ap (λ y. is_later (clear_tick d routes plan last c y) (clear_tick d routes plan last c f)) (sym k) ∙ not_later_self (clear_tick d routes plan last c f)
      alone g (inr m) = absurd m
  latest_from f (x ∷ xs) e h = pick (is_later (clear_tick d routes plan last c x) (clear_tick d routes plan last c f)) refl (is_later (clear_tick d routes plan last c f) (clear_tick d routes plan last c x)) refl (is_before x f) (latest_from x xs e) (latest_from f xs e) h
    where
      after : (g : Command) → (g ≡ f) ⊎ (g ≡ x) → is_later (clear_tick d routes plan last c f) (clear_tick d routes plan last c g) ≡ false → is_later (clear_tick d routes plan last c x) (clear_tick d routes plan last c g) ≡ false → Latest (g ∷ xs) e → Latest (f ∷ x ∷ xs) e
      after g which lf lx l = record { member = place l.member which; none_later = λ y m. each y m }
        where
          top : is_later (clear_tick d routes plan last c g) (clear_tick d routes plan last c e) ≡ false
          top = l.none_later g (inl refl)

          place : In e (g ∷ xs) → (g ≡ f) ⊎ (g ≡ x) → In e (f ∷ x ∷ xs)
          place (inl k) (inl s) = inl (sym s ∙ k)
          place (inl k) (inr s) = inr (inl (sym s ∙ k))
          place (inr k) s = inr (inr k)

          each : (y : Command) → In y (f ∷ x ∷ xs) → is_later (clear_tick d routes plan last c y) (clear_tick d routes plan last c e) ≡ false
          each y (inl k) = ap (λ z. is_later (clear_tick d routes plan last c z) (clear_tick d routes plan last c e)) (sym k) ∙ not_later_trans (clear_tick d routes plan last c f) (clear_tick d routes plan last c g) (clear_tick d routes plan last c e) lf top
          each y (inr (inl k)) = ap (λ z. is_later (clear_tick d routes plan last c z) (clear_tick d routes plan last c e)) (sym k) ∙ not_later_trans (clear_tick d routes plan last c x) (clear_tick d routes plan last c g) (clear_tick d routes plan last c e) lx top
          each y (inr (inr m)) = l.none_later y (inr m)

      pick : (a : Bool) → is_later (clear_tick d routes plan last c x) (clear_tick d routes plan last c f) ≡ a → (b : Bool) → is_later (clear_tick d routes plan last c f) (clear_tick d routes plan last c x) ≡ b → (w : Bool) → (fold (later_of d routes plan last c) (Some x) xs ≡ Some e → Latest (x ∷ xs) e) → (fold (later_of d routes plan last c) (Some f) xs ≡ Some e → Latest (f ∷ xs) e) → fold (later_of d routes plan last c) (if a || not b && w then Some x else Some f) xs ≡ Some e → Latest (f ∷ x ∷ xs) e
      pick true ea b eb w nx nf s = after x (inr refl) (later_back (clear_tick d routes plan last c x) (clear_tick d routes plan last c f) ea) (not_later_self (clear_tick d routes plan last c x)) (nx s)
      pick false ea true eb w nx nf s = after f (inl refl) (not_later_self (clear_tick d routes plan last c f)) ea (nf s)
      pick false ea false eb true nx nf s = after x (inr refl) eb (not_later_self (clear_tick d routes plan last c x)) (nx s)
      pick false ea false eb false nx nf s = after f (inl refl) (not_later_self (clear_tick d routes plan last c f)) ea (nf s)

  pub latest_some : (es : List Command) (e : Command) → latest d routes plan last c es ≡ Some e → Latest es e
  latest_some [] e h = cc
  latest_some (x ∷ xs) e h = latest_from x xs e h

  -- ---- once the latest is out of the way, all are

  -- at first nothing is released that is shared
  pub shares_one : (e : Command) → In e (preceding routes plan c) → (z : SectionNo) × In z (shared (route_at routes e.route) (route_at routes c.route))
  shares_one e m =
      let f = list_any_gives (has_section (route_at routes c.route)) (sections (route_at routes e.route)) shares in
      (f.0, in_filter (has_section (route_at routes c.route)) (sections (route_at routes e.route)) f.0 f.1 f.2)
    where
      shares : share (route_at routes e.route) (route_at routes c.route) ≡ true
      shares = and_right (not (is_train e.train c.train)) _ (and_left (not (is_train e.train c.train) && share (route_at routes e.route) (route_at routes c.route)) _ (in_filter_back (λ e. precedes routes plan e c) (commands plan) e m).1)

  pub not_at_first : (e : Command) → In e (preceding routes plan c) → has_cleared d routes (of_plan routes plan) (pasts_at d routes (of_plan routes plan) zero) c e ≡ true → ⊥
  not_at_first e m r =
      let s = shares_one e m in
      let one = list_all_at (has_released d routes (of_plan routes plan) (pasts_at d routes (of_plan routes plan) zero) e) (shared (route_at routes e.route) (route_at routes c.route)) s.0 r s.1 in
      let g = released_granted d routes (of_plan routes plan) zero e s.0 one in
      let z : (state_of (state_at d routes (of_plan routes plan) zero) e.train).granted ≡ 0 = ap (λ (s : TrainState). s.granted) (idle_at_first d routes (of_plan routes plan) e.train) in
      omega arith

  pub has_released_up_to : (k l : ℕ) (e : Command) → k ≤ l → has_cleared d routes (of_plan routes plan) (pasts_at d routes (of_plan routes plan) k) c e ≡ true → has_cleared d routes (of_plan routes plan) (pasts_at d routes (of_plan routes plan) l) c e ≡ true
  has_released_up_to k l e n h = list_all_from _ (shared (route_at routes e.route) (route_at routes c.route)) (λ z m. released_up_to d routes (of_plan routes plan) k l e z n (list_all_at (has_released d routes (of_plan routes plan) (pasts_at d routes (of_plan routes plan) k) e) (shared (route_at routes e.route) (route_at routes c.route)) z h m))

  pub all_out : (k : ℕ) (e : Command) → k ≤ last → Latest (preceding routes plan c) e → has_cleared d routes (of_plan routes plan) (pasts_at d routes (of_plan routes plan) k) c e ≡ true → list_all (has_cleared d routes (of_plan routes plan) (pasts_at d routes (of_plan routes plan) k) c) (preceding routes plan c) ≡ true
  all_out zero e l w r = absurd (not_at_first e w.member r)
  all_out (suc k) e l w r = list_all_from _ (preceding routes plan c) (λ f m. each f m (least_found test (suc k) (omega arith) r))
    where
      test : ℕ → Bool
      test i = has_cleared d routes (of_plan routes plan) (pasts_at d routes (of_plan routes plan) i) c e

      each : (f : Command) → In f (preceding routes plan c) → (a : ℕ) × (least (λ i. has_cleared d routes (of_plan routes plan) (pasts_at d routes (of_plan routes plan) i) c e) (suc k) ≡ Some a) → has_cleared d routes (of_plan routes plan) (pasts_at d routes (of_plan routes plan) (suc k)) c f ≡ true
      each f m (a, at) = go (clear_tick d routes plan last c f) refl
        where
          bound : a ≤ suc k
          bound = (least_gives (λ i. has_cleared d routes (of_plan routes plan) (pasts_at d routes (of_plan routes plan) i) c e) (suc k) a at).last

          of_e : clear_tick d routes plan last c e ≡ Some a
          of_e = let s : suc k + (last - suc k) ≡ last = omega arith in subst (λ i. least (λ i. has_cleared d routes (of_plan routes plan) (pasts_at d routes (of_plan routes plan) i) c e) i ≡ Some a) s (least_stays (λ i. has_cleared d routes (of_plan routes plan) (pasts_at d routes (of_plan routes plan) i) c e) (suc k) (last - suc k) a at)

          no_later : is_later (clear_tick d routes plan last c f) (Some a) ≡ false
          no_later = ap (is_later (clear_tick d routes plan last c f)) (sym of_e) ∙ w.none_later f m

          go : (o : Option ℕ) → clear_tick d routes plan last c f ≡ o → has_cleared d routes (of_plan routes plan) (pasts_at d routes (of_plan routes plan) (suc k)) c f ≡ true
          go None eo = absurd (true≢false (ap (λ o. is_later o (Some a)) (sym eo) ∙ no_later))
          go (Some b) eo =
              let early = leb-false (suc a) b (ap (λ o. is_later o (Some a)) (sym eo) ∙ no_later) in
              let found = least_gives (λ i. has_cleared d routes (of_plan routes plan) (pasts_at d routes (of_plan routes plan) i) c f) last b eo in
              let up = bound in
              has_released_up_to b (suc k) f (omega arith) found.passes
