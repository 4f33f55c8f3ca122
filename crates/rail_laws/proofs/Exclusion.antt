-- In no run of an executable plan do two trains hold one section.
use Rattle.std.proofs.Common.{◌≡◌, ℕ, suc, ◌≤◌, ◌⊎◌, inl, inr, Bool, true, false, not, ◌&&◌, ◌||◌, ◌==◌, nat_lt, List, map, length, refl, sym, ap, subst, ◌∙◌, eqb-true, eq-eqb, ℤ, true≢false}
use Rattle.rail_base.specs.declared.station.Station.{Station}
use Rattle.rail_base.specs.declared.station.SectionNo.{SectionNo}
use Rattle.rail_base.specs.declared.station.TrainNo.{TrainNo}
use Rattle.rail_base.specs.declared.route.Route.{Route}
use Rattle.rail_base.specs.declared.route.OverlapSection.{OverlapSection}
use Rattle.rail_base.specs.declared.plan.Command.{Command}
use Rattle.rail_spec.specs.Plans.{route_at, commands, precedes, shared, share, sections, own_sections, is_train, step_of, is_executable, may_stand, has_section, goes_over}
use Rattle.rail_base.specs.Routes.{overlaps}
use Rattle.rail_base.specs.declared.state.TrainState.{TrainState}
use Rattle.rail_spec.specs.Dispatches.{idle, state_of, of_plan, is_granted, has_released}
use Rattle.rail_spec.specs.Dispatches.{granted_after, moved, pasts_at, state_at}
use Rattle.rail_spec.specs.Safety.{holds}
use Rattle.rail_base.proofs.Members.{In, and_left, and_right, and_both, list_all_at, list_any_gives, list_any_from, in_filter}
use Rattle.rail_base.proofs.Lists.{in_map, in_append_left, in_append_right}
use Rattle.rail_laws.proofs.Running.{Later, Moves, Idles, after_tick, granted_cleared}
use Rattle.rail_laws.proofs.Running as run

module _ (d : Station) (routes : List Route) (plan : List (List Command)) where
  -- ---- the run of a plan is that of its dispatch

  pub run_later : (k : ℕ) (t : TrainNo) → Later d routes (of_plan routes plan) (state_of (state_at d routes (of_plan routes plan) k) t) (state_of (state_at d routes (of_plan routes plan) (suc k)) t)
  run_later k t = run.run_later d routes (of_plan routes plan) k t

  -- what holds of a train after a tick, from what the rule gives
  pub by_tick : (P : TrainState → TrainState → Type 0) (k : ℕ) (t : TrainNo) → P idle idle
      → (1 ≤ t.0 → t.0 ≤ length d.trains → P (state_of (state_at d routes (of_plan routes plan) k) t) (moved d routes (of_plan routes plan) t (state_of (state_at d routes (of_plan routes plan) k) t) (granted_after d routes (of_plan routes plan) (pasts_at d routes (of_plan routes plan) k) t)))
      → P (state_of (state_at d routes (of_plan routes plan) k) t) (state_of (state_at d routes (of_plan routes plan) (suc k)) t)
  by_tick P k t none moves = go (after_tick d routes (of_plan routes plan) k t)
    where
      go : Moves d routes (of_plan routes plan) k t ⊎ Idles d routes (of_plan routes plan) k t → P (state_of (state_at d routes (of_plan routes plan) k) t) (state_of (state_at d routes (of_plan routes plan) (suc k)) t)
      go (inl m) = subst (P (state_of (state_at d routes (of_plan routes plan) k) t)) (sym m.by_rule) (moves m.first m.last)
      go (inr i) = subst (λ old. P old (state_of (state_at d routes (of_plan routes plan) (suc k)) t)) (sym i.old) (subst (P idle) (sym i.new) none)

  -- ---- two holders

  -- a command on the section that is granted and has not released it
  pub record Holder (k : ℕ) (t : TrainNo) (z : SectionNo) : Type 0 where
    pub command : Command
    pub member : In command (commands plan)
    pub train : is_train command.train t ≡ true
    pub section : has_section (route_at routes command.route) z ≡ true
    pub granted : is_granted d routes (of_plan routes plan) (state_at d routes (of_plan routes plan) k) command ≡ true
    pub unreleased : has_released d routes (of_plan routes plan) (pasts_at d routes (of_plan routes plan) k) command z ≡ false

  not_true : (b : Bool) → not b ≡ true → b ≡ false
  not_true true h = sym h
  not_true false h = refl

  holder : (k : ℕ) (t : TrainNo) (z : SectionNo) → holds d routes plan k t z ≡ true → Holder k t z
  holder k t z h = go (list_any_gives _ (commands plan) h)
    where
      go : (c : Command) × In c (commands plan) × ((is_train c.train t && has_section (route_at routes c.route) z && is_granted d routes (of_plan routes plan) (state_at d routes (of_plan routes plan) k) c && not (has_released d routes (of_plan routes plan) (pasts_at d routes (of_plan routes plan) k) c z)) ≡ true) → Holder k t z
      go (c, m, p) =
          let abc = and_left (is_train c.train t && has_section (route_at routes c.route) z && is_granted d routes (of_plan routes plan) (state_at d routes (of_plan routes plan) k) c) _ p in
          let ab = and_left (is_train c.train t && has_section (route_at routes c.route) z) _ abc in
          record {
            command = c;
            member = m;
            train = and_left (is_train c.train t) _ ab;
            section = and_right (is_train c.train t) _ ab;
            granted = and_right (is_train c.train t && has_section (route_at routes c.route) z) _ abc;
            unreleased = not_true _ (and_right (is_train c.train t && has_section (route_at routes c.route) z && is_granted d routes (of_plan routes plan) (state_at d routes (of_plan routes plan) k) c) _ p);
          }

  pub in_sections : (r : Route) (z : SectionNo) → has_section r z ≡ true → In z (sections r)
  in_sections r z h = go (goes_over r z) refl
    where
      numbered : (n : SectionNo) → n.0 ≡ z.0 → n ≡ z
      numbered n e = ap (λ k. record { 0 = k }) e

      go : (b : Bool) → goes_over r z ≡ b → In z (sections r)
      go true e =
          let p = list_any_gives (λ (p : SectionNo × ℤ). p.0.0 == z.0) r.sections e in
          in_append_left z (own_sections r) (map (λ p. p.section) r.overlaps) (subst (λ w. In w (own_sections r)) (numbered p.0.0 (eqb-true p.0.0.0 z.0 p.2)) (in_map (λ y. y.0) r.sections p.0 p.1))
      go false e =
          let p = list_any_gives (λ (p : OverlapSection). p.section.0 == z.0) r.overlaps (sym (ap (λ b. b || overlaps r z) e) ∙ h) in
          in_append_right z (own_sections r) (map (λ p. p.section) r.overlaps) (subst (λ w. In w (map (λ (p : OverlapSection). p.section) r.overlaps)) (numbered p.0.section (eqb-true p.0.section.0 z.0 p.2)) (in_map (λ (p : OverlapSection). p.section) r.overlaps p.0 p.1))

  in_shared : (r q : Route) (z : SectionNo) → has_section r z ≡ true → has_section q z ≡ true → In z (shared r q)
  in_shared r q z h k = in_filter (has_section q) (sections r) z (in_sections r z h) k

  sharing : (r q : Route) (z : SectionNo) → has_section r z ≡ true → has_section q z ≡ true → share r q ≡ true
  sharing r q z h k = list_any_from (has_section q) (sections r) z (in_sections r z h) k

  -- of two holders neither precedes the other
  no_order : (k : ℕ) (t u : TrainNo) (z : SectionNo) (a : Holder k t z) (b : Holder k u z) → precedes routes plan a.command b.command ≡ true → ⊥
  no_order k t u z a b p =
      let cleared = granted_cleared d routes (of_plan routes plan) k b.command b.granted in
      let out = cleared.each a.command z (in_filter (λ e. precedes routes plan e b.command) (commands plan) a.command a.member p) (in_shared (route_at routes a.command.route) (route_at routes b.command.route) z a.section b.section) in
      let no = a.unreleased in
      true≢false (sym out ∙ no)

  trains_apart : (a b t u : TrainNo) → is_train a t ≡ true → is_train b u ≡ true → is_train t u ≡ false → is_train a b ≡ false
  trains_apart a b t u h j differ = go (is_train a b) refl
    where
      go : (v : Bool) → is_train a b ≡ v → v ≡ false
      go false e = refl
      go true e =
          let one : a.0 ≡ t.0 = eqb-true a.0 t.0 h in
          let two : b.0 ≡ u.0 = eqb-true b.0 u.0 j in
          let both : a.0 ≡ b.0 = eqb-true a.0 b.0 e in
          let same : is_train t u ≡ true = eq-eqb t.0 u.0 (sym one ∙ both ∙ two) in
          sym same ∙ differ

  is_train_sym : (t u : TrainNo) → is_train t u ≡ false → is_train u t ≡ false
  is_train_sym t u differ = go (is_train u t) refl
    where
      go : (v : Bool) → is_train u t ≡ v → v ≡ false
      go false e = refl
      go true e = let same : u.0 ≡ t.0 = eqb-true u.0 t.0 e in let back : is_train t u ≡ true = eq-eqb t.0 u.0 (sym same) in sym back ∙ differ

  -- of two commands on one section, given to different trains, one precedes the other
  one_first : (a b later earlier rest : Bool) → a ≡ false → b ≡ true → (a || not b || later || (earlier && rest)) ≡ true → (later ≡ true) ⊎ (earlier ≡ true)
  one_first true b later earlier rest e f h = absurd (true≢false e)
  one_first false true true earlier rest e f h = inl refl
  one_first false true false true rest e f h = inr refl
  one_first false true false false rest e f h = inl h
  one_first false false later earlier rest e f h = absurd (true≢false (sym f))

  -- no two trains hold one section
  pub holds_apart : is_executable d routes plan ≡ true → (k : ℕ) (t u : TrainNo) (z : SectionNo) → is_train t u ≡ false → holds d routes plan k t z ≡ true → holds d routes plan k u z ≡ true → ⊥
  holds_apart can k t u z differ h j = clash (holder k t z h) (holder k u z j)
    where
      clash : Holder k t z → Holder k u z → ⊥
      clash a b = go (one_first _ _ _ _ _ apart_trains shares stand)
        where
          apart_trains : is_train a.command.train b.command.train ≡ false
          apart_trains = trains_apart a.command.train b.command.train t u a.train b.train differ

          apart_back : is_train b.command.train a.command.train ≡ false
          apart_back = trains_apart b.command.train a.command.train u t b.train a.train (is_train_sym t u differ)

          shares : share (route_at routes a.command.route) (route_at routes b.command.route) ≡ true
          shares = sharing (route_at routes a.command.route) (route_at routes b.command.route) z a.section b.section

          stand : may_stand d routes plan a.command b.command ≡ true
          stand = list_all_at _ (commands plan) b.command (list_all_at _ (commands plan) a.command can a.member) b.member

          go : (nat_lt (step_of plan b.command) (step_of plan a.command) ≡ true) ⊎ (nat_lt (step_of plan a.command) (step_of plan b.command) ≡ true) → ⊥
          go (inl later) = no_order k u t z b a (and_both _ _ (and_both _ _ (ap not apart_back) (sharing (route_at routes b.command.route) (route_at routes a.command.route) z b.section a.section)) later)
          go (inr earlier) = no_order k t u z a b (and_both _ _ (and_both _ _ (ap not apart_trains) shares) earlier)
