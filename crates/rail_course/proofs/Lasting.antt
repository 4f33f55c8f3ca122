-- An event had come to a train so many of its ticks ago where its clock has gone so far since.
use Rattle.std.proofs.Common.{◌≡◌, ℕ, zero, suc, ◌+◌, ◌-◌, ◌≤◌, ◌<◌, ◌⊎◌, inl, inr, Bool, true, false, if◌then◌else◌, nat_le, List, [], ◌∷◌, length, Option, None, Some, option_map, refl, sym, ap, subst, ◌∙◌, arith, leb-true, le-leb}
use Rattle.rail_base.specs.declared.station.Station.{Station}
use Rattle.rail_base.specs.declared.station.TrainNo.{TrainNo}
use Rattle.rail_base.specs.declared.route.Route.{Route}
use Rattle.rail_base.specs.declared.state.Event.{Event}
use Rattle.rail_base.specs.declared.state.TrainState.{TrainState}
use Rattle.rail_base.specs.Events.{has_happened}
use Rattle.rail_base.specs.Numbering.{least, or_this}
use Rattle.rail_base.proofs.Members.{and_left, below_or_not, false_unless, same_bool}
use Rattle.rail_spec.specs.Dispatches.{Dispatch, idle, state_of, ago, past_of, granted_after, moved, pasts_at, state_at}
use Rattle.rail_spec.specs.Visits.{happened_by}
use Rattle.rail_laws.proofs.Deciding.{IsLeast, least_gives}
use Rattle.rail_laws.proofs.Running.{Later, Moves, Idles, after_tick, state_is_last, idle_at_first, run_up_to, ago_falls, happens_on, stays}
use Rattle.rail_course.specs.Clocks.{comes_by, own_ticks, IsConcernedFirst}

-- what passes by then has its least number before
pub none_passes : (test : ℕ → Bool) (n : ℕ) → least test n ≡ None → (i : ℕ) → 1 ≤ i → i ≤ n → test i ≡ true → ⊥
none_passes test zero e i low high h = absurd (omega arith)
none_passes test (suc n) e i low high h = go (least test n) refl (test (suc n)) refl e (none_passes test n)
  where
    go : (o : Option ℕ) → least test n ≡ o → (b : Bool) → test (suc n) ≡ b → or_this o b (suc n) ≡ None → (least test n ≡ None → (i : ℕ) → 1 ≤ i → i ≤ n → test i ≡ true → ⊥) → ⊥
    go (Some a) eo b eb none before = cc
    go None eo true eb none before = cc
    go None eo false eb none before = cases (below_or_not i (suc n))
      where
        cases : (i < suc n) ⊎ (suc n ≤ i) → ⊥
        cases (inl less) = before eo i low (omega arith) h
        cases (inr last) = let same : i ≡ suc n = omega arith in let passes : test (suc n) ≡ true = subst (λ m. test m ≡ true) same h in cc

pub least_before : (test : ℕ → Bool) (n a i : ℕ) → least test n ≡ Some a → 1 ≤ i → i ≤ n → test i ≡ true → a ≤ i
least_before test zero a i e low high h = absurd (omega arith)
least_before test (suc n) a i e low high h = go (least test n) refl (test (suc n)) refl e (below_or_not i (suc n)) (λ found l. least_before test n a i found low l h)
  where
    go : (o : Option ℕ) → least test n ≡ o → (b : Bool) → test (suc n) ≡ b → or_this o b (suc n) ≡ Some a → (i < suc n) ⊎ (suc n ≤ i) → (least test n ≡ Some a → i ≤ n → a ≤ i) → a ≤ i
    go (Some k) eo b eb is (inl less) before = before (eo ∙ is) (omega arith)
    go (Some k) eo b eb is (inr last) before = let l = (least_gives test n a (eo ∙ is)).last in omega arith
    go None eo b eb is (inl less) before = absurd (none_passes test n eo i low (omega arith) h)
    go None eo true eb is (inr last) before = let same : suc n ≡ a = cc in omega arith
    go None eo false eb is (inr last) before = cc

-- ---- clocks

module _ (p : Dispatch) (t : TrainNo) where
  pub clock_within : (k : ℕ) → own_ticks p k t ≤ k
  clock_within zero = omega arith
  clock_within (suc k) = go (p.concerns (suc k) t) (clock_within k)
    where
      go : (b : Bool) → own_ticks p k t ≤ k → (if b then suc (own_ticks p k t) else own_ticks p k t) ≤ suc k
      go true h = omega arith
      go false h = omega arith

  -- where every tick up to k concerns the train, its clock is k
  pub clock_runs : (k : ℕ) → ((i : ℕ) → 1 ≤ i → i ≤ k → p.concerns i t ≡ true) → own_ticks p k t ≡ k
  clock_runs zero h = refl
  clock_runs (suc k) h = ap (λ b. if b then suc (own_ticks p k t) else own_ticks p k t) (h (suc k) (omega arith) (omega arith)) ∙ ap suc (clock_runs k (λ i low high. h i low (omega arith)))

  -- where none of the ticks after k and up to k + n does, it stands still
  pub clock_stops : (k n : ℕ) → ((i : ℕ) → k < i → i ≤ k + n → p.concerns i t ≡ false) → own_ticks p (k + n) t ≡ own_ticks p k t
  clock_stops k zero h = let z : k + 0 ≡ k = omega arith in ap (λ m. own_ticks p m t) z
  clock_stops k (suc n) h =
      let z : k + suc n ≡ suc (k + n) = omega arith in
      ap (λ m. own_ticks p m t) z ∙ ap (λ b. if b then suc (own_ticks p (k + n) t) else own_ticks p (k + n) t) (h (suc (k + n)) (omega arith) (omega arith))
      ∙ clock_stops k n (λ i low high. h i low (omega arith))

  -- it never goes back
  pub clock_on : (k n : ℕ) → own_ticks p k t ≤ own_ticks p (k + n) t
  clock_on k zero = let z : k + 0 ≡ k = omega arith in subst (λ m. own_ticks p k t ≤ own_ticks p m t) (sym z) (omega arith)
  clock_on k (suc n) = let z : k + suc n ≡ suc (k + n) = omega arith in subst (λ m. own_ticks p k t ≤ own_ticks p m t) (sym z) (go (p.concerns (suc (k + n)) t) (clock_on k n))
    where
      go : (b : Bool) → own_ticks p k t ≤ own_ticks p (k + n) t → own_ticks p k t ≤ (if b then suc (own_ticks p (k + n) t) else own_ticks p (k + n) t)
      go true h = omega arith
      go false h = h

-- ---- so many of its ticks ago

module _ (d : Station) (routes : List Route) (p : Dispatch) (t : TrainNo) where
  abbrev clock : ℕ → ℕ
  clock k = own_ticks p k t

  abbrev past : ℕ → List TrainState
  past k = past_of (pasts_at d routes p k) t

  abbrev state : ℕ → TrainState
  state k = state_of (state_at d routes p k) t

  -- the state so many of its ticks ago is that of a tick at which its clock was so far back
  pub record Back (k n : ℕ) : Type 0 where
    pub tick : ℕ
    pub within : tick ≤ k
    pub clock_then : clock tick ≡ clock k - n
    pub is : ago n (past k) ≡ state tick

  -- who is no train of the design is idle
  stays_idle : (1 ≤ t.0 → length d.trains < t.0) → (k : ℕ) → state k ≡ idle
  stays_idle out zero = idle_at_first d routes p t
  stays_idle out (suc k) = go (after_tick d routes p k t)
    where
      go : Moves d routes p k t ⊎ Idles d routes p k t → state (suc k) ≡ idle
      go (inl m) = let low = m.first in let high = m.last in let far = out low in absurd (omega arith)
      go (inr i) = i.new

  same_clock : (k : ℕ) (b : Bool) → p.concerns (suc k) t ≡ b → clock (suc k) ≡ (if b then suc (clock k) else clock k)
  same_clock k b e = ap (λ c. if c then suc (clock k) else clock k) e

  -- who is no train was idle at each tick: at one of them its clock was so far back
  idle_back : (j : ℕ) → (1 ≤ t.0 → length d.trains < t.0) → (n : ℕ) → n ≤ clock j → past j ≡ [] → Back j n
  idle_back zero out n l e = let z : n ≡ 0 = omega arith in record { tick = 0; within = omega arith; clock_then = omega arith; is = ap (ago n) e ∙ sym (stays_idle out 0) }
  idle_back (suc j) out n l e = at (p.concerns (suc j) t) refl n l (after_tick d routes p j t) (λ m less none. idle_back j out m less none)
    where
      at : (b : Bool) → p.concerns (suc j) t ≡ b → (n : ℕ) → n ≤ clock (suc j) → Moves d routes p j t ⊎ Idles d routes p j t → ((m : ℕ) → m ≤ clock j → past j ≡ [] → Back j m) → Back (suc j) n
      at b f n l (inl m) earlier = let low = m.first in let high = m.last in let far = out low in absurd (omega arith)
      at true f zero l (inr i) earlier = record { tick = suc j; within = omega arith; clock_then = omega arith; is = ap (ago 0) e ∙ sym (stays_idle out (suc j)) }
      at true f (suc n) l (inr i) earlier =
          let c = same_clock j true f in
          let b = earlier n (omega arith) i.old_past in
          record { tick = b.tick; within = (let w = b.within in omega arith); clock_then = (let w = b.clock_then in omega arith); is = ap (ago (suc n)) e ∙ sym (stays_idle out b.tick) }
      at false f n l (inr i) earlier =
          let c = same_clock j false f in
          let b = earlier n (omega arith) i.old_past in
          record { tick = b.tick; within = (let w = b.within in omega arith); clock_then = (let w = b.clock_then in omega arith); is = ap (ago n) e ∙ sym (stays_idle out b.tick) }

  pub back : (k n : ℕ) → n ≤ clock k → Back k n
  back zero zero h = record { tick = 0; within = omega arith; clock_then = omega arith; is = sym (state_is_last d routes p (pasts_at d routes p zero) t) }
  back zero (suc n) h = absurd (omega arith)
  back (suc k) n h = go (p.concerns (suc k) t) refl n h (after_tick d routes p k t) (λ m l. back k m l)
    where
      new : TrainState
      new = moved d routes p t (state k) (granted_after d routes p (pasts_at d routes p k) t)

      later : (m n : ℕ) → clock (suc k) - n ≡ clock k - m → ago n (past (suc k)) ≡ ago m (past k) → Back k m → Back (suc k) n
      later m n ticks same b = record { tick = b.tick; within = (let w = b.within in omega arith); clock_then = b.clock_then ∙ sym ticks; is = same ∙ b.is }

      go : (b : Bool) → p.concerns (suc k) t ≡ b → (n : ℕ) → n ≤ clock (suc k) → Moves d routes p k t ⊎ Idles d routes p k t → ((m : ℕ) → m ≤ clock k → Back k m) → Back (suc k) n
      go b e n l (inr i) earlier = idle_back (suc k) i.out n l i.new_past
      go true e zero l (inl m) earlier = record { tick = suc k; within = omega arith; clock_then = omega arith; is = sym (state_is_last d routes p (pasts_at d routes p (suc k)) t) }
      go true e (suc n) l (inl m) earlier =
          let c = same_clock k true e in
          later n (suc n) (omega arith) (ap (ago (suc n)) (m.past_by_rule ∙ ap (λ b. if b then new ∷ past k else past k) e)) (earlier n (omega arith))
      go false e n l (inl m) earlier =
          let c = same_clock k false e in
          later n n (omega arith) (ap (ago n) (m.past_by_rule ∙ ap (λ b. if b then new ∷ past k else past k) e)) (earlier n (omega arith))

  pub falls_by : (k n m : ℕ) → Later d routes p (ago (n + m) (past k)) (ago n (past k))
  falls_by k n zero = let z : n ≡ n + 0 = omega arith in subst (λ i. Later d routes p (ago i (past k)) (ago n (past k))) z (record { granted = omega arith; x = omega arith })
  falls_by k n (suc m) =
      let z : suc (n + m) ≡ n + suc m = omega arith in
      let a = ago_falls d routes p k (n + m) t in
      let b = falls_by k n m in
      subst (λ i. Later d routes p (ago i (past k)) (ago n (past k))) z (record { granted = (let g = a.granted in let h = b.granted in omega arith); x = (let g = a.x in let h = b.x in omega arith) })

  pub falls_all : (k m : ℕ) → Later d routes p (ago m (past k)) (ago 0 (past k))
  falls_all k m = let z : 0 + m ≡ m = omega arith in subst (λ i. Later d routes p (ago i (past k)) (ago 0 (past k))) z (falls_by k 0 m)

  module _ (e : Event) (some : 1 ≤ e.granted) where
    abbrev happened : ℕ → Bool
    happened k = happened_by d routes p t e k

    not_idle : has_happened idle e ≡ true → ⊥
    not_idle h = let l = leb-true e.granted 0 (and_left (nat_le e.granted 0) (nat_le e.place 0) h) in absurd (omega arith)

    pub not_at_first : happened 0 ≡ true → ⊥
    not_at_first h = not_idle (subst (λ s. has_happened s e ≡ true) (idle_at_first d routes p t) h)

    pub stays_so : (i k : ℕ) → i ≤ k → happened i ≡ true → happened k ≡ true
    stays_so i k l h = happens_on d routes p (state i) (state k) e (run_up_to d routes p i k t l) h

    -- the tick at which it happens is one of the train's own
    pub happens_at_own : (k a : ℕ) → least happened k ≡ Some a → (j : ℕ) → a ≡ suc j → p.concerns (suc j) t ≡ true
    happens_at_own k a there j is = go (p.concerns (suc j) t) refl
      where
        found : IsLeast happened k a
        found = least_gives happened k a there

        no_sooner : happened j ≡ true → (0 < j) ⊎ (j ≤ 0) → ⊥
        no_sooner h (inl low) = let l = found.last in let f = least_before happened k a j there low (omega arith) h in absurd (omega arith)
        no_sooner h (inr none) = let z : j ≡ 0 = omega arith in not_at_first (subst (λ i. happened i ≡ true) z h)

        go : (b : Bool) → p.concerns (suc j) t ≡ b → p.concerns (suc j) t ≡ true
        go true f = f
        go false f = absurd (no_sooner (subst (λ s. has_happened s e ≡ true) (stays d routes p j t f) (subst (λ i. happened i ≡ true) is found.passes)) (below_or_not 0 j))

    -- so its clock is further then than at any tick before
    clock_rises : (k a : ℕ) → least happened k ≡ Some a → (i : ℕ) → i < a → clock i < clock a
    clock_rises k a there i less = go a refl
      where
        go : (b : ℕ) → a ≡ b → clock i < clock a
        go zero e = absurd (omega arith)
        go (suc j) e =
            let c = same_clock j true (happens_at_own k a there j e) in
            let same = ap clock e in
            let on = subst (λ m. clock i ≤ clock m) (let z : i + (j - i) ≡ j = omega arith in z) (clock_on p t i (j - i)) in
            omega arith

    by_clock : (k n : ℕ) → Back k n → n ≤ clock k → (o : Option ℕ) → least happened k ≡ o → has_happened (ago n (past k)) e ≡ comes_by (option_map clock o) n (clock k)
    by_clock k n b l None none = false_unless (has_happened (ago n (past k)) e) (λ h. go (subst (λ s. has_happened s e ≡ true) b.is h) (below_or_not 0 b.tick))
      where
        go : happened b.tick ≡ true → (0 < b.tick) ⊎ (b.tick ≤ 0) → ⊥
        go h (inl low) = none_passes happened k none b.tick low b.within h
        go h (inr none_before) = let z : b.tick ≡ 0 = omega arith in not_at_first (subst (λ i. happened i ≡ true) z h)
    by_clock k n b l (Some a) there =
        same_bool (has_happened (ago n (past k)) e) (nat_le (clock a + n) (clock k)) (λ h. le-leb (clock a + n) (clock k) (come (subst (λ s. has_happened s e ≡ true) b.is h) (below_or_not 0 b.tick))) (λ h. subst (λ s. has_happened s e ≡ true) (sym b.is) (so h (below_or_not b.tick a)))
      where
        come : happened b.tick ≡ true → (0 < b.tick) ⊎ (b.tick ≤ 0) → clock a + n ≤ clock k
        come h (inl low) =
            let first = least_before happened k a b.tick there low b.within h in
            let on = subst (λ m. clock a ≤ clock m) (let z : a + (b.tick - a) ≡ b.tick = omega arith in z) (clock_on p t a (b.tick - a)) in
            let c = b.clock_then in
            omega arith
        come h (inr none_before) = let z : b.tick ≡ 0 = omega arith in absurd (not_at_first (subst (λ i. happened i ≡ true) z h))

        so : nat_le (clock a + n) (clock k) ≡ true → (b.tick < a) ⊎ (a ≤ b.tick) → happened b.tick ≡ true
        so h (inl sooner) = let q = leb-true (clock a + n) (clock k) h in let r = clock_rises k a there b.tick sooner in let c = b.clock_then in absurd (omega arith)
        so h (inr later) = stays_so a b.tick later (least_gives happened k a there).passes

    before_all : (n c : ℕ) → c < n → (o : Option ℕ) → comes_by o n c ≡ false
    before_all n c l None = refl
    before_all n c l (Some a) = false_unless (nat_le (a + n) c) (λ h. let q = leb-true (a + n) c h in absurd (omega arith))

    -- it had happened so many ticks ago where its clock has gone so far since
    pub happened_ago : (k n : ℕ) → has_happened (ago n (past k)) e ≡ comes_by (option_map clock (least happened k)) n (clock k)
    happened_ago k n = go (below_or_not (clock k) n)
      where
        go : (clock k < n) ⊎ (n ≤ clock k) → has_happened (ago n (past k)) e ≡ comes_by (option_map clock (least happened k)) n (clock k)
        go (inr within) = by_clock k n (back k n within) within (least happened k) refl
        go (inl far) =
            let z : clock k + (n - clock k) ≡ n = omega arith in
            let start = back k (clock k) (omega arith) in
            false_unless (has_happened (ago n (past k)) e)
            (λ h. not_early start (happens_on d routes p (ago n (past k)) (ago (clock k) (past k)) e (subst (λ i. Later d routes p (ago i (past k)) (ago (clock k) (past k))) z (falls_by k (clock k) (n - clock k))) h))
            ∙ sym (before_all n (clock k) far (option_map clock (least happened k)))
          where
            not_early : Back k (clock k) → has_happened (ago (clock k) (past k)) e ≡ true → ⊥
            not_early b h = at (least happened b.tick) refl (below_or_not 0 b.tick)
              where
                now_so : happened b.tick ≡ true
                now_so = subst (λ s. has_happened s e ≡ true) b.is h

                at : (o : Option ℕ) → least happened b.tick ≡ o → (0 < b.tick) ⊎ (b.tick ≤ 0) → ⊥
                at o f (inr none_before) = let z : b.tick ≡ 0 = omega arith in not_at_first (subst (λ i. happened i ≡ true) z now_so)
                at None f (inl low) = none_passes happened b.tick f b.tick low (omega arith) now_so
                at (Some a) f (inl low) =
                    let found = least_gives happened b.tick a f in
                    let first = found.first in
                    let last = found.last in
                    let r = clock_rises b.tick a f 0 (omega arith) in
                    let on = subst (λ m. clock a ≤ clock m) (let z : a + (b.tick - a) ≡ b.tick = omega arith in z) (clock_on p t a (b.tick - a)) in
                    let c = b.clock_then in
                    absurd (omega arith)

    -- where the first ticks are the train's own, its clock shows the tick of what happens to it
    pub happened_at_clock : IsConcernedFirst p t → (k : ℕ) → option_map clock (least happened k) ≡ least happened k
    happened_at_clock first k = go (least happened k) refl
      where
        clock_is : (j : ℕ) → p.concerns (suc j) t ≡ true → clock j ≡ j
        clock_is zero h = refl
        clock_is (suc j) h = let before = first (suc j) (omega arith) h in same_clock j true before ∙ ap suc (clock_is j before)

        at : (a : ℕ) → least happened k ≡ Some a → (b : ℕ) → a ≡ b → Some (clock a) ≡ Some a
        at a there zero e = let l = (least_gives happened k a there).first in absurd (omega arith)
        at a there (suc j) e =
            let own = happens_at_own k a there j e in
            ap Some (ap clock e ∙ same_clock j true own ∙ ap suc (clock_is j own) ∙ sym e)

        go : (o : Option ℕ) → least happened k ≡ o → option_map clock o ≡ o
        go None f = refl
        go (Some a) f = at a f a refl
