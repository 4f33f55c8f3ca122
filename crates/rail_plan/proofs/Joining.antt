-- The commands of a step that can join the step before it do so, step by step.
use Rattle.std.proofs.Common.{◌≡◌, ℕ, suc, ◌+◌, ◌≤◌, ◌<◌, ◌⊎◌, inl, inr, Bool, true, false, not, ◌&&◌, if◌then◌else◌, Option, Some, None, List, [], ◌∷◌, ◌++◌, length, drop, get_or, refl, sym, ap, subst, ◌∙◌, arith, true≢false}
use Rattle.std.specs.Prelude.{is_none, is_some, MatchOption}
use Rattle.std.proofs.lemmas.List.{append_assoc, append-nil, drop_more}
use Rattle.std.proofs.lemmas.List.Concat.{flat_map-append}
use Rattle.rail_base.specs.declared.station.Station.{Station}
use Rattle.rail_base.specs.declared.station.SectionNo.{SectionNo}
use Rattle.rail_base.specs.declared.route.Route.{Route}
use Rattle.rail_base.specs.declared.plan.Command.{Command}
use Rattle.rail_base.specs.Members.{In}
use Rattle.rail_spec.specs.Plans.{commands, one_each, step_of}
use Rattle.rail_spec.specs.Feasible.{IsRunnable}
use Rattle.rail_plan.specs.declared.holds.Hold.{Hold}
use Rattle.rail_plan.specs.Holds.{hold_at, turned, AreHolds}
use Rattle.rail_plan.specs.Named.{HaveRoutes, HaveTrains}
use Rattle.rail_plan.specs.Normal.{is_held, IsNormal}
use Rattle.rail_plan.specs.Earlier.{can_join, delay, joined, left_over, IsAsGood}
use Rattle.rail_base.proofs.Members.{list_all_at}
use Rattle.rail_base.proofs.Lists.{in_append, in_append_right}
use Rattle.rail_plan.proofs.Free.{IsFree, free_back, free_of_plan, stopped_of_free}
use Rattle.rail_plan.proofs.Held.{held_outside, joins_free, joins_own}
use Rattle.rail_plan.proofs.Moved.{moved_delay, moved_is_as_good}
use Rattle.rail_plan.proofs.Named.{all_have_routes, all_have_trains, all_in}
use Rattle.rail_plan.proofs.Steps.{step_is}
use Rattle.rail_plan.proofs.Taking.{holds_more}
use Rattle.rail_plan.proofs.Trimmed.{as_good_both, as_good_itself}
use Rattle.rail_plan.proofs.WellFormed.{one_each_of, paths_of_formed}

-- ---- what the steps of a plan name is there

module _ (d : Station) (routes : List Route) (n : ℕ) (plan : List (List Command)) (runs : IsRunnable d routes n plan) (step : List Command) (m : In step plan) where
  pub step_has_routes : HaveRoutes routes step
  step_has_routes = all_in (HaveRoutes routes) plan step (all_have_routes d routes plan runs.well_formed.named) m

  pub step_has_trains : HaveTrains d step
  step_has_trains = all_in (HaveTrains d) plan step (all_have_trains d routes plan runs.well_formed.named) m

-- ---- one step

-- how the two tests of a command that is to join are told
pub joins_where : {X : Type 0} (own : Bool) (kept first : Option X) (none : Bool) → own ≡ false → kept ≡ first → is_some kept ≡ not none → none ≡ (not own && is_none first)
joins_where {X} own kept first none e f h = go first none (ap is_some (sym f) ∙ h) ∙ ap (λ b. not b && is_none first) (sym e)
  where
    go : (o : Option X) (r : Bool) → is_some o ≡ not r → r ≡ is_none o
    go None true k = refl
    go None false k = absurd (true≢false (sym k))
    go (Some x) true k = absurd (true≢false k)
    go (Some x) false k = refl

module _ (routes : List Route) (holds : List Hold) where
  left_few : (step last : List Command) → length (left_over routes holds last step) ≤ length step
  left_few [] last = omega arith
  left_few (c ∷ cs) last = go (can_join routes holds last c) (left_few cs (last ++ c ∷ [])) (left_few cs last)
    where
      go : (b : Bool) → length (left_over routes holds (last ++ c ∷ []) cs) ≤ length cs → length (left_over routes holds last cs) ≤ length cs → length (if b then left_over routes holds (last ++ c ∷ []) cs else c ∷ left_over routes holds last cs) ≤ suc (length cs)
      go true h k = omega arith
      go false h k = omega arith

  abbrev Stays : List Command → List Command → List Command → List Command → Type 0
  Stays step last new left = (new ≡ last) × (left ≡ step) × ((g : Command) → In g step → can_join routes holds last g ≡ false)

  -- where as many are left as there were, none joined
  pub stays : (step last : List Command) → length step ≤ length (left_over routes holds last step) → Stays step last (joined routes holds last step) (left_over routes holds last step)
  stays [] last h = (refl, refl, λ g m. absurd m)
  stays (c ∷ cs) last h = go (can_join routes holds last c) refl h (left_few cs (last ++ c ∷ [])) (stays cs last)
    where
      go : (b : Bool) → can_join routes holds last c ≡ b → suc (length cs) ≤ length (if b then left_over routes holds (last ++ c ∷ []) cs else c ∷ left_over routes holds last cs) → length (left_over routes holds (last ++ c ∷ []) cs) ≤ length cs
          → (length cs ≤ length (left_over routes holds last cs) → Stays cs last (joined routes holds last cs) (left_over routes holds last cs))
          → Stays (c ∷ cs) last (if b then joined routes holds (last ++ c ∷ []) cs else joined routes holds last cs) (if b then left_over routes holds (last ++ c ∷ []) cs else c ∷ left_over routes holds last cs)
      go true e k few rest = absurd (omega arith)
      go false e k few rest = on (rest (omega arith))
        where
          on : Stays cs last (joined routes holds last cs) (left_over routes holds last cs) → Stays (c ∷ cs) last (joined routes holds last cs) (c ∷ left_over routes holds last cs)
          on (a, b, none) = (a, ap (λ xs. c ∷ xs) b, each)
            where
              each : (g : Command) → In g (c ∷ cs) → can_join routes holds last g ≡ false
              each g (inl same) = ap (can_join routes holds last) (sym same) ∙ e
              each g (inr m) = none g m

module _ (d : Station) (routes : List Route) (before after : List (List Command)) (holds : List Hold) (are : AreHolds d routes before holds) (n : ℕ) where
  -- the plan with these two steps is as good, and its delay falls by as many as joined
  abbrev Joins : List Command → List Command → List Command → List Command → ℕ → ℕ → Type 0
  Joins last next new left many fewer = IsAsGood d routes (before ++ last ∷ next ∷ after) (before ++ new ∷ left ∷ after) × (delay (before ++ new ∷ left ∷ after) + many ≡ delay (before ++ last ∷ next ∷ after) + fewer)

  joins_behind : (step last front : List Command) → IsRunnable d routes n (before ++ last ∷ (front ++ step) ∷ after)
      → Joins last (front ++ step) (joined routes holds last step) (front ++ left_over routes holds last step) (length step) (length (left_over routes holds last step))
  joins_behind [] last front r = (as_good_itself d routes (before ++ last ∷ (front ++ []) ∷ after), refl)
  joins_behind (c ∷ cs) last front r = go (can_join routes holds last c) refl (joins_behind cs (last ++ c ∷ []) front) (joins_behind cs last (front ++ c ∷ []))
    where
      moves : can_join routes holds last c ≡ true → IsAsGood d routes (before ++ last ∷ (front ++ c ∷ cs) ∷ after) (before ++ (last ++ c ∷ []) ∷ (front ++ cs) ∷ after)
      moves e = moved_is_as_good before last front cs c after d routes n r (joins_own d routes before last holds are c e) (joins_free d routes before last holds are c e)

      go : (b : Bool) → can_join routes holds last c ≡ b
          → (IsRunnable d routes n (before ++ (last ++ c ∷ []) ∷ (front ++ cs) ∷ after) → Joins (last ++ c ∷ []) (front ++ cs) (joined routes holds (last ++ c ∷ []) cs) (front ++ left_over routes holds (last ++ c ∷ []) cs) (length cs) (length (left_over routes holds (last ++ c ∷ []) cs)))
          → (IsRunnable d routes n (before ++ last ∷ ((front ++ c ∷ []) ++ cs) ∷ after) → Joins last ((front ++ c ∷ []) ++ cs) (joined routes holds last cs) ((front ++ c ∷ []) ++ left_over routes holds last cs) (length cs) (length (left_over routes holds last cs)))
          → Joins last (front ++ c ∷ cs) (if b then joined routes holds (last ++ c ∷ []) cs else joined routes holds last cs) (front ++ (if b then left_over routes holds (last ++ c ∷ []) cs else c ∷ left_over routes holds last cs))
          (suc (length cs)) (length (if b then left_over routes holds (last ++ c ∷ []) cs else c ∷ left_over routes holds last cs))
      go true e one two = on (one ((moves e).runnable n r))
        where
          on : Joins (last ++ c ∷ []) (front ++ cs) (joined routes holds (last ++ c ∷ []) cs) (front ++ left_over routes holds (last ++ c ∷ []) cs) (length cs) (length (left_over routes holds (last ++ c ∷ []) cs))
              → Joins last (front ++ c ∷ cs) (joined routes holds (last ++ c ∷ []) cs) (front ++ left_over routes holds (last ++ c ∷ []) cs) (suc (length cs)) (length (left_over routes holds (last ++ c ∷ []) cs))
          on (good, less) = (
            as_good_both d routes (before ++ last ∷ (front ++ c ∷ cs) ∷ after) (before ++ (last ++ c ∷ []) ∷ (front ++ cs) ∷ after) (before ++ joined routes holds (last ++ c ∷ []) cs ∷ (front ++ left_over routes holds (last ++ c ∷ []) cs) ∷ after) (moves e) good,
            let one_less = moved_delay before last front cs c after in omega arith,
          )
      go false e one two = on (two (subst (λ s. IsRunnable d routes n (before ++ last ∷ s ∷ after)) (sym (append_assoc front (c ∷ []) cs)) r))
        where
          more : Joins last (front ++ c ∷ cs) (joined routes holds last cs) (front ++ c ∷ left_over routes holds last cs) (length cs) (length (left_over routes holds last cs))
              → Joins last (front ++ c ∷ cs) (joined routes holds last cs) (front ++ c ∷ left_over routes holds last cs) (suc (length cs)) (suc (length (left_over routes holds last cs)))
          more (good, less) = (good, omega arith)

          on : Joins last ((front ++ c ∷ []) ++ cs) (joined routes holds last cs) ((front ++ c ∷ []) ++ left_over routes holds last cs) (length cs) (length (left_over routes holds last cs))
              → Joins last (front ++ c ∷ cs) (joined routes holds last cs) (front ++ c ∷ left_over routes holds last cs) (suc (length cs)) (suc (length (left_over routes holds last cs)))
          on all = more (subst (λ s. Joins last (front ++ c ∷ cs) (joined routes holds last cs) s (length cs) (length (left_over routes holds last cs))) (append_assoc front (c ∷ []) (left_over routes holds last cs))
              (subst (λ s. Joins last s (joined routes holds last cs) ((front ++ c ∷ []) ++ left_over routes holds last cs) (length cs) (length (left_over routes holds last cs))) (append_assoc front (c ∷ []) cs) all))

  pub joins : (step last : List Command) → IsRunnable d routes n (before ++ last ∷ step ∷ after) → Joins last step (joined routes holds last step) (left_over routes holds last step) (length step) (length (left_over routes holds last step))
  joins step last r = joins_behind step last [] r

-- ---- a round over the steps

-- the plan so far, of which these steps are done, the last of them can still be joined and the rest is to be done
pub record Round (d : Station) (routes : List Route) (plan done : List (List Command)) (last : List Command) (rest : List (List Command)) (holds : List Hold) (is_moved : Bool) : Type 0 where
  pub good : IsAsGood d routes plan (done ++ last ∷ rest)
  pub are : AreHolds d routes done holds
  pub no_later : delay (done ++ last ∷ rest) ≤ delay plan
  pub sooner : is_moved ≡ true → delay (done ++ last ∷ rest) < delay plan
  pub still : is_moved ≡ false → done ++ last ∷ rest ≡ plan
  pub held : is_moved ≡ false → (c : Command) → In c (commands (done ++ last ∷ [])) → 2 ≤ step_of plan c → is_held d routes plan c ≡ true

module _ (d : Station) (routes : List Route) (n : ℕ) (plan : List (List Command)) (runs : IsRunnable d routes n plan) where
  pub round_start : (first : List Command) (others : List (List Command)) (holds : List Hold) → plan ≡ first ∷ others → AreHolds d routes [] holds → Round d routes plan [] first others holds false
  round_start first others holds split are = record {
    good = subst (IsAsGood d routes plan) split (as_good_itself d routes plan);
    are = are;
    no_later = let same = ap delay split in omega arith;
    sooner = λ e. absurd (true≢false (sym e));
    still = λ e. sym split;
    held = λ e c m l. early c l (subst (In c) (append-nil first) m);
  }
    where
      early : (c : Command) → 2 ≤ step_of plan c → In c first → is_held d routes plan c ≡ true
      early c l m = let number = step_is d routes plan runs.well_formed.named (paths_of_formed d routes plan n runs.well_formed.formed) [] first others c split m in absurd (omega arith)

  module _ (done : List (List Command)) (last step : List Command) (rest : List (List Command)) (holds : List Hold) (is_moved : Bool) (round : Round d routes plan done last (step ∷ rest) holds is_moved) where
    runs_now : IsRunnable d routes n (done ++ last ∷ step ∷ rest)
    runs_now = round.good.runnable n runs

    pub last_has_routes : HaveRoutes routes last
    last_has_routes = step_has_routes d routes n (done ++ last ∷ step ∷ rest) runs_now last (in_append_right last done (last ∷ step ∷ rest) (inl refl))

    pub next_has_routes : HaveRoutes routes step
    next_has_routes = step_has_routes d routes n (done ++ last ∷ step ∷ rest) runs_now step (in_append_right step done (last ∷ step ∷ rest) (inr (inl refl)))

    module _ (new left : List Command) (new_is : new ≡ joined routes holds last step) (left_is : left ≡ left_over routes holds last step) where
      all : Joins d routes done rest holds round.are n last step new left (length step) (length left)
      all = subst (λ x. Joins d routes done rest holds round.are n last step new x (length step) (length x)) (sym left_is)
          (subst (λ x. Joins d routes done rest holds round.are n last step x (left_over routes holds last step) (length step) (length (left_over routes holds last step))) (sym new_is)
          (joins d routes done rest holds round.are n step last runs_now))

      good_next : IsAsGood d routes plan (done ++ new ∷ left ∷ rest)
      good_next = as_good_both d routes plan (done ++ last ∷ step ∷ rest) (done ++ new ∷ left ∷ rest) round.good all.0

      runs_next : IsRunnable d routes n (done ++ new ∷ left ∷ rest)
      runs_next = good_next.runnable n runs

      in_new : In new (done ++ new ∷ left ∷ rest)
      in_new = in_append_right new done (new ∷ left ∷ rest) (inl refl)

      pub new_has_routes : HaveRoutes routes new
      new_has_routes = step_has_routes d routes n (done ++ new ∷ left ∷ rest) runs_next new in_new

      pub new_has_trains : HaveTrains d new
      new_has_trains = step_has_trains d routes n (done ++ new ∷ left ∷ rest) runs_next new in_new

      -- the holds after the step
      holds_next : (new_holds : List Hold) → length new_holds ≡ length holds → ((z : SectionNo) → hold_at new_holds z ≡ turned d routes z new (hold_at holds z)) → AreHolds d routes (done ++ new ∷ []) new_holds
      holds_next new_holds many turns = holds_more d routes done new new_has_trains one (stopped_of_free d routes done new free) holds new_holds round.are many turns
        where
          one : one_each new ≡ true
          one = list_all_at one_each (done ++ new ∷ left ∷ rest) new (one_each_of d routes (done ++ new ∷ left ∷ rest) n runs_next.well_formed.formed) in_new

          free : IsFree d routes done new
          free = (free_back d routes [] done (new ∷ left ∷ rest)
              (free_of_plan d routes (done ++ new ∷ left ∷ rest) runs_next.well_formed.named (paths_of_formed d routes (done ++ new ∷ left ∷ rest) n runs_next.well_formed.formed) runs_next.executable)).0

      same_plan : (done ++ new ∷ []) ++ left ∷ rest ≡ done ++ new ∷ left ∷ rest
      same_plan = append_assoc done (new ∷ []) (left ∷ rest)

      -- where as many are left as there were
      module _ (e : is_moved ≡ false) (as_many : length step ≤ length left) where
        nothing : Stays routes holds step last (joined routes holds last step) (left_over routes holds last step)
        nothing = stays routes holds step last (subst (λ x. length step ≤ length x) left_is as_many)

        still_next : (done ++ new ∷ []) ++ left ∷ rest ≡ plan
        still_next = same_plan ∙ ap (λ x. done ++ x ∷ left ∷ rest) (new_is ∙ nothing.0) ∙ ap (λ x. done ++ last ∷ x ∷ rest) (left_is ∙ nothing.1) ∙ round.still e

        held_next : (c : Command) → In c (commands ((done ++ new ∷ []) ++ left ∷ [])) → 2 ≤ step_of plan c → is_held d routes plan c ≡ true
        held_next c m l = go (in_append c (commands (done ++ new ∷ [])) (left ++ []) (subst (In c) (flat_map-append (λ (s : List Command). s) (done ++ new ∷ []) (left ∷ [])) m))
          where
            go : In c (commands (done ++ new ∷ [])) ⊎ In c (left ++ []) → is_held d routes plan c ≡ true
            go (inl k) = round.held e c (subst (λ x. In c (commands (done ++ x ∷ []))) (new_is ∙ nothing.0) k) l
            go (inr k) =
                let there : In c step = subst (In c) (append-nil left ∙ left_is ∙ nothing.1) k in
                held_outside d routes plan runs.well_formed.named (paths_of_formed d routes plan n runs.well_formed.formed) done last step rest (sym (round.still e)) c there holds round.are (nothing.2 c there)

      pub round_on : (new_holds : List Hold) (has_moved : Bool) → length new_holds ≡ length holds → ((z : SectionNo) → hold_at new_holds z ≡ turned d routes z new (hold_at holds z))
          → ((length left < length step) × (has_moved ≡ true)) ⊎ ((length step ≤ length left) × (has_moved ≡ is_moved)) → Round d routes plan (done ++ new ∷ []) left rest new_holds has_moved
      round_on new_holds has_moved many turns cases = record {
        good = subst (IsAsGood d routes plan) (sym same_plan) good_next;
        are = holds_next new_holds many turns;
        no_later = let same = ap delay same_plan in let less = all.1 in let few = few_left in let so_far = round.no_later in omega arith;
        sooner = λ e. sooner_next (when_moved cases e);
        still = λ e. let k = when_still cases e in still_next k.0 k.1;
        held = λ e. let k = when_still cases e in held_next k.0 k.1;
      }
        where
          few_left : length left ≤ length step
          few_left = subst (λ x. length x ≤ length step) (sym left_is) (left_few routes holds step last)

          when_moved : ((length left < length step) × (has_moved ≡ true)) ⊎ ((length step ≤ length left) × (has_moved ≡ is_moved)) → has_moved ≡ true → (is_moved ≡ true) ⊎ (length left < length step)
          when_moved (inl h) e = inr h.0
          when_moved (inr h) e = inl (sym h.1 ∙ e)

          when_still : ((length left < length step) × (has_moved ≡ true)) ⊎ ((length step ≤ length left) × (has_moved ≡ is_moved)) → has_moved ≡ false → (is_moved ≡ false) × (length step ≤ length left)
          when_still (inl h) e = absurd (true≢false (sym h.1 ∙ e))
          when_still (inr h) e = (sym h.1 ∙ e, h.0)

          sooner_next : (is_moved ≡ true) ⊎ (length left < length step) → delay ((done ++ new ∷ []) ++ left ∷ rest) < delay plan
          sooner_next (inl e) = let same = ap delay same_plan in let less = all.1 in let few = few_left in let so_far = round.sooner e in omega arith
          sooner_next (inr l) = let same = ap delay same_plan in let less = all.1 in let so_far = round.no_later in omega arith

-- the next step of those that are left
pub round_at : (d : Station) (routes : List Route) (plan done : List (List Command)) (last : List Command) (others : List (List Command)) (i : ℕ) (step : List Command) (holds : List Hold) (is_moved : Bool) → i < length others → step ≡ get_or others i step
    → Round d routes plan done last (drop i others) holds is_moved → Round d routes plan done last (step ∷ drop (i + 1) others) holds is_moved
round_at d routes plan done last others i step holds is_moved h here round = subst (λ rest. Round d routes plan done last rest holds is_moved) (drop_more others i step h ∙ ap (λ x. x ∷ drop (i + 1) others) (sym here)) round

-- what is told of a plan that was found
pub told_of : (d : Station) (routes : List Route) (plan earlier : List (List Command)) (o : Option (List (List Command))) → o ≡ Some earlier → MatchOption o (IsNormal d routes plan) (λ p. IsAsGood d routes plan p × (delay p < delay plan))
    → IsAsGood d routes plan earlier × (delay earlier < delay plan)
told_of d routes plan earlier o e told = subst (λ x. MatchOption x (IsNormal d routes plan) (λ p. IsAsGood d routes plan p × (delay p < delay plan))) e told
