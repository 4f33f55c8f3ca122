-- What follows of the answers to a question for less time.
use Rattle.std.proofs.Common.{◌≡◌, ℕ, ◌+◌, ◌-◌, ◌*◌, ◌<◌, ◌≤◌, ◌⊎◌, List, [], ◌∷◌, ◌++◌, map, length, Option, None, Some, Vec, Global, refl, inl, inr, sym, ap, subst, ◌∙◌, arith, length-set, mul-le-mul, le_refl}
use Rattle.bound_spec.specs.declared.Evidence.{Evidence}
use Rattle.greatest_time.specs.Times.{with_max}
use Rattle.greatest_time.proofs.Alike.{routes_alike}
use Rattle.greatest_time.proofs.Admitted.{stays_admitted}
use Rattle.greatest_time.proofs.InTime.{horizon_decides, later_time}
use Rattle.rail_base.specs.Admitted.{IsAdmitted}
use Rattle.rail_base.specs.declared.history.Verdict.{Verdict}
use Rattle.rail_base.specs.declared.plan.Command.{Command}
use Rattle.rail_base.specs.declared.plan.Plan.{Plan}
use Rattle.rail_base.specs.declared.route.Route.{Route}
use Rattle.rail_base.specs.declared.station.Station.{Station}
use Rattle.rail_base.specs.Stations.{horizon}
use Rattle.rail_base.proofs.Admitting.{admitted}
use Rattle.rail_spec.specs.Feasible.{IsFeasible, IsInfeasible}
use Rattle.rail_spec.specs.Histories.{verdict_of}
use Rattle.rail_spec.specs.Track.{routes_of}
use Rattle.verify_loop.specs.declared.asked.Asked.{Asked}
use Rattle.verify_loop.specs.declared.asked.TimeSearch.{TimeSearch}
use Rattle.verify_loop.specs.declared.outcome.Outcome.{Outcome}
use Rattle.verify_loop.specs.declared.outcome.Tried.{Tried}
use Rattle.verify_loop.specs.Lessening.{IsAsked, ShowsLast, base_station, in_ticks}
use Rattle.verify_loop.specs.Outcomes.{IsEnd, IsProof}
use Rattle.verify_loop.specs.Quests.{Quest}
use Rattle.verify_loop.specs.Tightening.{Attempt, HasNoTime, IsAttempt, IsLeast, IsLeastTime, IsPast, IsShownLeast, IsSpent, LeadTo, as_tried, asked_for, known_by, known_first, quest, quest_after, spent_by, steps_of, ticks_taken, tried_by, within_ticks}
use Rattle.verify_loop.proofs.Attempts.{last_of}
use Rattle.verify_loop.proofs.Lasts.{as_tried_last, ends, last_same, none_tried, not_none, tried_last}
use Rattle.verify_loop.proofs.Timely.{enough, none_less, shown_alike, taken_by_horizon}

abbrev pair : ℕ → List (List Command) → ℕ × List (List Command)
pair ticks plan = (ticks, plan)

module _ (t : TimeSearch) (a : Asked) (k : IsAsked t a) where
  abbrev pub d : Station
  d = a.interlocking.design.station

  abbrev pub w : ℕ
  w = t.within

  abbrev pub n : ℕ
  n = t.numbering.now.steps

  -- the design without time for the within
  abbrev pub c : Station
  c = base_station t a

  -- and with some ms for it
  pub timed_is : (ms : ℕ) → with_max c w ms ≡ with_max d w ms
  timed_is ms = later_time d w k.from_1 k.there 0 ms

  -- its design is the one that allows as many ticks as are asked for
  pub d_is : within_ticks t.base c w n a.ticks ≡ d
  d_is = timed_is (a.ticks * d.tick_ms) ∙ sym k.in_time

  pub good : IsAdmitted d
  good = admitted d a.interlocking.design.admitted

  pub there : w ≤ length c.withins
  there = subst (λ z. w ≤ z) (sym (length-set d.withins (w - 1) _)) k.there

  -- so many ticks are at most a day
  a_day : (ticks : ℕ) → ticks ≤ horizon d → ticks * d.tick_ms ≤ 86400000
  a_day ticks less =
      let most = good.ticks.1 in
      let long = good.tick.1 in
      let l : ticks * d.tick_ms ≤ 86400 * 1000 = mul-le-mul (let h : ticks ≤ 86400 = omega (arith, less, most) in h) long in
      omega (arith, l)

  pub fine : (ticks : ℕ) → ticks ≤ horizon d → IsAdmitted (within_ticks t.base c w n ticks)
  fine ticks less = subst IsAdmitted (sym (timed_is (ticks * d.tick_ms))) (stays_admitted d w k.from_1 k.there (ticks * d.tick_ms) (a_day ticks less) good)

  abbrev pub known_now : (known : List Evidence) (spent : ℕ) → IsPast t.base c w n a.tried.items a.ticks known spent → List Evidence
  known_now known spent p = known_by t.base c w n p.attempts

  -- ---- the least time

  -- a plan that is feasible with so many ticks, as a run with others that were enough shows
  module _ (plan : Plan) (x ticks : ℕ) (f : IsFeasible (within_ticks t.base c w n x) n plan.steps) (x_less : x ≤ horizon d) (takes : ticks_taken c w plan.steps ≤ ticks) (less : ticks ≤ horizon d) (v : Verdict)
      (shown : v ≡ verdict_of (within_ticks t.base c w n x) (routes_of c) plan.steps (horizon c)) where
    feasible_so : IsFeasible (within_ticks t.base c w n ticks) n plan.steps
    feasible_so = enough c w k.from_1 there n plan.steps (x * d.tick_ms) ticks f takes

    pub least_time : ((ms : ℕ) → ms < ticks * d.tick_ms → IsInfeasible (with_max c w ms) n) → IsLeastTime t.base c w n ticks plan v
    least_time none = record {
      feasible = feasible_so;
      shown = shown ∙ (shown_alike c w (x * d.tick_ms) (ticks * d.tick_ms) plan.steps n (fine x x_less) (fine ticks less) f feasible_so
          ∙ ap (λ (rs : List Route). verdict_of (within_ticks t.base c w n ticks) rs plan.steps (horizon c)) (sym (routes_alike c _)));
      none_less = none;
    }

  -- ---- where a budget is spent

  -- what is known after the attempts, where their design allows as many ticks as are asked for
  pub ends_so : (known : List Evidence) (spent : ℕ) (p : IsPast t.base c w n a.tried.items a.ticks known spent) (end : Outcome) → IsEnd (quest t.base c w n known spent) d n t.budgets end → IsEnd (quest_after t.base c w n p.attempts) (within_ticks t.base c w n a.ticks) n t.budgets end
  ends_so known spent p end h =
      subst (λ (s : Station). IsEnd (quest_after t.base c w n p.attempts) s n t.budgets end) (sym d_is)
      (subst (λ (x : ℕ). IsEnd (quest t.base c w n (known_by t.base c w n p.attempts) x) d n t.budgets end) p.spent_is
      (subst (λ (es : List Evidence). IsEnd (quest t.base c w n es spent) d n t.budgets end) p.known_is h))

  pub spent_so : (known : List Evidence) (spent : ℕ) → IsPast t.base c w n a.tried.items a.ticks known spent → (later : List Tried) (failed : List Plan) (end : Outcome) → IsEnd (quest t.base c w n known spent) d n t.budgets end
      → as_tried later ≡ as_tried a.tried.items ++ asked_for a.ticks (steps_of failed) → IsSpent t.base c w n t.budgets a.ticks later failed end
  spent_so known spent p later failed end h all = record {
    attempts = p.attempts;
    lead = p.lead;
    all = all ∙ ap (λ z. z ++ asked_for a.ticks (steps_of failed)) p.all;
    ends = ends_so known spent p end h;
  }

  -- ---- where so many ticks are too few

  module _ (known : List Evidence) (spent : ℕ) (p : IsPast t.base c w n a.tried.items a.ticks known spent) (none : IsInfeasible d n) (log : List ℕ) (proof : IsProof (quest t.base c w n known spent) d n t.budgets log) (fits : length log ≤ t.budgets.log_bytes) where
    none_here : IsInfeasible (within_ticks t.base c w n a.ticks) n
    none_here = subst (λ (s : Station). IsInfeasible s n) (sym d_is) none

    proof_of : (attempts : List Attempt) → p.attempts ≡ attempts → IsProof (quest_after t.base c w n attempts) (within_ticks t.base c w n a.ticks) n t.budgets log
    proof_of attempts is =
        subst (λ (s : Station). IsProof (quest_after t.base c w n attempts) s n t.budgets log) (sym d_is)
        (subst (λ (spent : ℕ). IsProof (quest t.base c w n (known_by t.base c w n attempts) spent) d n t.budgets log) (p.spent_is ∙ ap (spent_by t.base c w n) is)
        (subst (λ (known : List Evidence). IsProof (quest t.base c w n known spent) d n t.budgets log) (p.known_is ∙ ap (known_by t.base c w n) is) proof))

    -- none was tried before, so none is feasible with any time
    pub nothing_tried : a.tried.items ≡ [] → HasNoTime t.base c w n × IsProof (quest_after t.base c w n []) (within_ticks t.base c w n (horizon c)) n t.budgets log
    nothing_tried is =
        let empty = none_tried p.attempts (sym (ap as_tried is) ∙ p.all) in
        let all : horizon c ≡ a.ticks = subst (λ (attempts : List Attempt). LeadTo t.base c w n attempts a.ticks) empty p.lead in (
          horizon_decides c w k.from_1 there n (subst (λ (x : ℕ). IsInfeasible (within_ticks t.base c w n x) n) (sym all) none_here),
          subst (λ (x : ℕ). IsProof (quest_after t.base c w n []) (within_ticks t.base c w n x) n t.budgets log) (sym all) (proof_of [] empty),
        )

    -- the last plan that was tried takes the least time
    module _ (rest : List Tried) (last : Tried) (tried_is : a.tried.items ≡ rest ++ last ∷ []) (v : Verdict) (shows : ShowsLast t a (Some v) a.tried.items) where
      abbrev Answers : Type 0
      Answers = (a.ticks + 1 ≤ horizon d) × IsLeastTime t.base c w n (a.ticks + 1) last.plan v × IsShownLeast t.base c w n t.budgets (a.ticks + 1) last.plan.steps log

      -- it is the one that was shown
      shown_last : pair shows.1 shows.2 ≡ pair last.ticks last.plan.steps
      shown_last = last_same shows.0 (as_tried rest) (shows.1, shows.2) (last.ticks, last.plan.steps) (sym shows.3 ∙ (ap as_tried tried_is ∙ as_tried_last rest last))

      by_horizon : last.ticks ≤ horizon d
      by_horizon = subst (λ (x : ℕ). x ≤ horizon d) (ap (λ (x : ℕ × List (List Command)). x.0) shown_last) shows.4

      shown : v ≡ verdict_of (in_ticks d w last.ticks) (routes_of d) last.plan.steps (horizon d)
      shown = shows.5 ∙ ap (λ (x : ℕ × List (List Command)). verdict_of (in_ticks d w x.0) (routes_of d) x.1 (horizon d)) shown_last

      module _ (before : List Attempt) (one : Attempt) (is : p.attempts ≡ before ++ one ∷ []) where
        same_last : pair last.ticks last.plan.steps ≡ pair one.ticks one.met
        same_last = last_same (as_tried rest) (tried_by t.base c w n before ++ asked_for one.ticks _) (last.ticks, last.plan.steps) (one.ticks, one.met)
            (sym (as_tried_last rest last) ∙ (sym (ap as_tried tried_is) ∙ (p.all ∙ (ap (tried_by t.base c w n) is ∙ tried_last before one))))

        same_ticks : last.ticks ≡ one.ticks
        same_ticks = ap (λ (x : ℕ × List (List Command)). x.0) same_last

        same_plan : last.plan.steps ≡ one.met
        same_plan = ap (λ (x : ℕ × List (List Command)). x.1) same_last

        lead : LeadTo t.base c w n (before ++ one ∷ []) a.ticks
        lead = subst (λ (attempts : List Attempt). LeadTo t.base c w n attempts a.ticks) is p.lead

        left : (a.ticks ≡ ticks_taken c w one.met - 1) × ((its : List Evidence) × IsAttempt t.base c w n its one)
        left = last_of t.base c w n (known_first t.base c w n) (horizon c) before one a.ticks lead

        feasible : IsFeasible (within_ticks t.base c w n last.ticks) n last.plan.steps
        feasible = subst (λ (x : ℕ). IsFeasible (within_ticks t.base c w n x) n last.plan.steps) (sym same_ticks) (subst (IsFeasible (within_ticks t.base c w n one.ticks) n) (sym same_plan) left.1.1.feasible)

        takes : a.ticks + 1 ≡ ticks_taken c w last.plan.steps
        takes = let e = left.0 in let some = left.1.1.takes_some in let same = ap (ticks_taken c w) same_plan in omega (arith, e, some, same)

        most : a.ticks + 1 ≤ horizon d
        most = let l = taken_by_horizon c w k.from_1 there n last.plan.steps (last.ticks * d.tick_ms) feasible in omega (arith, l, takes)

        one_less : a.ticks + 1 - 1 ≡ a.ticks
        one_less = omega arith

        seen : v ≡ verdict_of (within_ticks t.base c w n last.ticks) (routes_of c) last.plan.steps (horizon c)
        seen = shown ∙ (ap (λ (rs : List Route). verdict_of (in_ticks d w last.ticks) rs last.plan.steps (horizon d)) (sym (routes_alike d _))
            ∙ ap (λ (s : Station). verdict_of s (routes_of c) last.plan.steps (horizon c)) (sym (timed_is (last.ticks * d.tick_ms))))

        pub answers : Answers
        answers = (
          most,
          least_time last.plan last.ticks (a.ticks + 1) feasible by_horizon (omega (arith, takes)) most v seen (λ ms less. none_less c w k.from_1 there n a.ticks ms none_here less),
          record {
            before = before;
            last = one;
            lead = subst (LeadTo t.base c w n (before ++ one ∷ [])) (sym one_less) lead;
            its_plan = sym same_plan;
            takes = takes;
            some = omega arith;
            proof = subst (λ (x : ℕ). IsProof (quest_after t.base c w n (before ++ one ∷ [])) (within_ticks t.base c w n x) n t.budgets log) (sym one_less) (proof_of (before ++ one ∷ []) is);
            fits = fits;
          },
        )

      pub something_tried : Answers
      something_tried = go (ends p.attempts)
        where
          go : (p.attempts ≡ []) ⊎ ((before : List Attempt) × (one : Attempt) × (p.attempts ≡ before ++ one ∷ [])) → Answers
          go (inl empty) = absurd (not_none (as_tried rest) (last.ticks, last.plan.steps) (sym (as_tried_last rest last) ∙ (sym (ap as_tried tried_is) ∙ (p.all ∙ ap (tried_by t.base c w n) empty))))
          go (inr h) = answers h.0 h.1 h.2
