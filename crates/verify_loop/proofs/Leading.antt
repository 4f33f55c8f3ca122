-- From a plan that meets the design a search leads on to a question for a tick less than it takes.
use Rattle.std.proofs.Common.{◌≡◌, ℕ, ◌+◌, ◌-◌, ◌*◌, ◌<◌, ◌≤◌, List, [], ◌∷◌, ◌++◌, map, Option, Some, refl, sym, ap, subst, ◌∙◌, arith, append_assoc, mul-le-mul, le_refl}
use Rattle.std.proofs.lemmas.List.{map-append}
use Rattle.bound_spec.specs.declared.Evidence.{Evidence}
use Rattle.greatest_time.specs.Times.{with_max}
use Rattle.greatest_time.proofs.InTime.{later_time}
use Rattle.interlocking.specs.declared.railway.Interlocking.{Interlocking}
use Rattle.log_recorder.specs.declared.text.Text.{Text}
use Rattle.proof_judge.specs.Judged.{refuted}
use Rattle.rail_base.specs.declared.history.TrainHistory.{TrainHistory}
use Rattle.rail_base.specs.declared.history.Verdict.{Verdict}
use Rattle.rail_base.specs.declared.history.Verdict.TheVariants.{Met}
use Rattle.rail_base.specs.declared.plan.Command.{Command}
use Rattle.rail_base.specs.declared.plan.Plan.{Plan}
use Rattle.rail_base.specs.declared.route.Route.{Route}
use Rattle.rail_base.specs.declared.station.Station.{Station}
use Rattle.rail_base.specs.Stations.{horizon}
use Rattle.rail_spec.specs.Feasible.{IsFeasible}
use Rattle.rail_spec.specs.Histories.{verdict_of}
use Rattle.rail_spec.specs.Track.{routes_of}
use Rattle.sat_clause.specs.Clauses.{Store}
use Rattle.time_evidence.specs.Laws.{ShowsMore}
use Rattle.time_evidence.proofs.LessTime.{evidence_stays}
use Rattle.verify_loop.specs.declared.asked.Asked.{Asked}
use Rattle.verify_loop.specs.declared.asked.TimeSearch.{TimeSearch}
use Rattle.verify_loop.specs.declared.outcome.Tried.{Tried}
use Rattle.verify_loop.specs.declared.rounds.SearchState.{SearchState}
use Rattle.verify_loop.specs.Lessening.{IsAsked, IsTimeSearch, LeadsOn, ShowsLast, base_station, in_ticks}
use Rattle.verify_loop.specs.Outcomes.{AreRefuted, IsFound, Refutal, cost_of, evidence_in, plans_of}
use Rattle.verify_loop.specs.Searching as searching
use Rattle.verify_loop.specs.Tightening.{IsPast, as_tried, asked_for, quest, steps_of, ticks_taken, within_ticks}
use Rattle.verify_loop.proofs.Attempts.{past_push}
use Rattle.verify_loop.proofs.Following as following
use Rattle.verify_loop.proofs.LessTime as less
use Rattle.verify_loop.proofs.Retiming.{retimed}
use Rattle.verify_loop.proofs.Timely.{taken_alike, taken_by_horizon, takes_within}

module _ (t : TimeSearch) (a : Asked) (k : IsAsked t a) (plan : List (List Command)) (feasible : IsFeasible a.interlocking.design.station t.numbering.now.steps plan) (taken : ℕ) (takes : taken ≡ ticks_taken a.interlocking.design.station t.within plan) (some : 1 ≤ taken) where
  abbrev d : Station
  d = a.interlocking.design.station

  abbrev c : Station
  c = base_station t a

  abbrev w : ℕ
  w = t.within

  abbrev n : ℕ
  n = t.numbering.now.steps

  -- it is feasible where the within allows as many ticks as are asked for
  pub feasible_now : IsFeasible (within_ticks t.base c w n a.ticks) n plan
  feasible_now = subst (λ (s : Station). IsFeasible s n plan) (sym (less.d_is t a k)) feasible

  pub taken_is : taken ≡ ticks_taken c w plan
  taken_is = takes ∙ (sym (ap (λ (s : Station). ticks_taken s w plan) (less.d_is t a k)) ∙ taken_alike c w k.from_1 (less.there t a k) n plan (a.ticks * d.tick_ms))

  pub fewer : taken ≤ a.ticks
  fewer = let l = takes_within c w k.from_1 (less.there t a k) n plan a.ticks (let tick = (less.good t a k).tick.0 in omega (arith, tick)) feasible_now in omega (arith, taken_is, l)

  pub by_horizon : taken - 1 ≤ horizon d
  by_horizon = let l = fewer in let h = k.by_horizon in omega (arith, l, h)

  module _ (later : Interlocking) (is : later.design.station ≡ in_ticks d w (taken - 1)) where
    abbrev e : Station
    e = later.design.station

    shows_more : ShowsMore (refuted t.base d n) (refuted t.base e n)
    shows_more =
        let l : (taken - 1) * d.tick_ms ≤ a.ticks * d.tick_ms = mul-le-mul (let h = fewer in let m : taken - 1 ≤ a.ticks = omega (arith, h) in m) (le_refl d.tick_ms) in
        subst (λ (s : Station). ShowsMore (refuted t.base d n) (refuted t.base s n)) (less.timed_is t a k ((taken - 1) * d.tick_ms) ∙ sym is)
        (subst (λ (s : Station). ShowsMore (refuted t.base s n) (refuted t.base (with_max c w ((taken - 1) * d.tick_ms)) n)) (less.d_is t a k)
        (evidence_stays c w (a.ticks * d.tick_ms) ((taken - 1) * d.tick_ms) l t.base n))

    -- what was tried before, and then its plans
    module _ (known : List Evidence) (spent : ℕ) (p : IsPast t.base c w n a.tried.items a.ticks known spent) (s : SearchState)
        (at : searching.IsAtPlan (quest t.base c w n known spent) d n t.budgets s.solver.arena s.solver.recorder s.solver.learnt.items s.solver.vars s.solver.derives s.failed.items s.sum s.steps plan)
        (history : List TrainHistory) (tick : ℕ) (shown : Met history tick ≡ verdict_of d (routes_of d) plan (horizon d)) (costs : tick ≡ cost_of d n (plan ∷ [])) (left : s.sum + tick ≤ t.budgets.ticks)
        (next : Asked) (same : next.interlocking ≡ later) (so_many : next.ticks ≡ taken - 1) (shows : next.shown ≡ Some (Met history tick)) (tried : as_tried next.tried.items ≡ as_tried a.tried.items ++ asked_for a.ticks (steps_of s.failed.items ++ plan ∷ [])) where
      abbrev rs : List Refutal
      rs = at.search.rs

      tried_is : as_tried next.tried.items ≡ as_tried a.tried.items ++ asked_for a.ticks (plans_of rs ++ plan ∷ [])
      tried_is = tried ∙ ap (λ (ps : List (List (List Command))). as_tried a.tried.items ++ asked_for a.ticks (ps ++ plan ∷ [])) at.search.plans

      past : IsPast t.base c w n next.tried.items (taken - 1) (known ++ evidence_in rs) (spent + cost_of d n (plans_of rs ++ plan ∷ []))
      past =
          subst (λ (x : ℕ). IsPast t.base c w n next.tried.items (x - 1) (known ++ evidence_in rs) (spent + cost_of d n (plans_of rs ++ plan ∷ []))) (sym taken_is)
          (subst (λ (st : Station). IsPast t.base c w n next.tried.items (ticks_taken c w plan - 1) (known ++ evidence_in rs) (spent + cost_of st n (plans_of rs ++ plan ∷ []))) (less.d_is t a k)
          (past_push t.base c w n a.tried.items next.tried.items a.ticks known spent p rs plan
          (subst (λ (st : Station). AreRefuted t.base st n known rs) (sym (less.d_is t a k)) at.search.log.of_failed_plans.refuted)
          (subst (λ (st : Station). IsFound t.base st n (known ++ evidence_in rs) plan) (sym (less.d_is t a k)) at.found)
          feasible_now (subst (λ (x : ℕ). 1 ≤ x) taken_is some) tried_is))

      -- the last of them is the one that was shown
      shows_last : ShowsLast t next next.shown next.tried.items
      shows_last =
          subst (λ (o : Option Verdict). ShowsLast t next o next.tried.items) (sym shows) (
            as_tried a.tried.items ++ asked_for a.ticks (steps_of s.failed.items),
            a.ticks,
            plan,
            tried ∙ (ap (λ z. as_tried a.tried.items ++ z) (map-append (λ ps. (a.ticks, ps)) (steps_of s.failed.items) (plan ∷ [])) ∙ sym (append_assoc (as_tried a.tried.items) (asked_for a.ticks (steps_of s.failed.items)) ((a.ticks, plan) ∷ []))),
            there_at (λ (st : Station). a.ticks ≤ horizon st) k.by_horizon (λ st ms h. h),
            shown ∙ seen,
          )
        where
          there_at : (P : Station → Type 0) → P d → ((st : Station) (ms : ℕ) → P st → P (with_max st w ms)) → P next.interlocking.design.station
          there_at P h on = subst (λ (i : Interlocking). P i.design.station) (sym same) (subst P (sym is) (on d ((taken - 1) * d.tick_ms) h))

          seen : verdict_of d (routes_of d) plan (horizon d) ≡ verdict_of (in_ticks next.interlocking.design.station w a.ticks) (routes_of next.interlocking.design.station) plan (horizon next.interlocking.design.station)
          seen =
              ap (λ (st : Station). verdict_of st (routes_of d) plan (horizon d)) (k.in_time ∙ sym (ap (λ (st : Station). with_max st w (a.ticks * d.tick_ms)) is ∙ later_time d w k.from_1 k.there ((taken - 1) * d.tick_ms) (a.ticks * d.tick_ms)))
              ∙ (ap (λ (rs : List Route). verdict_of (with_max e w (a.ticks * d.tick_ms)) rs plan (horizon d)) (sym (following.routes_same t a k (taken - 1) by_horizon later is))
              ∙ (ap (λ (x : Station). verdict_of (with_max e w (a.ticks * x.tick_ms)) (routes_of e) plan (horizon x)) (sym plain)
              ∙ ap (λ (i : Interlocking). verdict_of (in_ticks i.design.station w a.ticks) (routes_of i.design.station) plan (horizon i.design.station)) (sym same)))
            where
              plain : with_max e w 0 ≡ with_max d w 0
              plain = following.base_same t a k (taken - 1) by_horizon later is

      -- a search goes on over a design, with all that is known
      abbrev IsStill : Station → Store → Text → List ℕ → ℕ → ℕ → List Plan → ℕ → ℕ → Type 0
      IsStill st = searching.IsSearch (quest t.base c w n (known ++ evidence_in rs) (spent + cost_of d n (plans_of rs ++ plan ∷ []))) st n t.budgets

      pub leads_so : (state : SearchState) → state.solver ≡ s.solver → state.failed.items ≡ [] → state.sum ≡ s.sum + tick → state.steps ≡ s.steps → LeadsOn t a (next, state)
      leads_so state solver none sum steps = (
        (
          following.asked_too t a k (taken - 1) by_horizon later is next same so_many shows_last,
          (
            known ++ evidence_in rs,
            spent + cost_of d n (plans_of rs ++ plan ∷ []),
            subst (λ (st : Station). IsPast t.base st w n next.tried.items next.ticks (known ++ evidence_in rs) (spent + cost_of d n (plans_of rs ++ plan ∷ []))) (sym base_is)
                (subst (λ (x : ℕ). IsPast t.base c w n next.tried.items x (known ++ evidence_in rs) (spent + cost_of d n (plans_of rs ++ plan ∷ []))) (sym so_many) past),
            subst (λ (i : Interlocking). IsStill i.design.station state.solver.arena state.solver.recorder state.solver.learnt.items state.solver.vars state.solver.derives state.failed.items state.sum state.steps) (sym same) still,
          ),
        ),
        base_is,
        (let h = fewer in omega (arith, h, some, so_many)),
      )
        where
          base_is : base_station t next ≡ c
          base_is = ap (λ (i : Interlocking). with_max i.design.station w 0) same ∙ following.base_same t a k (taken - 1) by_horizon later is

          still : IsStill e state.solver.arena state.solver.recorder state.solver.learnt.items state.solver.vars state.solver.derives state.failed.items state.sum state.steps
          still =
              subst (λ (x : ℕ). IsStill e state.solver.arena state.solver.recorder state.solver.learnt.items state.solver.vars state.solver.derives state.failed.items state.sum x) (sym steps)
              (subst (λ (x : ℕ). IsStill e state.solver.arena state.solver.recorder state.solver.learnt.items state.solver.vars state.solver.derives state.failed.items x s.steps) (sym sum)
              (subst (λ v. IsStill e v.arena v.recorder v.learnt.items v.vars v.derives state.failed.items (s.sum + tick) s.steps) (sym solver)
              (retimed t.base d e n (following.version_same t a k (taken - 1) by_horizon later is) (sym (following.clauses_same t a k (taken - 1) by_horizon later is)) (sym (following.variables_same t a k (taken - 1) by_horizon later is)) shows_more known spent t.budgets
              s.solver.arena s.solver.recorder s.solver.learnt.items s.solver.vars s.solver.derives s.failed.items s.sum s.steps plan at state.failed.items tick none costs left)))
