-- A plan that takes no tick of the within's time is the quickest.
use Rattle.std.proofs.Common.{◌≡◌, ℕ, ◌+◌, ◌*◌, ◌<◌, ◌≤◌, List, [], ◌∷◌, refl, sym, ap, subst, ◌∙◌, arith}
use Rattle.bound_spec.specs.declared.Evidence.{Evidence}
use Rattle.greatest_time.specs.Times.{with_max}
use Rattle.greatest_time.proofs.Alike.{routes_alike}
use Rattle.rail_base.specs.declared.history.Verdict.{Verdict}
use Rattle.rail_base.specs.declared.plan.Command.{Command}
use Rattle.rail_base.specs.declared.plan.Plan.{Plan}
use Rattle.rail_base.specs.declared.route.Route.{Route}
use Rattle.rail_base.specs.declared.station.Station.{Station}
use Rattle.rail_base.specs.Stations.{horizon}
use Rattle.rail_spec.specs.Feasible.{IsFeasible, IsInfeasible}
use Rattle.rail_spec.specs.Histories.{verdict_of}
use Rattle.rail_spec.specs.Track.{routes_of}
use Rattle.verify_loop.specs.declared.asked.Asked.{Asked}
use Rattle.verify_loop.specs.declared.asked.TimeSearch.{TimeSearch}
use Rattle.verify_loop.specs.declared.rounds.SearchState.{SearchState}
use Rattle.verify_loop.specs.Lessening.{IsAsked, base_station}
use Rattle.verify_loop.specs.Outcomes.{IsReached, cost_of}
use Rattle.verify_loop.specs.Searching as searching
use Rattle.verify_loop.specs.Tightening.{IsLeastTime, IsPast, IsQuickest, known_by, quest, quest_after, ticks_taken, within_ticks}
use Rattle.verify_loop.proofs.LessTime as less
use Rattle.verify_loop.proofs.Timely.{taken_alike}
use Rattle.verify_loop.proofs.Within.{reached_so}

module _ (t : TimeSearch) (a : Asked) (k : IsAsked t a) where
  abbrev d : Station
  d = a.interlocking.design.station

  abbrev c : Station
  c = base_station t a

  abbrev w : ℕ
  w = t.within

  abbrev n : ℕ
  n = t.numbering.now.steps

  -- it takes none without time for the within
  none_taken : (plan : List (List Command)) → ticks_taken d w plan ≡ 0 → ticks_taken c w plan ≡ 0
  none_taken plan none = sym (taken_alike c w k.from_1 (less.there t a k) n plan (a.ticks * d.tick_ms)) ∙ (ap (λ (s : Station). ticks_taken s w plan) (less.d_is t a k) ∙ none)

  pub time_so : (plan : Plan) → IsFeasible d n plan.steps → ticks_taken d w plan.steps ≡ 0 → (v : Verdict) → v ≡ verdict_of d (routes_of d) plan.steps (horizon d) → IsLeastTime t.base c w n 0 plan v
  time_so plan f none v shown =
      less.least_time t a k plan a.ticks 0 (subst (λ (s : Station). IsFeasible s n plan.steps) (sym (less.d_is t a k)) f) k.by_horizon (let z = none_taken plan.steps none in omega (arith, z)) (omega arith) v
      (shown ∙ (ap (λ (rs : List Route). verdict_of d rs plan.steps (horizon d)) (sym (routes_alike d _)) ∙ ap (λ (s : Station). verdict_of s (routes_of c) plan.steps (horizon d)) (sym (less.d_is t a k))))
      (λ ms less_than. absurd (omega (arith, less_than)))

  pub quickest_so : (known : List Evidence) (spent : ℕ) (p : IsPast t.base c w n a.tried.items a.ticks known spent) (s : SearchState) (plan : List (List Command))
      → searching.IsAtPlan (quest t.base c w n known spent) d n t.budgets s.solver.arena s.solver.recorder s.solver.learnt.items s.solver.vars s.solver.derives s.failed.items s.sum s.steps plan
      → IsFeasible d n plan → (tick : ℕ) → tick ≡ cost_of d n (plan ∷ []) → s.sum + tick ≤ t.budgets.ticks → ticks_taken d w plan ≡ 0 → IsQuickest t.base c w n t.budgets plan
  quickest_so known spent p s plan at f tick costs left none = record {
    attempts = p.attempts;
    ticks = a.ticks;
    lead = p.lead;
    reached = subst (λ (st : Station). IsReached (quest_after t.base c w n p.attempts) st n t.budgets plan) (sym (less.d_is t a k))
        (subst (λ (x : ℕ). IsReached (quest t.base c w n (known_by t.base c w n p.attempts) x) d n t.budgets plan) p.spent_is
        (subst (λ (es : List Evidence). IsReached (quest t.base c w n es spent) d n t.budgets plan) p.known_is
        (reached_so (quest t.base c w n known spent) d n t.budgets s.solver.arena s.solver.recorder s.solver.learnt.items s.solver.vars s.solver.derives s.failed.items s.sum s.steps plan at (omega (arith, costs, left)))));
    takes_none = none_taken plan none;
  }
