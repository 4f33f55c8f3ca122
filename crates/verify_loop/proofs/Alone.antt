-- What a search by itself says.
use Rattle.std.proofs.Common.{◌≡◌, ℕ, ◌+◌, ◌≤◌, List, Option, None, length, subst, arith}
use Rattle.bound_spec.specs.declared.Evidence.{Evidence}
use Rattle.order_bounds.specs.Orders.{orders_first}
use Rattle.rail_base.specs.declared.history.TrainHistory.{TrainHistory}
use Rattle.rail_base.specs.declared.history.Verdict.TheVariants.{Met}
use Rattle.rail_base.specs.declared.plan.Plan.{Plan}
use Rattle.rail_base.specs.declared.station.Station.{Station}
use Rattle.verify_loop.specs.declared.outcome.Aim.{Aim}
use Rattle.verify_loop.specs.declared.outcome.Budgets.{Budgets}
use Rattle.verify_loop.specs.declared.outcome.Outcome.{Outcome}
use Rattle.verify_loop.specs.declared.outcome.Outcome.TheVariants as outcome
use Rattle.verify_loop.specs.declared.rounds.PlanSearch.{PlanSearch}
use Rattle.verify_loop.specs.declared.rounds.SearchState.{SearchState}
use Rattle.verify_loop.specs.declared.rounds.Stop.TheVariants as stop
use Rattle.verify_loop.specs.declared.rounds.TimeAsked.{TimeAsked}
use Rattle.verify_loop.specs.Asking as asking
use Rattle.verify_loop.specs.Telling.{TellsHowFar, TellsProgress}
use Rattle.verify_loop.proofs.Told.{told_else}
use Rattle.verify_loop.specs.Asking.{EndsWith, IsBefore, StopsAt, With, most_steps, quest, station_of}
use Rattle.verify_loop.specs.Outcomes.{IsEnd, IsOutcome}
use Rattle.verify_loop.specs.Quests.{Quest, by_itself}
use Rattle.verify_loop.specs.Searching as searching
use Rattle.verify_loop.proofs.Fewer.{none_below_less}
use Rattle.verify_loop.proofs.Within.{reached_so}

module _ (q : PlanSearch) (alone : q.time ≡ None) where
  -- it is so where the bounds by orders are known and nothing is spent
  pub own : (IsSo : Quest → Type 0) → With q IsSo → IsSo (by_itself q.aim (station_of q) (most_steps q))
  own IsSo h =
      let is = subst (λ (t : Option TimeAsked). IsBefore q.aim (station_of q) (most_steps q) t q.tried.now h.0 h.1) alone h.2 in
      subst (λ (spent : ℕ). IsSo (quest q (orders_first q.aim.base (station_of q) (most_steps q)) spent)) is.1
      (subst (λ (known : List Evidence). IsSo (quest q known h.1)) is.0 h.3)

  -- its end says so
  pub ends_so : (o : Outcome) → EndsWith q o → IsOutcome q.aim (station_of q) (most_steps q) q.budgets o
  ends_so o h = own (λ m. IsEnd m (station_of q) (most_steps q) q.budgets o) h.1

  -- and so does a plan that meets the design
  pub met_so : (s : SearchState) (plan : Plan) (history : List TrainHistory) (tick : ℕ) → StopsAt q (stop.Met s plan history tick)
      → IsOutcome q.aim (station_of q) (most_steps q) q.budgets (outcome.Plan plan (Met history tick))
  met_so s plan history tick h =
      let a = own (λ m. searching.IsAtPlan m (station_of q) (most_steps q) q.budgets s.solver.arena s.solver.recorder s.solver.learnt.items s.solver.vars s.solver.derives s.failed.items s.sum s.steps plan.steps) h.0 in
      let costs = h.3 in
      let left = h.4 in (
        h.1,
        none_below_less q.aim.wanted (station_of q) (length plan.steps) s.steps a.within_steps a.search.fewer,
        h.2,
        reached_so (by_itself q.aim (station_of q) (most_steps q)) (station_of q) (most_steps q) q.budgets s.solver.arena s.solver.recorder s.solver.learnt.items s.solver.vars s.solver.derives s.failed.items s.sum s.steps plan.steps a (omega (arith, costs, left)),
      )

-- the lines that it puts tell how far it is
pub tells_alone : (q : PlanSearch) → q.time ≡ None → (old new : Option (List (List ℕ))) → asking.TellsHowFar q old new → TellsHowFar q.aim (station_of q) (most_steps q) old new
tells_alone q alone old new told =
    told_else (asking.TellsItself q) (TellsProgress (by_itself q.aim (station_of q) (most_steps q)) (station_of q) (most_steps q)) (λ line h. own q alone (λ m. TellsProgress m (station_of q) (most_steps q) line) h) old new told
