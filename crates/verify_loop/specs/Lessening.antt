-- Where a search is that asks for less and less time for a within.
use Rattle.std.specs.Prelude.{ℕ, ◌≡◌, ◌+◌, ◌*◌, ◌<◌, ◌≤◌, true, List, [], ◌∷◌, ◌++◌, length, Option, None, Some}
use Rattle.base_spec.specs.Bases.{clauses_of}
use Rattle.bound_spec.specs.declared.Evidence.{Evidence}
use Rattle.clause_spec.specs.Laws.{HasFewLiterals}
use Rattle.clause_spec.specs.declared.question.BaseKind.{BaseKind}
use Rattle.greatest_time.specs.Times.{with_max}
use Rattle.proof_judge.specs.Judged.{names_within}
use Rattle.rail_base.specs.declared.history.TrainHistory.{TrainHistory}
use Rattle.rail_base.specs.declared.history.Verdict.{Verdict}
use Rattle.rail_base.specs.declared.history.Verdict.TheVariants.{Met}
use Rattle.rail_base.specs.declared.plan.Command.{Command}
use Rattle.rail_base.specs.declared.station.Station.{Station}
use Rattle.rail_base.specs.Stations.{horizon}
use Rattle.rail_spec.specs.Feasible.{IsFeasible}
use Rattle.rail_spec.specs.Histories.{verdict_of}
use Rattle.rail_spec.specs.Track.{routes_of}
use Rattle.verify_loop.specs.declared.outcome.Outcome.{Outcome}
use Rattle.verify_loop.specs.declared.outcome.Tried.{Tried}
use Rattle.verify_loop.specs.declared.rounds.SearchState.{SearchState}
use Rattle.verify_loop.specs.declared.least_time.Tightest.{Tightest}
use Rattle.verify_loop.specs.declared.asked.Asked.{Asked}
use Rattle.verify_loop.specs.declared.asked.TimeSearch.{TimeSearch}
use Rattle.verify_loop.specs.Asking.{HasBegun, IsNoPlan}
use Rattle.verify_loop.specs.Bases.{IsNumberingFor}
use Rattle.verify_loop.specs.Outcomes.{IsEnd, cost_of}
use Rattle.verify_loop.specs.Quests.{Quest}
use Rattle.verify_loop.specs.Searching as searching
use Rattle.verify_loop.specs.Tightening.{IsPast, aim_of, as_tried, IsTightest, TellsTightest, quest, within_ticks}

-- the design in which the within allows no time
abbrev pub untimed : Station → ℕ → Station
untimed d w = with_max d w 0

-- and the one in which it allows so many ticks
abbrev pub in_ticks : Station → ℕ → ℕ → Station
in_ticks d w k = with_max d w (k * d.tick_ms)

-- the clauses say nothing of the time that the within allows
abbrev pub IsTimeless : BaseKind → ℕ → Type 0
IsTimeless base w = (d : Station) (n ms : ℕ) → 1 ≤ w → w ≤ length d.withins
    → clauses_of base (with_max d w ms) (routes_of (with_max d w ms)) n ≡ clauses_of base d (routes_of d) n

module _ (t : TimeSearch) where
  -- what the end of a search over a design says
  abbrev pub quickest : Station → Tightest → Type 0
  quickest d end = IsTightest t.base (untimed d t.within) t.within t.numbering.now.steps t.budgets end

  module _ (a : Asked) where
    -- the design
    abbrev pub station_of : Station
    station_of = a.interlocking.design.station

    -- without time for the within
    abbrev pub base_station : Station
    base_station = untimed station_of t.within

    abbrev pub steps_of : ℕ
    steps_of = t.numbering.now.steps

    -- the verdict is that of the plan that was run last, if there is any
    abbrev pub ShowsLast : Option Verdict → List Tried → Type 0
    ShowsLast None tried = tried ≡ []
    ShowsLast (Some v) tried = (before : List (ℕ × List (List Command))) × (ticks : ℕ) × (plan : List (List Command))
        × (as_tried tried ≡ before ++ (ticks, plan) ∷ []) × (ticks ≤ horizon station_of)
        × (v ≡ verdict_of (in_ticks station_of t.within ticks) (routes_of station_of) plan (horizon station_of))

    -- its design is the one in which the within allows so many ticks, and its base is made
    pub record IsAsked : Type 0 where
      pub from_1 : 1 ≤ t.within
      pub there : t.within ≤ length station_of.withins
      pub in_time : station_of ≡ in_ticks station_of t.within a.ticks
      pub by_horizon : a.ticks ≤ horizon station_of
      pub numbers : IsNumberingFor t.base a.interlocking t.numbering.now
      pub fits : HasFewLiterals (clauses_of t.base station_of (routes_of station_of) steps_of)
      pub timeless : IsTimeless t.base t.within
      pub named : names_within t.base station_of ≡ true
      pub shown : ShowsLast a.shown a.tried.items

    -- it is so, with what is known and spent before
    abbrev pub With : (Quest → Type 0) → Type 0
    With IsSo = IsAsked × ((known : List Evidence) × (spent : ℕ)
        × IsPast t.base base_station t.within steps_of a.tried.items a.ticks known spent
        × IsSo (quest t.base base_station t.within steps_of known spent))

    -- the search goes on
    abbrev pub IsTimeSearch : SearchState → Type 0
    IsTimeSearch s =
        With (λ m. searching.IsSearch m station_of steps_of t.budgets s.solver.arena s.solver.recorder s.solver.learnt.items s.solver.vars s.solver.derives
        s.failed.items s.sum s.steps)

    -- it begins, with no line but its head, as many ticks as there are, and nothing tried
    pub record HasBegunTo (s : SearchState) : Type 0 where
      pub asked : IsAsked
      pub all_ticks : a.ticks ≡ horizon station_of
      pub none_tried : a.tried.items ≡ []
      pub begun : HasBegun (aim_of t.base) station_of steps_of t.budgets s []

    -- it is at a plan that meets the design, as its run shows, and which it may spend
    abbrev pub IsAtPlan : SearchState → List (List Command) → List TrainHistory → ℕ → Type 0
    IsAtPlan s plan history tick =
        With (λ m. searching.IsAtPlan m station_of steps_of t.budgets s.solver.arena s.solver.recorder s.solver.learnt.items s.solver.vars s.solver.derives
        s.failed.items s.sum s.steps plan)
        × IsFeasible station_of steps_of plan
        × (Met history tick ≡ verdict_of station_of (routes_of station_of) plan (horizon station_of))
        × (tick ≡ cost_of station_of steps_of (plan ∷ [])) × (s.sum + tick ≤ t.budgets.ticks)

    -- it is at an end, which is no plan
    abbrev pub IsAtEnd : Outcome → Type 0
    IsAtEnd end = IsNoPlan end × With (λ m. IsEnd m station_of steps_of t.budgets end)

    -- what the end says
    abbrev pub EndsTightest : Tightest → Type 0
    EndsTightest = quickest station_of

    -- lines tell how far it is
    abbrev pub TellsLess : Option (List (List ℕ)) → Option (List (List ℕ)) → Type 0
    TellsLess = TellsTightest t.base base_station t.within steps_of

  -- it goes on with less time for the same within
  abbrev pub LeadsOn : Asked → Asked × SearchState → Type 0
  LeadsOn a next = IsTimeSearch next.0 next.1 × (base_station next.0 ≡ base_station a) × (next.0.ticks < a.ticks)
