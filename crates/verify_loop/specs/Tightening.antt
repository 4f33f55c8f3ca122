-- The search for the least time of a within: what is tried, and what each end says.
use Rattle.std.specs.Prelude.{ℕ, ◌≡◌, ◌+◌, ◌-◌, ◌*◌, ◌<◌, ◌≤◌, List, [], ◌∷◌, ◌++◌, map, flat_map, length, sum_by}
use Rattle.std.specs.Prelude.{Bool, true, false, Option, None, Some, Vec}
use Rattle.std.specs.declared.alloc.Global.{Global}
use Rattle.base_spec.specs.Bases.{clauses_of}
use Rattle.bound_spec.specs.declared.Evidence.{Evidence}
use Rattle.clause_spec.specs.Clauses.{past_limit}
use Rattle.clause_spec.specs.declared.question.BaseKind.{BaseKind}
use Rattle.clause_spec.specs.declared.question.BaseKind.TheVariants.{Plain, Live}
use Rattle.clause_spec.specs.declared.question.Turns.TheVariants.{Beside}
use Rattle.greatest_time.specs.Times.{with_max}
use Rattle.order_bounds.specs.Orders.{orders_first}
use Rattle.rail_base.specs.declared.plan.Command.{Command}
use Rattle.rail_base.specs.declared.history.Verdict.{Verdict}
use Rattle.rail_base.specs.declared.plan.Plan.{Plan}
use Rattle.rail_base.specs.declared.station.Station.{Station}
use Rattle.rail_base.specs.Stations.{horizon, within_of}
use Rattle.rail_spec.specs.Feasible.{IsFeasible, IsInfeasible}
use Rattle.rail_spec.specs.Histories.{verdict_of}
use Rattle.rail_spec.specs.Requirements.{visited_at}
use Rattle.rail_spec.specs.Track.{routes_of}
use Rattle.verify_loop.specs.declared.outcome.Aim.{Aim}
use Rattle.verify_loop.specs.declared.outcome.Budgets.{Budgets}
use Rattle.verify_loop.specs.declared.outcome.Outcome.{Outcome}
use Rattle.verify_loop.specs.declared.outcome.Outcome.TheVariants as outcome
use Rattle.verify_loop.specs.declared.outcome.Wanted.TheVariants.{Any}
use Rattle.verify_loop.specs.declared.least_time.Tightest.{Tightest}
use Rattle.verify_loop.specs.declared.least_time.Tightest.TheVariants as tightest
use Rattle.verify_loop.specs.declared.outcome.Tried.{Tried}
use Rattle.verify_loop.specs.Outcomes.{AreRefuted, IsEnd, IsFound, IsProof, IsReached, Refutal, cost_of, evidence_in, plans_of}
use Rattle.verify_loop.specs.Quests.{Quest}
use Rattle.verify_loop.specs.Telling.{TellsLines, TellsProgress}

-- what is looked for: a plan of whatever number of steps
abbrev pub aim_of : BaseKind → Aim
aim_of base = record { base = base; wanted = Any }

-- the base of such a search: with bounds that of live commands, in which trains come in turn that the within does not name
abbrev pub base_for : Bool → ℕ → BaseKind
base_for false w = Plain
base_for true w = Live (Beside w)

-- how much later the second tick is than the first; none where it is no later
abbrev pub ticks_from : Option ℕ → Option ℕ → ℕ
ticks_from (Some from) (Some to) = to - from
ticks_from _ _ = 0

-- how many ticks the within's second visit comes after its first in the run of the plan
abbrev pub ticks_taken : Station → ℕ → List (List Command) → ℕ
ticks_taken d w plan =
    let within = within_of d w in
    let at = visited_at d (routes_of d) plan (horizon d) in
    ticks_from (at within.from_train within.from_visit) (at within.to_train within.to_visit)

-- so many ticks were asked for: plans that failed, and then one that kept them
pub record Attempt : Type 0 where
  pub ticks : ℕ
  pub failed : List Refutal
  pub met : List (List Command)

-- its plans, in order
abbrev pub plans_in : Attempt → List (List (List Command))
plans_in a = plans_of a.failed ++ a.met ∷ []

-- the plans' steps
abbrev pub steps_of : List Plan → List (List (List Command))
steps_of plans = map (λ (p : Plan). p.steps) plans

-- plans, each with the ticks that were asked for
abbrev pub asked_for : ℕ → List (List (List Command)) → List (ℕ × List (List Command))
asked_for ticks plans = map (λ plan. (ticks, plan)) plans

-- those that were tried, so
abbrev pub as_tried : List Tried → List (ℕ × List (List Command))
as_tried tried = map (λ (t : Tried). (t.ticks, t.plan.steps)) tried

module _ (base : BaseKind) (d : Station) (w n : ℕ) where
  -- the design in which the within allows so many ticks
  abbrev pub within_ticks : ℕ → Station
  within_ticks k = with_max d w (k * d.tick_ms)

  -- at first it allows as many as there are
  abbrev pub known_first : List Evidence
  known_first = orders_first base (within_ticks (horizon d)) n

  -- what is asked where these are known, and so many ticks were spent
  abbrev pub quest : List Evidence → ℕ → Quest
  quest known spent = record { base = base; wanted = Any; known = known; spent = spent }

  -- ---- what was tried

  -- plans that were found and failed with so many ticks, and then one that was found and kept them
  pub record IsAttempt (known : List Evidence) (a : Attempt) : Type 0 where
    pub failed : AreRefuted base (within_ticks a.ticks) n known a.failed
    pub found : IsFound base (within_ticks a.ticks) n (known ++ evidence_in a.failed) a.met
    pub feasible : IsFeasible (within_ticks a.ticks) n a.met
    pub takes_some : 1 ≤ ticks_taken d w a.met

  -- each asks for a tick less than the plan before it took, the first for so many, and after them so many are asked for
  abbrev pub AreAttempts : List Evidence → ℕ → List Attempt → ℕ → Type 0
  AreAttempts known first [] next = first ≡ next
  AreAttempts known first (a ∷ attempts) next = (a.ticks ≡ first) × IsAttempt known a
      × AreAttempts (known ++ evidence_in a.failed) (ticks_taken d w a.met - 1) attempts next

  -- from as many ticks as there are
  abbrev pub LeadTo : List Attempt → ℕ → Type 0
  LeadTo = AreAttempts known_first (horizon d)

  -- what is known after these
  abbrev pub known_by : List Attempt → List Evidence
  known_by attempts = known_first ++ flat_map (λ a. evidence_in a.failed) attempts

  -- and what was spent
  abbrev pub spent_by : List Attempt → ℕ
  spent_by attempts = sum_by (λ a. cost_of (within_ticks a.ticks) n (plans_in a)) attempts

  -- what is asked then
  abbrev pub quest_after : List Attempt → Quest
  quest_after attempts = quest (known_by attempts) (spent_by attempts)

  -- the plans of these, in order
  abbrev pub tried_by : List Attempt → List (ℕ × List (List Command))
  tried_by attempts = flat_map (λ a. asked_for a.ticks (plans_in a)) attempts

  -- plans were tried until so many ticks are asked for, where these cones and bounds are known, and so many ticks were spent
  pub record IsPast (tried : List Tried) (ticks : ℕ) (known : List Evidence) (spent : ℕ) : Type 0 where
    pub attempts : List Attempt
    pub lead : LeadTo attempts ticks
    pub all : as_tried tried ≡ tried_by attempts
    pub known_is : known ≡ known_by attempts
    pub spent_is : spent ≡ spent_by attempts

  -- ---- ends

  -- a plan that is reached after these attempts within the budgets, and takes no tick
  pub record IsQuickest (b : Budgets) (plan : List (List Command)) : Type 0 where
    pub attempts : List Attempt
    pub ticks : ℕ
    pub lead : LeadTo attempts ticks
    pub reached : IsReached (quest_after attempts) (within_ticks ticks) n b plan
    pub takes_none : ticks_taken d w plan ≡ 0

  -- the plan of the last attempt takes so many ticks, and the log is a proof that a tick less is too little
  pub record IsShownLeast (b : Budgets) (ticks : ℕ) (plan : List (List Command)) (log : List ℕ) : Type 0 where
    pub before : List Attempt
    pub last : Attempt
    pub lead : LeadTo (before ++ last ∷ []) (ticks - 1)
    pub its_plan : last.met ≡ plan
    pub takes : ticks ≡ ticks_taken d w plan
    pub some : 1 ≤ ticks
    pub proof : IsProof (quest_after (before ++ last ∷ [])) (within_ticks (ticks - 1)) n b log
    pub fits : length log ≤ b.log_bytes

  -- why no fewer ticks are enough: there are none fewer, or a log shows it
  abbrev pub IsLeast : Budgets → ℕ → List (List Command) → Option (Vec ℕ Global) → Type 0
  IsLeast b ticks plan None = (ticks ≡ 0) × IsQuickest b plan
  IsLeast b ticks plan (Some log) = IsShownLeast b ticks plan log.items

  -- a budget was spent where so many ticks were asked for, after these plans, of which those failed with so many ticks
  pub record IsSpent (b : Budgets) (ticks : ℕ) (tried : List Tried) (failed : List Plan) (end : Outcome) : Type 0 where
    pub attempts : List Attempt
    pub lead : LeadTo attempts ticks
    pub all : as_tried tried ≡ tried_by attempts ++ asked_for ticks (steps_of failed)
    pub ends : IsEnd (quest_after attempts) (within_ticks ticks) n b end

  -- with any time for the within no plan is feasible
  abbrev pub HasNoTime : Type 0
  HasNoTime = (ms : ℕ) → IsInfeasible (with_max d w ms) n

  -- a plan is feasible with so many ticks, its run shows it, and none is so with less
  pub record IsLeastTime (ticks : ℕ) (plan : Plan) (verdict : Verdict) : Type 0 where
    pub feasible : IsFeasible (within_ticks ticks) n plan.steps
    pub shown : verdict ≡ verdict_of (within_ticks ticks) (routes_of (within_ticks ticks)) plan.steps (horizon d)
    pub none_less : (ms : ℕ) → ms < ticks * d.tick_ms → IsInfeasible (with_max d w ms) n

  -- what the end of a search for the least time says
  abbrev pub IsTightest : Budgets → Tightest → Type 0
  IsTightest b (tightest.Least interlocking ticks plan verdict log) =
      (interlocking.design.station ≡ within_ticks ticks)
      × IsLeastTime ticks plan verdict × IsLeast b ticks plan.steps log
  IsTightest b (tightest.Infeasible log) =
      HasNoTime × IsProof (quest_after []) (within_ticks (horizon d)) n b log.items × (length log.items ≤ b.log_bytes)
  IsTightest b (tightest.ConflictsSpent log clause hints ticks tried) =
      (failed : Vec Plan Global) × IsSpent b ticks tried.items failed.items (outcome.ConflictsSpent log clause hints failed)
  IsTightest b (tightest.TicksSpent sum at_hand ticks tried) =
      (failed : Vec Plan Global) × IsSpent b ticks tried.items failed.items (outcome.TicksSpent failed sum at_hand)
  IsTightest b (tightest.LogSpent log bytes next ticks tried) =
      (failed : Vec Plan Global) × IsSpent b ticks tried.items failed.items (outcome.LogSpent log bytes next failed)
  IsTightest b (tightest.TooLarge literals) = past_limit 16000000 0 (clauses_of base d (routes_of d) n) ≡ Some literals
  IsTightest b tightest.Memory = Unit {0}

  -- the clauses have at most 16,000,000 literals, unless it says that they have more or there was no memory
  abbrev pub FitsTightest : Tightest → Type 0
  FitsTightest (tightest.TooLarge literals) = Unit {0}
  FitsTightest tightest.Memory = Unit {0}
  FitsTightest _ = past_limit 16000000 0 (clauses_of base d (routes_of d) n) ≡ None

  -- the line tells how far the search is after some attempts
  abbrev pub TellsAttempts : List ℕ → Type 0
  TellsAttempts line = (attempts : List Attempt) × (ticks : ℕ) × LeadTo attempts ticks
      × TellsProgress (quest_after attempts) (within_ticks ticks) n line

  -- lines are put each of which does
  abbrev pub TellsTightest : Option (List (List ℕ)) → Option (List (List ℕ)) → Type 0
  TellsTightest = TellsLines TellsAttempts
