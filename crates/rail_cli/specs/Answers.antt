-- The answer to the words of a command line, for the files that are held.
use Rattle.std.specs.Prelude.{ℕ, ◌*◌, Bool, List, [], ◌∷◌, length}
use Rattle.std.specs.Prelude.{Option, None, Some}
use Rattle.clause_spec.specs.declared.question.BaseKind.TheVariants.{Plain, Normal, Live}
use Rattle.clause_spec.specs.declared.question.Turns.TheVariants.{All}
use Rattle.rail_base.specs.declared.station.Station.{Station}
use Rattle.rail_base.specs.declared.plan.Command.{Command}
use Rattle.rail_outside.specs.Files.{Files}
use Rattle.rail_outside.specs.Asks.{Ask, fetched, stored}
use Rattle.rail_spec.specs.Track.{routes_of}
use Rattle.rail_spec.specs.Requirements.{cost}
use Rattle.rail_words.specs.Requests.{RequestSeen, simulate, routes, verify, tightest, check, trial, request_of}
use Rattle.timetable.specs.Timetable.{timetable_of}
use Rattle.verify_loop.specs.declared.outcome.Aim.{Aim}
use Rattle.verify_loop.specs.declared.outcome.Budgets.{Budgets}
use Rattle.verify_loop.specs.declared.outcome.Wanted.TheVariants.{Fewest, Any}
use Rattle.rail_words.specs.declared.request.SearchMode.{SearchMode}
use Rattle.rail_words.specs.declared.request.SearchMode.TheVariants as by
use Rattle.verify_loop.specs.declared.outcome.Outcome.{Outcome}
use Rattle.verify_loop.specs.declared.outcome.Outcome.TheVariants as outcome
use Rattle.verify_loop.specs.declared.least_time.Tightest.{Tightest}
use Rattle.verify_loop.specs.declared.least_time.Tightest.TheVariants as least_time
use Rattle.verify_loop.specs.Tightening.{base_for}
use Rattle.workload.specs.Made.{made}
use Rattle.cli_shell.specs.declared.status.Status.{Status}
use Rattle.cli_shell.specs.declared.status.Status.TheVariants as status
use Rattle.cli_shell.specs.declared.input.InputFile.TheVariants as file
use Rattle.cli_shell.specs.Shows.{verdict_at_horizon}
use Rattle.cli_shell.specs.Texts.{usage_line, too_large_line, plan_line, limit_of}
use Rattle.rail_cli.specs.Texts.{plan_steps_line, infeasible_line, conflicts_spent_line, ticks_spent_line}
use Rattle.rail_cli.specs.Texts.{log_spent_line, tightest_line, trial_line, counts_line, plan_tick_line}
use Rattle.rail_cli.specs.Ended.{Ended}
use Rattle.cli_shell.specs.Answers.{ReplySeen, one_line, within_limit, with_routes, design_or_answer, design_in, with_within}
use Rattle.cli_shell.specs.Answers.{unless_refused, simulation_reply, routes_reply}
use Rattle.proof_shell.specs.Answers.{with_clauses, check_reply}

-- ---- answers

-- a plan that was found: its number of steps, the plan, and the timetable of its run
abbrev pub reply_for_plan : Station → List (List Command) → ReplySeen
reply_for_plan d plan = record {
  status = status.Done;
  lines = plan_steps_line (length plan) ∷ plan_line d plan ∷ timetable_of d (verdict_at_horizon d plan);
}

-- what a search for a plan of n steps ended with, within so many derived clauses and ticks
abbrev pub reply_for_outcome : Station → ℕ → ℕ → ℕ → Outcome → ReplySeen
reply_for_outcome d n conflicts ticks (outcome.Plan plan verdict) = reply_for_plan d plan.steps
reply_for_outcome d n conflicts ticks (outcome.Infeasible log) = one_line status.No (infeasible_line n)
reply_for_outcome d n conflicts ticks (outcome.ConflictsSpent log clause hints failed) =
    one_line status.ConflictsSpent (conflicts_spent_line conflicts)
reply_for_outcome d n conflicts ticks (outcome.TicksSpent failed sum at_hand) =
    one_line status.TicksSpent (ticks_spent_line sum ticks)
reply_for_outcome d n conflicts ticks (outcome.LogSpent log bytes next failed) =
    one_line status.LogSpent (log_spent_line bytes next)
reply_for_outcome d n conflicts ticks (outcome.TooLarge literals) = one_line status.DesignRefused too_large_line
reply_for_outcome d n conflicts ticks outcome.Memory = record { status = status.Memory; lines = [] }

-- the answer to a search in a design by a base, by what it ended with
abbrev pub searched_in : Aim → Station → ℕ → ℕ → ℕ → Outcome → ReplySeen
searched_in m d n conflicts ticks found =
    unless_refused (with_clauses m.base n d) (λ same. reply_for_outcome d n conflicts ticks found)

-- what is looked for, and by which clauses: with bounds by those of live commands
abbrev pub aim_of : SearchMode → Aim
aim_of by.Plain = record { base = Plain; wanted = Fewest }
aim_of by.Bounds = record { base = Live All; wanted = Fewest }
aim_of by.Any = record { base = Live All; wanted = Any }
aim_of by.Normal = record { base = Normal; wanted = Fewest }

-- what a search may spend: so many derived clauses and ticks, and a log as long as a proof may be
abbrev pub budgets_of : ℕ → ℕ → Budgets
budgets_of conflicts ticks = record { conflicts = conflicts; ticks = ticks; log_bytes = limit_of file.Proof }

-- the answer to a search, for the bytes of the design, by what it ended with
abbrev pub search_reply : Aim → ℕ → ℕ → ℕ → List ℕ → Outcome → ReplySeen
search_reply m n conflicts ticks design_bytes found =
    unless_refused (within_limit file.Design design_bytes) (λ design_text.
    unless_refused (design_in design_text) (λ d.
    searched_in m d n conflicts ticks found))

-- the least time that a within of the design allows, in ticks, and then the plan and the timetable of its run over that design
abbrev pub reply_for_least : Station → ℕ → ℕ → List (List Command) → ReplySeen
reply_for_least d w ticks plan = record {
  status = status.Done;
  lines = tightest_line w (ticks * d.tick_ms) ∷ (reply_for_plan d plan).lines;
}

-- what a search for the least time of a within ended with, for plans of n steps, within so many derived clauses and ticks
abbrev pub reply_for_time : ℕ → ℕ → ℕ → ℕ → Tightest → ReplySeen
reply_for_time w n conflicts ticks (least_time.Least interlocking least plan verdict log) =
    reply_for_least interlocking.design.station w least plan.steps
reply_for_time w n conflicts ticks (least_time.Infeasible log) = one_line status.No (infeasible_line n)
reply_for_time w n conflicts ticks (least_time.ConflictsSpent log clause hints asked tried) =
    one_line status.ConflictsSpent (conflicts_spent_line conflicts)
reply_for_time w n conflicts ticks (least_time.TicksSpent sum at_hand asked tried) =
    one_line status.TicksSpent (ticks_spent_line sum ticks)
reply_for_time w n conflicts ticks (least_time.LogSpent log bytes next asked tried) =
    one_line status.LogSpent (log_spent_line bytes next)
reply_for_time w n conflicts ticks (least_time.TooLarge literals) = one_line status.DesignRefused too_large_line
reply_for_time w n conflicts ticks least_time.Memory = record { status = status.Memory; lines = [] }

-- the answer to such a search in a design, by what it ended with: the clauses are asked of before the within
abbrev pub timed_in : Bool → ℕ → Station → ℕ → ℕ → ℕ → Tightest → ReplySeen
timed_in bounds w d n conflicts ticks found =
    unless_refused (with_clauses (base_for bounds w) n d) (λ same.
    unless_refused (with_within w d) (λ same.
    reply_for_time w n conflicts ticks found))

-- the answer to it, for the bytes of the design
abbrev pub time_reply : Bool → ℕ → ℕ → ℕ → ℕ → List ℕ → Tightest → ReplySeen
time_reply bounds w n conflicts ticks design_bytes found =
    unless_refused (within_limit file.Design design_bytes) (λ design_text.
    unless_refused (design_in design_text) (λ d.
    timed_in bounds w d n conflicts ticks found))

-- how many clauses a trial may derive
abbrev pub trial_conflicts : ℕ
trial_conflicts = 1000000

-- how many ticks it may simulate
abbrev pub trial_ticks : ℕ
trial_ticks = 1000000000

-- the lines of a trial: what was made, how much it has, and this last line
abbrev pub three_lines : ℕ → ℕ → Station → Status → List ℕ → ReplySeen
three_lines seed size d s last = record { status = s; lines = trial_line seed size ∷ counts_line d ∷ last ∷ [] }

-- what a trial says of a station, by what its search ended with; a refusal is said alone
abbrev pub reply_for_trial : ℕ → ℕ → Station → Outcome → ReplySeen
reply_for_trial seed size d (outcome.Plan plan verdict) =
    three_lines seed size d status.Done (plan_tick_line (length plan.steps) (cost d (routes_of d) plan.steps))
reply_for_trial seed size d (outcome.Infeasible log) = three_lines seed size d status.No (infeasible_line (2 * size))
reply_for_trial seed size d (outcome.ConflictsSpent log clause hints failed) =
    three_lines seed size d status.ConflictsSpent (conflicts_spent_line trial_conflicts)
reply_for_trial seed size d (outcome.TicksSpent failed sum at_hand) =
    three_lines seed size d status.TicksSpent (ticks_spent_line sum trial_ticks)
reply_for_trial seed size d (outcome.LogSpent log bytes next failed) =
    three_lines seed size d status.LogSpent (log_spent_line bytes next)
reply_for_trial seed size d (outcome.TooLarge literals) = one_line status.DesignRefused too_large_line
reply_for_trial seed size d outcome.Memory = record { status = status.Memory; lines = [] }

-- the answer to a trial of a station with its routes, by what it ended with
abbrev pub tried_in : ℕ → ℕ → Station → Outcome → ReplySeen
tried_in seed size d found = unless_refused (with_clauses Plain (2 * size) d) (λ same. reply_for_trial seed size d found)

-- the answer to a trial: the station that the seed and the size make is searched for a plan of twice as many steps as its size
abbrev pub tried : ℕ → ℕ → Outcome → ReplySeen
tried seed size found =
    unless_refused (design_or_answer (with_routes (made seed size))) (λ d. tried_in seed size d found)

-- the answer to a request, which may be none; of a search, by what it ended with
abbrev pub answer_to : Files → Ended → Option RequestSeen → ReplySeen
answer_to files found None = one_line status.Usage usage_line
answer_to files found (Some (simulate design plan)) = simulation_reply (files design) (files plan)
answer_to files found (Some (routes design)) = routes_reply (files design)
answer_to files found (Some (verify n conflicts ticks mode design proof)) =
    search_reply (aim_of mode) n conflicts ticks (files design) found.plan
answer_to files found (Some (tightest n conflicts ticks w bounds design proof)) =
    time_reply bounds w n conflicts ticks (files design) found.time
answer_to files found (Some (check n in_time design proof)) = check_reply n in_time (files design) (files proof)
answer_to files found (Some (trial seed size)) = tried seed size found.plan

-- the answer to a request for the bytes of its files, DESIGN and then PLAN or PROOF, as each is fetched; of a search, by what it ended with
abbrev pub answer_given : List ℕ → List ℕ → Ended → Option RequestSeen → ReplySeen
answer_given design_bytes other_bytes found None = one_line status.Usage usage_line
answer_given design_bytes other_bytes found (Some (simulate design plan)) = simulation_reply design_bytes other_bytes
answer_given design_bytes other_bytes found (Some (routes design)) = routes_reply design_bytes
answer_given design_bytes other_bytes found (Some (verify n conflicts ticks mode design proof)) =
    search_reply (aim_of mode) n conflicts ticks design_bytes found.plan
answer_given design_bytes other_bytes found (Some (tightest n conflicts ticks w bounds design proof)) =
    time_reply bounds w n conflicts ticks design_bytes found.time
answer_given design_bytes other_bytes found (Some (check n in_time design proof)) =
    check_reply n in_time design_bytes other_bytes
answer_given design_bytes other_bytes found (Some (trial seed size)) = tried seed size found.plan

-- the answer to the words of a command line, the first of which is the program's name
abbrev pub answer_of : Files → Ended → List (List ℕ) → ReplySeen
answer_of files found words = answer_to files found (request_of words)

-- ---- what is asked of the shelf

-- the calls for a request, in order
abbrev pub asks_to : Option RequestSeen → List Ask
asks_to None = []
asks_to (Some (simulate design plan)) = fetched design ∷ fetched plan ∷ []
asks_to (Some (routes design)) = fetched design ∷ []
asks_to (Some (verify n conflicts ticks mode design proof)) = fetched design ∷ stored proof ∷ []
asks_to (Some (tightest n conflicts ticks w bounds design proof)) = fetched design ∷ stored proof ∷ []
asks_to (Some (check n in_time design proof)) = fetched design ∷ fetched proof ∷ []
asks_to (Some (trial seed size)) = []

-- the calls for the words of a command line
abbrev pub asks_of : List (List ℕ) → List Ask
asks_of words = asks_to (request_of words)
