-- Requests of which nothing is refused, and what a run of them comes to.
use Rattle.std.specs.Prelude.{◌≡◌, ◌≤◌, ◌⊎◌, ℕ, ◌*◌, Bool, length, Option, None, Some, Ok}
use Rattle.infra_reader.specs.Design.{design_of}
use Rattle.clause_spec.specs.declared.question.BaseKind.TheVariants.{Plain}
use Rattle.rail_base.specs.declared.station.Station.{Station}
use Rattle.rail_outside.specs.Files.{Files}
use Rattle.rail_words.specs.Requests.{RequestSeen, simulate, routes, verify, tightest, check, trial}
use Rattle.verify_loop.specs.declared.outcome.Budgets.{Budgets}
use Rattle.verify_loop.specs.declared.outcome.Outcome.{Outcome}
use Rattle.verify_loop.specs.declared.outcome.Outcome.TheVariants as outcome
use Rattle.verify_loop.specs.declared.outcome.Aim.{Aim}
use Rattle.rail_words.specs.declared.request.SearchMode.TheVariants as by
use Rattle.verify_loop.specs.Outcomes.{IsOutcome, Fits}
use Rattle.verify_loop.specs.declared.least_time.Tightest.{Tightest}
use Rattle.verify_loop.specs.declared.least_time.Tightest.TheVariants as least_time
use Rattle.verify_loop.specs.Lessening.{untimed}
use Rattle.verify_loop.specs.Tightening.{FitsTightest, IsTightest, base_for}
use Rattle.workload.specs.Made.{made}
use Rattle.cli_shell.specs.declared.status.Status.{Status}
use Rattle.cli_shell.specs.declared.status.Status.TheVariants as status
use Rattle.cli_shell.specs.declared.input.InputFile.TheVariants as file
use Rattle.cli_shell.specs.Texts.{limit_of}
use Rattle.rail_cli.specs.Answers.{aim_of, budgets_of, trial_conflicts, trial_ticks}
use Rattle.cli_shell.specs.Verdicts.{HasRoutes, IsDesignText, IsPlanText, IsVerdict}
use Rattle.proof_shell.specs.Answers.{put_in}
use Rattle.proof_shell.specs.Verdicts.{HasFewClauses, HasFewFor, HasWithin}

-- ---- where nothing is refused

-- something is asked for, and nothing of it is refused: each file that is read is within its limit, they spell a design and a
-- plan, the design has the within that is named, and the clauses of a search, of a proof's file or of a trial are few; a trial
-- reads no file
abbrev pub IsUnrefused : Files → Option RequestSeen → Type 0
IsUnrefused files None = ⊥
IsUnrefused files (Some (simulate design plan)) =
    (d : Station) × IsDesignText (files design) d × IsPlanText d (files plan)
IsUnrefused files (Some (routes design)) = (d : Station) × IsDesignText (files design) d
IsUnrefused files (Some (verify n conflicts ticks mode design proof)) =
    (d : Station) × IsDesignText (files design) d × HasFewClauses (aim_of mode).base d n
IsUnrefused files (Some (tightest n conflicts ticks w bounds design proof)) =
    (d : Station) × IsDesignText (files design) d × HasFewClauses (base_for bounds w) d n × (w ≤ length d.withins)
IsUnrefused files (Some (check n in_time design proof)) =
    (d : Station) × IsDesignText (files design) d × HasWithin in_time d × (length (files proof) ≤ limit_of file.Proof)
    × HasFewFor (put_in in_time d) n (files proof)
IsUnrefused files (Some (trial seed size)) =
    HasRoutes (made seed size) × HasFewClauses Plain (made seed size) (2 * size)

-- ---- what a run comes to then

-- the search ended with a budget spent, and this is its status
abbrev pub IsSpent : Outcome → Status → Type 0
IsSpent (outcome.ConflictsSpent log clause hints failed) s = s ≡ status.ConflictsSpent
IsSpent (outcome.TicksSpent failed sum at_hand) s = s ≡ status.TicksSpent
IsSpent (outcome.LogSpent log bytes next failed) s = s ≡ status.LogSpent
IsSpent _ s = ⊥

-- a search for a plan of n steps has spent one of these budgets: what it ended with is so of the design, and this is its status
pub record SpendsBudget (m : Aim) (d : Station) (n : ℕ) (budgets : Budgets) (s : Status) : Type 0 where
  pub found : Outcome
  pub spent : IsSpent found s
  pub says : IsOutcome m d n budgets found
  pub fits : Fits m d n found

-- a search for the least time ended with a budget spent, and this is its status
abbrev pub IsTimeSpent : Tightest → Status → Type 0
IsTimeSpent (least_time.ConflictsSpent log clause hints ticks tried) s = s ≡ status.ConflictsSpent
IsTimeSpent (least_time.TicksSpent sum at_hand ticks tried) s = s ≡ status.TicksSpent
IsTimeSpent (least_time.LogSpent log bytes next ticks tried) s = s ≡ status.LogSpent
IsTimeSpent _ s = ⊥

-- a search for the least time of a within has spent one of these budgets
pub record SpendsTime (bounds : Bool) (w : ℕ) (d : Station) (n : ℕ) (budgets : Budgets) (s : Status) : Type 0 where
  pub found : Tightest
  pub spent : IsTimeSpent found s
  pub says : IsTightest (base_for bounds w) (untimed d w) w n budgets found
  pub fits : FitsTightest (base_for bounds w) (untimed d w) w n found

-- a run comes to a verdict, and one that lists routes to yes; a search or a trial may have spent a budget in its place
abbrev pub HasVerdict : Files → Option RequestSeen → Status → Type 0
HasVerdict files None s = ⊥
HasVerdict files (Some (simulate design plan)) s = IsVerdict s
HasVerdict files (Some (routes design)) s = s ≡ status.Done
HasVerdict files (Some (verify n conflicts ticks mode design proof)) s =
    IsVerdict s
    ⊎ ((d : Station) × (design_of (files design) ≡ Ok d)
    × SpendsBudget (aim_of mode) d n (budgets_of conflicts ticks) s)
HasVerdict files (Some (tightest n conflicts ticks w bounds design proof)) s =
    IsVerdict s
    ⊎ ((d : Station) × (design_of (files design) ≡ Ok d) × SpendsTime bounds w d n (budgets_of conflicts ticks) s)
HasVerdict files (Some (check n in_time design proof)) s = IsVerdict s
HasVerdict files (Some (trial seed size)) s =
    IsVerdict s ⊎ SpendsBudget (aim_of by.Plain) (made seed size) (2 * size) (budgets_of trial_conflicts trial_ticks) s
