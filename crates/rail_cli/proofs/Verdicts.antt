-- What a run comes to, where nothing is refused.
use Rattle.std.proofs.Common.{◌≡◌, ◌≤◌, ◌⊎◌, ◌*◌, ℕ, Bool, true, false, length, List, Option, None, Some, Ok, refl, ap, sym, ◌∙◌, subst, inl, inr}
use Rattle.infra_reader.specs.Design.{design_of}
use Rattle.clause_spec.specs.Clauses.{literals}
use Rattle.clause_spec.specs.declared.question.BaseKind.TheVariants.{Plain}
use Rattle.rail_words.specs.declared.request.SearchMode.TheVariants as by
use Rattle.proof_judge.specs.Judged.{judged}
use Rattle.rail_base.specs.declared.station.Station.{Station}
use Rattle.rail_outside.specs.Files.{Files}
use Rattle.rail_words.specs.Requests.{RequestSeen, simulate, routes, verify, tightest, check, trial, request_of}
use Rattle.verify_loop.specs.declared.outcome.Budgets.{Budgets}
use Rattle.verify_loop.specs.declared.outcome.Outcome.{Outcome}
use Rattle.verify_loop.specs.declared.outcome.Outcome.TheVariants as outcome
use Rattle.verify_loop.specs.declared.outcome.Aim.{Aim}
use Rattle.verify_loop.specs.Outcomes.{IsOutcome, Fits}
use Rattle.workload.specs.Made.{made}
use Rattle.cli_shell.specs.declared.status.Status.{Status}
use Rattle.cli_shell.specs.declared.status.Status.TheVariants as statuses
use Rattle.cli_shell.specs.Statuses.{is_answered}
use Rattle.cli_shell.specs.Answers.{ReplySeen, with_routes, design_or_answer}
use Rattle.proof_shell.specs.Answers.{with_clauses, reply_for}
use Rattle.rail_cli.specs.Answers.{budgets_of, reply_for_outcome, aim_of, search_reply, trial_conflicts, trial_ticks, reply_for_trial, tried_in, tried, answer_to, answer_of}
use Rattle.cli_shell.specs.Shows.{verdict_at_horizon}
use Rattle.rail_cli.specs.Searches.{Finds}
use Rattle.cli_shell.specs.Prints.{Prints}
use Rattle.cli_shell.specs.Verdicts.{HasRoutes, IsDesignText, IsVerdict}
use Rattle.proof_shell.specs.Verdicts.{HasFewClauses}
use Rattle.rail_cli.specs.Verdicts.{IsUnrefused, SpendsBudget, SpendsTime, HasVerdict}
use Rattle.cli_shell.proofs.Deciding.{answered_next}
use Rattle.rail_cli.proofs.Finding.{read_so}
use Rattle.rail_cli.proofs.LeastTicks.{same_literals}
use Rattle.rail_cli.proofs.TimeFinding.{time_read_so, timed_few}
use Rattle.rail_words.proofs.Ranges.{requests_in_range}
use Rattle.rail_words.specs.Requests.{IsRequestInRange}
use Rattle.proof_shell.specs.Answers.{put_in}
use Rattle.verify_loop.specs.declared.least_time.Tightest.{Tightest}
use Rattle.verify_loop.specs.declared.least_time.Tightest.TheVariants as least_time
use Rattle.verify_loop.specs.Lessening.{untimed}
use Rattle.verify_loop.specs.Tightening.{FitsTightest, IsTightest, base_for}
use Rattle.rail_cli.specs.Answers.{reply_for_time, time_reply}
use Rattle.rail_cli.specs.Ended.{Ended}
use Rattle.cli_shell.proofs.Verdicts.{routes_pass, fits, reads, simulated_so, listed_so, shown_verdict}
use Rattle.proof_shell.proofs.Verdicts.{few_fit, few_pass, checked_so, told_verdict}

-- ---- the answers to what is not refused

module _ (bytes : List ℕ) (d : Station) (s : IsDesignText bytes d) where
  searched_so : (m : Aim) (n conflicts ticks : ℕ) (found : Outcome) → HasFewClauses m.base d n → search_reply m n conflicts ticks bytes found ≡ reply_for_outcome d n conflicts ticks found
  searched_so m n conflicts ticks found few =
      read_so m n conflicts ticks bytes found bytes (fits bytes d s) d (reads bytes d s) ∙ answered_next (with_clauses m.base n d) d (λ same. reply_for_outcome d n conflicts ticks found) (few_pass m.base d n few)

tried_so : (seed size : ℕ) (found : Outcome) → HasRoutes (made seed size) → HasFewClauses Plain (made seed size) (2 * size) → tried seed size found ≡ reply_for_trial seed size (made seed size) found
tried_so seed size found has few =
    answered_next (design_or_answer (with_routes (made seed size))) (made seed size) (λ d. tried_in seed size d found) (ap design_or_answer (routes_pass (made seed size) has))
    ∙ answered_next (with_clauses Plain (2 * size) (made seed size)) (made seed size) (λ same. reply_for_trial seed size (made seed size) found) (few_pass Plain (made seed size) (2 * size) few)

-- ---- their statuses

-- the status of each end of a search
abbrev status_of : Outcome → Status
status_of (outcome.Plan plan verdict) = statuses.Done
status_of (outcome.Infeasible log) = statuses.No
status_of (outcome.ConflictsSpent log clause hints failed) = statuses.ConflictsSpent
status_of (outcome.TicksSpent failed sum at_hand) = statuses.TicksSpent
status_of (outcome.LogSpent log bytes next failed) = statuses.LogSpent
status_of (outcome.TooLarge literals) = statuses.DesignRefused
status_of outcome.Memory = statuses.Memory

search_status : (d : Station) (n conflicts ticks : ℕ) (found : Outcome) → (reply_for_outcome d n conflicts ticks found).status ≡ status_of found
search_status d n conflicts ticks (outcome.Plan plan verdict) = refl
search_status d n conflicts ticks (outcome.Infeasible log) = refl
search_status d n conflicts ticks (outcome.ConflictsSpent log clause hints failed) = refl
search_status d n conflicts ticks (outcome.TicksSpent failed sum at_hand) = refl
search_status d n conflicts ticks (outcome.LogSpent log bytes next failed) = refl
search_status d n conflicts ticks (outcome.TooLarge literals) = refl
search_status d n conflicts ticks outcome.Memory = refl

trial_status : (seed size : ℕ) (d : Station) (found : Outcome) → (reply_for_trial seed size d found).status ≡ status_of found
trial_status seed size d (outcome.Plan plan verdict) = refl
trial_status seed size d (outcome.Infeasible log) = refl
trial_status seed size d (outcome.ConflictsSpent log clause hints failed) = refl
trial_status seed size d (outcome.TicksSpent failed sum at_hand) = refl
trial_status seed size d (outcome.LogSpent log bytes next failed) = refl
trial_status seed size d (outcome.TooLarge literals) = refl
trial_status seed size d outcome.Memory = refl

-- a search with few clauses ends with a verdict or a budget spent, unless memory was wanting
module _ (m : Aim) (d : Station) (n : ℕ) (b : Budgets) (few : HasFewClauses m.base d n) (s : Status) (answered : is_answered s ≡ true) where
  ends_so : (found : Outcome) → IsOutcome m d n b found × Fits m d n found → s ≡ status_of found → IsVerdict s ⊎ SpendsBudget m d n b s
  ends_so (outcome.Plan plan verdict) ends is = inl (inl is)
  ends_so (outcome.Infeasible log) ends is = inl (inr is)
  ends_so (outcome.ConflictsSpent log clause hints failed) ends is = inr (record { found = outcome.ConflictsSpent log clause hints failed; spent = is; says = ends.0; fits = ends.1 })
  ends_so (outcome.TicksSpent failed sum at_hand) ends is = inr (record { found = outcome.TicksSpent failed sum at_hand; spent = is; says = ends.0; fits = ends.1 })
  ends_so (outcome.LogSpent log bytes next failed) ends is = inr (record { found = outcome.LogSpent log bytes next failed; spent = is; says = ends.0; fits = ends.1 })
  ends_so (outcome.TooLarge k) ends is = (let many = ends.0 in let none = few_fit m.base d n few in absurd (cc))
  ends_so outcome.Memory ends is = (let kind : is_answered s ≡ is_answered statuses.Memory = ap is_answered is in absurd (cc))

-- of a design that is spelled
spent_in : (m : Aim) (d : Station) (bytes : List ℕ) (n : ℕ) (b : Budgets) (s : Status) → design_of bytes ≡ Ok d → IsVerdict s ⊎ SpendsBudget m d n b s → IsVerdict s ⊎ ((e : Station) × (design_of bytes ≡ Ok e) × SpendsBudget m e n b s)
spent_in m d bytes n b s spells (inl verdict) = inl verdict
spent_in m d bytes n b s spells (inr spent) = inr (d, spells, spent)

-- ---- the least time

-- the status of each end of a search for it
abbrev time_status_of : Tightest → Status
time_status_of (least_time.Least i least plan verdict log) = statuses.Done
time_status_of (least_time.Infeasible log) = statuses.No
time_status_of (least_time.ConflictsSpent log clause hints asked tried) = statuses.ConflictsSpent
time_status_of (least_time.TicksSpent sum at_hand asked tried) = statuses.TicksSpent
time_status_of (least_time.LogSpent log bytes next asked tried) = statuses.LogSpent
time_status_of (least_time.TooLarge literals) = statuses.DesignRefused
time_status_of least_time.Memory = statuses.Memory

time_status : (w n conflicts ticks : ℕ) (found : Tightest) → (reply_for_time w n conflicts ticks found).status ≡ time_status_of found
time_status w n conflicts ticks (least_time.Least i least plan verdict log) = refl
time_status w n conflicts ticks (least_time.Infeasible log) = refl
time_status w n conflicts ticks (least_time.ConflictsSpent log clause hints asked tried) = refl
time_status w n conflicts ticks (least_time.TicksSpent sum at_hand asked tried) = refl
time_status w n conflicts ticks (least_time.LogSpent log bytes next asked tried) = refl
time_status w n conflicts ticks (least_time.TooLarge literals) = refl
time_status w n conflicts ticks least_time.Memory = refl

-- a search with few clauses for a within that is there ends with a verdict or a budget spent, unless memory was wanting
module _ (bounds : Bool) (w : ℕ) (d : Station) (n : ℕ) (b : Budgets) (low : 1 ≤ w) (high : w ≤ length d.withins) (few : HasFewClauses (base_for bounds w) d n) (s : Status) (answered : is_answered s ≡ true) where
  abbrev says_so : Tightest → Type 0
  says_so found = IsTightest (base_for bounds w) (untimed d w) w n b found × FitsTightest (base_for bounds w) (untimed d w) w n found

  time_ends_so : (found : Tightest) → says_so found → s ≡ time_status_of found → IsVerdict s ⊎ SpendsTime bounds w d n b s
  time_ends_so (least_time.Least i least plan verdict log) ends is = inl (inl is)
  time_ends_so (least_time.Infeasible log) ends is = inl (inr is)
  time_ends_so (least_time.ConflictsSpent log clause hints asked tried) ends is = inr (record { found = least_time.ConflictsSpent log clause hints asked tried; spent = is; says = ends.0; fits = ends.1 })
  time_ends_so (least_time.TicksSpent sum at_hand asked tried) ends is = inr (record { found = least_time.TicksSpent sum at_hand asked tried; spent = is; says = ends.0; fits = ends.1 })
  time_ends_so (least_time.LogSpent log bytes next asked tried) ends is = inr (record { found = least_time.LogSpent log bytes next asked tried; spent = is; says = ends.0; fits = ends.1 })
  time_ends_so (least_time.TooLarge k) ends is = (let many = sym (same_literals d w low high bounds n) ∙ ends.0 in let none = few_fit (base_for bounds w) d n few in absurd (cc))
  time_ends_so least_time.Memory ends is = (let kind : is_answered s ≡ is_answered statuses.Memory = ap is_answered is in absurd (cc))

-- of a design that is spelled
spent_time_in : (bounds : Bool) (w : ℕ) (d : Station) (bytes : List ℕ) (n : ℕ) (b : Budgets) (s : Status) → design_of bytes ≡ Ok d → IsVerdict s ⊎ SpendsTime bounds w d n b s → IsVerdict s ⊎ ((e : Station) × (design_of bytes ≡ Ok e) × SpendsTime bounds w e n b s)
spent_time_in bounds w d bytes n b s spells (inl verdict) = inl verdict
spent_time_in bounds w d bytes n b s spells (inr spent) = inr (d, spells, spent)

timed_so : (bytes : List ℕ) (d : Station) → IsDesignText bytes d → (bounds : Bool) (w n conflicts ticks : ℕ) (found : Tightest) → HasFewClauses (base_for bounds w) d n → w ≤ length d.withins → time_reply bounds w n conflicts ticks bytes found ≡ reply_for_time w n conflicts ticks found
timed_so bytes d text bounds w n conflicts ticks found few high =
    time_read_so bounds w n conflicts ticks bytes found bytes (fits bytes d text) d (reads bytes d text)
    ∙ timed_few bounds w d n conflicts ticks found (few_fit (base_for bounds w) d n few) high

-- ---- the run

status_so : (a b : ReplySeen) (s : Status) → s ≡ a.status → a ≡ b → s ≡ b.status
status_so a b s is same = is ∙ ap (λ (x : ReplySeen). x.status) same

comes_so : (files : Files) (asked : Option RequestSeen) (found : Ended) (s : Status) → ((a : RequestSeen) → asked ≡ Some a → IsRequestInRange a) → Finds files asked found → s ≡ (answer_to files found asked).status → IsUnrefused files asked → is_answered s ≡ true → HasVerdict files asked s
comes_so files None found s range finds is u answered = absurd u
comes_so files (Some (simulate design plan)) found s range finds is u answered =
    subst IsVerdict (sym (status_so _ _ s is (simulated_so (files design) u.0 u.1 (files plan) u.2))) (shown_verdict (verdict_at_horizon u.0 u.2.plan))
comes_so files (Some (routes design)) found s range finds is u answered = status_so _ _ s is (listed_so (files design) u.0 u.1)
comes_so files (Some (verify n conflicts ticks mode design proof)) found s range finds is u answered =
    spent_in (aim_of mode) u.0 (files design) n (budgets_of conflicts ticks) s u.1.parses
    (ends_so (aim_of mode) u.0 n (budgets_of conflicts ticks) u.2 s answered found.plan (finds u.0 (reads (files design) u.0 u.1)) (status_so _ _ s is (searched_so (files design) u.0 u.1 (aim_of mode) n conflicts ticks found.plan u.2) ∙ search_status u.0 n conflicts ticks found.plan))
comes_so files (Some (tightest n conflicts ticks w bounds design proof)) found s range finds is u answered =
    spent_time_in bounds w u.0 (files design) n (budgets_of conflicts ticks) s u.1.parses
    (time_ends_so bounds w u.0 n (budgets_of conflicts ticks) (range _ refl).2 u.3 u.2 s answered found.time (finds u.0 (reads (files design) u.0 u.1)) (status_so _ _ s is (timed_so (files design) u.0 u.1 bounds w n conflicts ticks found.time u.2 u.3) ∙ time_status w n conflicts ticks found.time))
comes_so files (Some (check n in_time design proof)) found s range finds is u answered =
    subst IsVerdict (sym (status_so _ _ s is (checked_so (files design) u.0 u.1 n in_time (files proof) u.2 u.4 u.3))) (told_verdict (judged (put_in in_time u.0) n (files proof)))
comes_so files (Some (trial seed size)) found s range finds is u answered =
    ends_so (aim_of by.Plain) (made seed size) (2 * size) (budgets_of trial_conflicts trial_ticks) u.1 s answered found.plan finds (status_so _ _ s is (tried_so seed size found.plan u.0 u.1) ∙ trial_status seed size (made seed size) found.plan)

module _ (files : Files) (words : List (List ℕ)) (s : Status) (text new_text : Option (List ℕ)) (pieces new_pieces : Option (List (List ℕ))) where
  -- the answer was printed
  pub run_comes : (found : Ended) × Finds files (request_of words) found × Prints (answer_of files found words) s text new_text pieces new_pieces → IsUnrefused files (request_of words) → is_answered s ≡ true → HasVerdict files (request_of words) s
  run_comes reply_for u answered = comes_so files (request_of words) reply_for.0 s (requests_in_range words) reply_for.1 (reply_for.2.status answered) u answered

-- a run without an answer comes to nothing
pub no_answer : (files : Files) (asked : Option RequestSeen) (s : Status) → is_answered s ≡ false → is_answered s ≡ true → HasVerdict files asked s
no_answer files asked s none answered = absurd (cc)
