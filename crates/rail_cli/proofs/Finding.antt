-- Searches: what they end with, and what their answers say.
use Rattle.std.proofs.Common.{◌≡◌, ◌≢◌, ◌≤◌, ◌<◌, ℕ, true, List, length, Option, None, Some, Result, Ok, Err, Vec, Global, refl, ap, sym, ◌∙◌, subst, inl, inr}
use Rattle.std.specs.List.{concat}
use Rattle.std.proofs.lemmas.List.{append-nil}
use Rattle.infra_reader.specs.Design.{design_of}
use Rattle.clause_spec.specs.Clauses.{past_limit}
use Rattle.verify_loop.specs.declared.outcome.Aim.{Aim}
use Rattle.verify_loop.specs.declared.least_time.Tightest.{Tightest}
use Rattle.verify_loop.specs.Lessening.{untimed}
use Rattle.verify_loop.specs.Quests.{by_itself}
use Rattle.verify_loop.specs.Tightening.{FitsTightest, IsTightest, base_for}
use Rattle.rail_words.specs.declared.request.SearchMode.{SearchMode}
use Rattle.rail_words.specs.declared.request.SearchMode.TheVariants as by
use Rattle.proof_judge.proofs.Sound.{yes_infeasible}
use Rattle.infra_reader.proofs.Reading.{spelled_admitted}
use Rattle.rail_base.specs.Admission.{is_admitted}
use Rattle.rail_base.proofs.Admitting.{admitted}
use Rattle.rail_base.specs.declared.design.Design.{Design}
use Rattle.rail_base.specs.declared.plan.Command.{Command}
use Rattle.rail_base.specs.declared.plan.Plan.{Plan}
use Rattle.rail_base.specs.declared.station.Station.{Station}
use Rattle.rail_base.specs.declared.history.Verdict.{Verdict}
use Rattle.rail_outside.specs.Files.{Files}
use Rattle.rail_outside.specs.Growth.{grown}
use Rattle.rail_spec.specs.Feasible.{IsInfeasible, IsFeasible}
use Rattle.rail_words.specs.declared.request.InTime.{InTime}
use Rattle.rail_words.specs.Requests.{RequestSeen, simulate, routes, verify, tightest, check, trial, request_of, IsRequestInRange}
use Rattle.rail_words.proofs.Ranges.{requests_in_range}
use Rattle.verify_loop.specs.declared.outcome.Budgets.{Budgets}
use Rattle.verify_loop.specs.declared.outcome.Outcome.{Outcome}
use Rattle.verify_loop.specs.declared.outcome.Outcome.TheVariants as outcome
use Rattle.verify_loop.specs.Outcomes.{HasNoneBelow, IsOutcome, Fits, first_clauses}
use Rattle.cli_shell.specs.declared.status.Status.{Status}
use Rattle.cli_shell.specs.declared.status.Status.TheVariants as statuses
use Rattle.cli_shell.specs.declared.input.InputFile.TheVariants as file
use Rattle.cli_shell.specs.declared.reply.Reply.{Reply}
use Rattle.cli_shell.specs.declared.ending.Ending.{Ending}
use Rattle.cli_shell.specs.declared.ending.Ending.TheVariants as ending
use Rattle.cli_shell.specs.Statuses.{is_answered, is_verdict}
use Rattle.cli_shell.specs.Texts.{usage_line, limit_of, too_large_line}
use Rattle.proof_shell.specs.Texts.{yes_line}
use Rattle.rail_cli.specs.Texts.{infeasible_line}
use Rattle.cli_shell.specs.Answers.{ReplySeen, one_line, within_limit, with_routes, and_then, design_in, unless_refused}
use Rattle.proof_shell.specs.Answers.{with_clauses, for_file, reply_for, checked_against, with_proof, check_reply}
use Rattle.rail_cli.specs.Ended.{Ended, plan_ended, none_ended}
use Rattle.rail_cli.specs.Answers.{budgets_of, reply_for_plan, reply_for_outcome, searched_in, aim_of, search_reply, answer_to, answer_of}
use Rattle.cli_shell.specs.Shows.{verdict_at_horizon}
use Rattle.cli_shell.specs.Replies.{reply_seen, ReadsOrEnds, RefusesFile, OnlyFails, Replies}
use Rattle.rail_cli.specs.Replies.{EndsIn, EndsWith, RepliesSo, RepliesTrial}
use Rattle.rail_cli.specs.Searches.{Finds, HoldsProof, SearchLeaves, Leaves, Searches, ReportsPlan, ReportsNone}
use Rattle.rail_cli.specs.Stored.{ShowsNone, HoldsLog}
use Rattle.rail_cli.specs.Checks.{Checks, ReportsInfeasible}
use Rattle.cli_shell.specs.Simulations.{ReportsFeasible}
use Rattle.rail_cli.specs.Simulations.{Simulates, DoneWhereFeasible}
use Rattle.cli_shell.specs.Prints.{Prints}
use Rattle.cli_shell.proofs.Passing.{passed, long_refuses, design_refuses, read-same}
use Rattle.proof_shell.proofs.Passing.{clauses_refuse}
use Rattle.cli_shell.proofs.Refusing.{file_fits, file_is}
use Rattle.cli_shell.proofs.Deciding.{answered_next, answered_refusal, prints_answer}
use Rattle.rail_cli.proofs.Deciding.{tells_of_reply}
use Rattle.proof_shell.proofs.Judging.{too_large_refused, small_passes, judged_passes}
use Rattle.rail_cli.proofs.Judging.{tells_infeasible}
use Rattle.cli_shell.proofs.Showing.{done_exactly, runs_safely, met_first}

-- ---- what a search ends with

-- want of memory is free
pub may_want : (files : Files) (asked : Option RequestSeen) → EndsWith files asked none_ended
may_want files None = tt
may_want files (Some (simulate design plan)) = tt
may_want files (Some (routes design)) = tt
may_want files (Some (check n in_time design proof)) = tt
may_want files (Some (tightest n conflicts ticks w bounds design proof)) = inl refl
may_want files (Some (trial seed size)) = (tt, tt)
may_want files (Some (verify n conflicts ticks mode design proof)) = inl refl

-- the outcome says what it is to say of the design in the file
pub finds_so : (files : Files) (asked : Option RequestSeen) (found : Ended) → EndsWith files asked found → Finds files asked found
finds_so files None found ends = tt
finds_so files (Some (simulate design plan)) found ends = tt
finds_so files (Some (routes design)) found ends = tt
finds_so files (Some (check n in_time design proof)) found ends = tt
finds_so files (Some (trial seed size)) found ends = ends
finds_so files (Some (verify n conflicts ticks mode design proof)) found (inl same) = λ d parsed. subst (λ (o : Outcome). IsOutcome (aim_of mode) d n (budgets_of conflicts ticks) o × Fits (aim_of mode) d n o) (sym same) (tt, tt)
finds_so files (Some (verify n conflicts ticks mode design proof)) found (inr e) = λ d parsed.
    (let one : Ok e.design.station ≡ Ok d = sym e.parsed ∙ parsed in
    let same : e.design.station ≡ d = cc in
    subst (λ (x : Station). IsOutcome (aim_of mode) x n (budgets_of conflicts ticks) found.plan × Fits (aim_of mode) x n found.plan) same (e.says, e.fits))
finds_so files (Some (tightest n conflicts ticks w bounds design proof)) found (inl same) = λ d parsed. subst (λ (o : Tightest). IsTightest (base_for bounds w) (untimed d w) w n (budgets_of conflicts ticks) o × FitsTightest (base_for bounds w) (untimed d w) w n o) (sym same) (tt, tt)
finds_so files (Some (tightest n conflicts ticks w bounds design proof)) found (inr e) = λ d parsed.
    (let one : Ok e.design.station ≡ Ok d = sym e.parsed ∙ parsed in
    let same : e.design.station ≡ d = cc in
    subst (λ (x : Station). IsTightest (base_for bounds w) (untimed x w) w n (budgets_of conflicts ticks) found.time × FitsTightest (base_for bounds w) (untimed x w) w n found.time) same (e.says, e.fits))

-- ---- what is said of it

-- a reply is no answer for want of memory
pub never_memory : (r : Result Reply Ending) (want answer : ReplySeen) → want.status ≡ statuses.Memory → Replies r want → Replies r answer
never_memory (Ok reply) want answer is h = (let kind : is_answered statuses.Memory ≡ is_answered reply.status = ap is_answered (sym is) ∙ ap (λ (a : ReplySeen). is_answered a.status) h in let yes = reply.answered in absurd (cc))
never_memory (Err (ending.RefusedWith reply)) want answer is h = (let kind : is_answered statuses.Memory ≡ is_answered reply.status = ap is_answered (sym is) ∙ ap (λ (a : ReplySeen). is_answered a.status) h in let yes = reply.answered in absurd (cc))
never_memory (Err ending.Memory) want answer is h = tt
never_memory (Err ending.ShelfFault) want answer is h = tt

-- for any texts of outcomes, that for too many clauses being the refusal
module _ (m : Aim) (d : Station) (n : ℕ) (b : Budgets) (make_reply : Outcome → ReplySeen) (large : (literals : ℕ) → make_reply (outcome.TooLarge literals) ≡ one_line statuses.DesignRefused too_large_line) (want : (make_reply outcome.Memory).status ≡ statuses.Memory) where
  -- what is said, unless the clauses are too many
  abbrev unless_many : Outcome → ReplySeen
  unless_many found = unless_refused (with_clauses m.base n d) (λ same. make_reply found)

  few_told : (found : Outcome) → past_limit 16000000 0 (first_clauses (by_itself m d n) d n) ≡ None → unless_many found ≡ make_reply found
  few_told found few = answered_next (with_clauses m.base n d) d (λ same. make_reply found) (small_passes m.base n d few)

  many_told : (literals : ℕ) → past_limit 16000000 0 (first_clauses (by_itself m d n) d n) ≡ Some literals → unless_many (outcome.TooLarge literals) ≡ make_reply (outcome.TooLarge literals)
  many_told literals many = answered_refusal (with_clauses m.base n d) _ (λ same. make_reply (outcome.TooLarge literals)) (too_large_refused m.base n d literals many) ∙ sym (large literals)

  -- the reply to the end of a search is one to the search
  pub reply_unless_many : (r : Result Reply Ending) (found : Outcome) → IsOutcome m d n b found → Fits m d n found → Replies r (make_reply found) → Replies r (unless_many found)
  reply_unless_many r outcome.Memory says fits h = never_memory r _ _ want h
  reply_unless_many r (outcome.TooLarge literals) says fits h = subst (Replies r) (sym (many_told literals says)) h
  reply_unless_many r (outcome.Plan plan verdict) says fits h = subst (Replies r) (sym (few_told (outcome.Plan plan verdict) fits)) h
  reply_unless_many r (outcome.Infeasible log) says fits h = subst (Replies r) (sym (few_told (outcome.Infeasible log) fits)) h
  reply_unless_many r (outcome.ConflictsSpent log clause hints failed) says fits h = subst (Replies r) (sym (few_told (outcome.ConflictsSpent log clause hints failed) fits)) h
  reply_unless_many r (outcome.TicksSpent failed sum at_hand) says fits h = subst (Replies r) (sym (few_told (outcome.TicksSpent failed sum at_hand) fits)) h
  reply_unless_many r (outcome.LogSpent log bytes next failed) says fits h = subst (Replies r) (sym (few_told (outcome.LogSpent log bytes next failed) fits)) h

module _ (d : Station) (n : ℕ) (b : Budgets) where
  -- what is said, where the clauses are few
  abbrev outcome_told : Outcome → ReplySeen
  outcome_told found = reply_for_outcome d n b.conflicts b.ticks found

  pub searched_so : (m : Aim) (r : Result Reply Ending) (found : Outcome) → IsOutcome m d n b found → Fits m d n found → Replies r (outcome_told found) → Replies r (searched_in m d n b.conflicts b.ticks found)
  searched_so m r found says fits h = reply_unless_many m d n b outcome_told (λ literals. refl) refl r found says fits h

  -- it is never that the words ask for nothing
  outcome_no_usage : (found : Outcome) → (outcome_told found).status ≡ statuses.Usage → ⊥
  outcome_no_usage (outcome.Plan plan verdict) e = cc
  outcome_no_usage (outcome.Infeasible log) e = cc
  outcome_no_usage (outcome.ConflictsSpent log clause hints failed) e = cc
  outcome_no_usage (outcome.TicksSpent failed sum at_hand) e = cc
  outcome_no_usage (outcome.LogSpent log bytes next failed) e = cc
  outcome_no_usage (outcome.TooLarge literals) e = cc
  outcome_no_usage outcome.Memory e = cc

  pub told_no_usage : (found : Outcome) (reply : Reply) → reply_seen reply ≡ outcome_told found → reply.status ≡ statuses.Usage → ⊥
  told_no_usage found reply seen e = outcome_no_usage found (ap (λ (a : ReplySeen). a.status) (sym seen) ∙ e)

-- a plan comes with what its run shows
pub comes_shown : (d : Station) (n : ℕ) (b : Budgets) (found : Outcome) (plan : Plan) (verdict : Verdict) → found ≡ outcome.Plan plan verdict → (m : Aim) × IsOutcome m d n b found → verdict ≡ verdict_at_horizon d plan.steps
comes_shown d n b found plan verdict is h = (subst (λ (o : Outcome). IsOutcome h.0 d n b o) is h.1).2

-- a store that failed says nothing
pub failed_so : (e : Ending) (r : Result Reply Ending) (answer : ReplySeen) → r ≡ Err e → OnlyFails {X = Unit {0}} (Err e) → Replies r answer
failed_so (ending.RefusedWith reply) r answer is h = absurd h
failed_so ending.Memory r answer is h = subst (λ (x : Result Reply Ending). Replies x answer) (sym is) tt
failed_so ending.ShelfFault r answer is h = subst (λ (x : Result Reply Ending). Replies x answer) (sym is) tt

pub failed_refuses : (e : Ending) (r : Result Reply Ending) → r ≡ Err e → OnlyFails {X = Unit {0}} (Err e) → RefusesFile r
failed_refuses (ending.RefusedWith reply) r is h = absurd h
failed_refuses ending.Memory r is h = subst (λ (x : Result Reply Ending). RefusesFile x) (sym is) tt
failed_refuses ending.ShelfFault r is h = subst (λ (x : Result Reply Ending). RefusesFile x) (sym is) tt

-- ---- the design is read

module _ (m : Aim) (n conflicts ticks : ℕ) (design_bytes : List ℕ) (found : Outcome) where
  -- the rest of a search, with the design's text
  abbrev with_text : List ℕ → ReplySeen
  with_text text = unless_refused (design_in text) (λ d. searched_in m d n conflicts ticks found)

  pub unfetched : (view : Vec ℕ Global → List ℕ) (e : Ending) → ReadsOrEnds view (Err e) (within_limit file.Design design_bytes) → Replies (Err e) (search_reply m n conflicts ticks design_bytes found)
  unfetched view (ending.RefusedWith reply) h = answered_refusal (within_limit file.Design design_bytes) (reply_seen reply) with_text h
  unfetched view ending.Memory h = tt
  unfetched view ending.ShelfFault h = tt

  module _ (text : List ℕ) (fits : within_limit file.Design design_bytes ≡ Ok text) where
    fetched_so : search_reply m n conflicts ticks design_bytes found ≡ with_text text
    fetched_so = answered_next (within_limit file.Design design_bytes) text with_text fits

    pub unread : {X : Type 0} (view : X → Station) (e : Ending) → ReadsOrEnds view (Err e) (design_in text) → Replies (Err e) (search_reply m n conflicts ticks design_bytes found)
    unread view (ending.RefusedWith reply) h = fetched_so ∙ answered_refusal (design_in text) (reply_seen reply) (λ d. searched_in m d n conflicts ticks found) h
    unread view ending.Memory h = tt
    unread view ending.ShelfFault h = tt

    pub read_so : (d : Station) → design_in text ≡ Ok d → search_reply m n conflicts ticks design_bytes found ≡ searched_in m d n conflicts ticks found
    read_so d reads = fetched_so ∙ answered_next (design_in text) d (λ d. searched_in m d n conflicts ticks found) reads

-- ---- the replies to a search

pub within_budgets : (m : Aim) (d : Station) (n : ℕ) (b : Budgets) (found : Outcome) → b.log_bytes ≡ limit_of file.Proof → IsOutcome m d n b found → IsOutcome m d n (budgets_of b.conflicts b.ticks) found
within_budgets m d n b found room says = subst (λ (k : ℕ). IsOutcome m d n (record { conflicts = b.conflicts; ticks = b.ticks; log_bytes = k }) found) room says

-- the reply to a search in a design by a base, for an outcome with which it may end
abbrev pub RepliesBy : Result Reply Ending → Station → ℕ → Budgets → Aim → Type 0
RepliesBy r d n b m = (found : Outcome) × IsOutcome m d n b found × Fits m d n found × Replies r (searched_in m d n b.conflicts b.ticks found)

module _ (files : Files) (n : ℕ) (mode : SearchMode) (b : Budgets) (design proof : List ℕ) where
  -- what is asked
  abbrev search_asked : Option RequestSeen
  search_asked = Some (verify n b.conflicts b.ticks mode design proof)

  -- how plans that fail are excluded
  abbrev here : Aim
  here = aim_of mode

  pub unfetched_so : (view : Vec ℕ Global → List ℕ) (e : Ending) (r : Result Reply Ending) → r ≡ Err e → ReadsOrEnds view (Err e) (within_limit file.Design (files design)) → RepliesSo r files search_asked
  unfetched_so view e r is h = subst (λ (x : Result Reply Ending). RepliesSo x files search_asked) (sym is) (none_ended, inl refl, unfetched here n b.conflicts b.ticks (files design) outcome.Memory view e h)

  module _ (text : List ℕ) (fits : within_limit file.Design (files design) ≡ Ok text) where
    pub unread_so : {X : Type 0} (view : X → Station) (e : Ending) (r : Result Reply Ending) → r ≡ Err e → ReadsOrEnds view (Err e) (design_in text) → RepliesSo r files search_asked
    unread_so view e r is h = subst (λ (x : Result Reply Ending). RepliesSo x files search_asked) (sym is) (none_ended, inl refl, unread here n b.conflicts b.ticks (files design) outcome.Memory text fits view e h)

    -- the name spells the design
    pub spelled_so : (d : Station) → design_in text ≡ Ok d → design_in (files design) ≡ Ok d
    spelled_so d reads = ap design_in (file_is file.Design (files design) text fits) ∙ reads

    pub ended_so : (d : Design) (r : Result Reply Ending) → b.log_bytes ≡ limit_of file.Proof → design_in text ≡ Ok d.station
        → RepliesBy r d.station n b here → RepliesSo r files search_asked
    ended_so d r room reads h = (
      plan_ended h.0,
      inr (record { design = d; parsed = spelled_so d.station reads; says = within_budgets here d.station n b h.0 room h.1; fits = h.2 }),
      subst (Replies r) (sym (read_so here n b.conflicts b.ticks (files design) h.0 text fits d.station reads)) h.3,
    )

-- ---- the replies to a request

module _ (r : Result Reply Ending) (files : Files) (asked : RequestSeen) where
  pub simulate_so : (design plan : List ℕ) → asked ≡ simulate design plan → Replies r (answer_to files none_ended (Some (simulate design plan))) → RepliesSo r files (Some asked)
  simulate_so design plan is h = subst (λ (a : RequestSeen). RepliesSo r files (Some a)) (sym is) (none_ended, tt, h)

  pub routes_so : (design : List ℕ) → asked ≡ routes design → Replies r (answer_to files none_ended (Some (routes design))) → RepliesSo r files (Some asked)
  routes_so design is h = subst (λ (a : RequestSeen). RepliesSo r files (Some a)) (sym is) (none_ended, tt, h)

  pub check_so : (n : ℕ) (in_time : Option InTime) (design proof : List ℕ) → asked ≡ check n in_time design proof → Replies r (answer_to files none_ended (Some (check n in_time design proof))) → RepliesSo r files (Some asked)
  check_so n in_time design proof is h = subst (λ (a : RequestSeen). RepliesSo r files (Some a)) (sym is) (none_ended, tt, h)

  pub trial_so : (seed size : ℕ) → asked ≡ trial seed size → RepliesTrial r seed size → RepliesSo r files (Some asked)
  trial_so seed size is h = subst (λ (a : RequestSeen). RepliesSo r files (Some a)) (sym is) (plan_ended h.0, h.1, h.2)

  pub verify_so : (n conflicts ticks : ℕ) (mode : SearchMode) (b : Budgets) (design proof : List ℕ) → b ≡ budgets_of conflicts ticks → asked ≡ verify n conflicts ticks mode design proof → RepliesSo r files (Some (verify n b.conflicts b.ticks mode design proof)) → RepliesSo r files (Some asked)
  verify_so n conflicts ticks mode b design proof within is h = subst (λ (a : RequestSeen). RepliesSo r files (Some a)) (sym is) (subst (λ (x : Budgets). RepliesSo r files (Some (verify n x.conflicts x.ticks mode design proof))) within h)

-- the words ask for nothing
pub usage_so : (files : Files) (asked : Option RequestSeen) (reply : Reply) → asked ≡ None → reply_seen reply ≡ one_line statuses.Usage usage_line → RepliesSo (Ok reply) files asked
usage_so files asked reply is seen = subst (λ (a : Option RequestSeen). RepliesSo (Ok reply) files a) (sym is) (none_ended, tt, sym seen)

-- memory was wanting
pub want_so : (r : Result Reply Ending) (files : Files) (asked : Option RequestSeen) → r ≡ Err ending.Memory → RepliesSo r files asked
want_so r files asked is = subst (λ (x : Result Reply Ending). RepliesSo x files asked) (sym is) (none_ended, may_want files asked, tt)

-- what a search was asked for, from a request that is in range
pub search_steps : (asked : RequestSeen) (n conflicts ticks : ℕ) (mode : SearchMode) (design proof : List ℕ) → asked ≡ verify n conflicts ticks mode design proof → IsRequestInRange asked → (1 ≤ n) × (n ≤ 256)
search_steps asked n conflicts ticks mode design proof is range = subst IsRequestInRange is range

-- ---- runs

-- the reply of an ending
pub told_so : (e : Ending) (reply : Reply) (files : Files) (asked : Option RequestSeen) → e ≡ ending.RefusedWith reply → RepliesSo (Err e) files asked → RepliesSo (Ok reply) files asked
told_so e reply files asked is h = subst (λ (x : Ending). RepliesSo (Err x) files asked) is h

module _ (files : Files) (words : List (List ℕ)) (reply : Reply) (t : Status) (text new_text : Option (List ℕ)) (pieces new_pieces : Option (List (List ℕ))) where
  -- the reply was printed
  pub run_so : RepliesSo (Ok reply) files (request_of words) → Prints (reply_seen reply) t text new_text pieces new_pieces → (found : Ended) × Finds files (request_of words) found × Prints (answer_of files found words) t text new_text pieces new_pieces
  run_so h prints = (h.0, finds_so files (request_of words) h.0 h.1, prints_answer (answer_of files h.0 words) reply t text new_text pieces new_pieces h.2 prints)

  -- of a check
  pub run_infeasible : (n : ℕ) (d : Station) → RepliesSo (Ok reply) files (request_of words) → Prints (reply_seen reply) t text new_text pieces new_pieces → Checks files words n d → t ≡ statuses.Done → ReportsInfeasible n d text new_text
  run_infeasible n d h prints checks done = tells_infeasible files h.0 words n d t text new_text pieces new_pieces (prints_answer (answer_of files h.0 words) reply t text new_text pieces new_pieces h.2 prints) checks done

  -- of a simulation
  pub run_met : RepliesSo (Ok reply) files (request_of words) → DoneWhereFeasible files words reply.status → Prints (reply_seen reply) t text new_text pieces new_pieces → (d : Station) (plan : List (List Command)) → Simulates files words d plan → is_answered t ≡ true → ReportsFeasible d plan t text new_text
  run_met h done prints d plan s answered = tells_of_reply files h.0 words d plan reply t text new_text pieces new_pieces h.2 done prints s answered

-- ---- where the answer is yes or no

-- the design was read, its clauses are few, and the end of the search is said
record Searched (m : Aim) (n conflicts ticks : ℕ) (design_bytes : List ℕ) (found : Outcome) (d : Station) : Type 0 where
  fits : within_limit file.Design design_bytes ≡ Ok design_bytes
  reads : design_in design_bytes ≡ Ok d
  answer : search_reply m n conflicts ticks design_bytes found ≡ reply_for_outcome d n conflicts ticks found

was_searched : (m : Aim) (n conflicts ticks : ℕ) (design_bytes : List ℕ) (found : Outcome) (d : Station) → design_of design_bytes ≡ Ok d → is_verdict (search_reply m n conflicts ticks design_bytes found).status ≡ true → Searched m n conflicts ticks design_bytes found d
was_searched m n conflicts ticks design_bytes found d spells verdict =
    let one = passed (within_limit file.Design design_bytes) (with_text m n conflicts ticks design_bytes found) (long_refuses file.Design design_bytes) verdict in
    let two = passed (design_in one.read) (λ e. searched_in m e n conflicts ticks found) (design_refuses (and_then (design_of one.read) with_routes)) one.verdict in
    let three = passed (with_clauses m.base n two.read) (λ same. reply_for_outcome two.read n conflicts ticks found) (clauses_refuse two.read (past_limit 16000000 0 (first_clauses (by_itself m two.read n) two.read n))) two.verdict in
    let text : design_bytes ≡ one.read = file_is file.Design design_bytes one.read one.is in
    let same : d ≡ two.read = read-same one.read d two.read (ap design_of (sym text) ∙ spells) two.is in
    record {
      fits = one.is ∙ ap (λ (bytes : List ℕ). Ok bytes) (sym text);
      reads = ap design_in text ∙ (two.is ∙ ap (λ (e : Station). Ok e) (sym same));
      answer = (one.comes ∙ (two.comes ∙ three.comes)) ∙ ap (λ (e : Station). reply_for_outcome e n conflicts ticks found) (sym same);
    }

-- a plan was found
record PlanFound (found : Outcome) : Type 0 where
  plan : Plan
  verdict : Verdict
  is : found ≡ outcome.Plan plan verdict

plan_found : (d : Station) (n conflicts ticks : ℕ) (found : Outcome) → (reply_for_outcome d n conflicts ticks found).status ≡ statuses.Done → PlanFound found
plan_found d n conflicts ticks (outcome.Plan plan verdict) e = record { plan = plan; verdict = verdict; is = refl }
plan_found d n conflicts ticks (outcome.Infeasible log) e = absurd (cc)
plan_found d n conflicts ticks (outcome.ConflictsSpent log clause hints failed) e = absurd (cc)
plan_found d n conflicts ticks (outcome.TicksSpent failed sum at_hand) e = absurd (cc)
plan_found d n conflicts ticks (outcome.LogSpent log bytes next failed) e = absurd (cc)
plan_found d n conflicts ticks (outcome.TooLarge literals) e = absurd (cc)
plan_found d n conflicts ticks outcome.Memory e = absurd (cc)

-- there is no plan
none_told : (d : Station) (n conflicts ticks : ℕ) (found : Outcome) → (reply_for_outcome d n conflicts ticks found).status ≡ statuses.No → reply_for_outcome d n conflicts ticks found ≡ one_line statuses.No (infeasible_line n)
none_told d n conflicts ticks (outcome.Infeasible log) e = refl
none_told d n conflicts ticks (outcome.Plan plan verdict) e = absurd (cc)
none_told d n conflicts ticks (outcome.ConflictsSpent log clause hints failed) e = absurd (cc)
none_told d n conflicts ticks (outcome.TicksSpent failed sum at_hand) e = absurd (cc)
none_told d n conflicts ticks (outcome.LogSpent log bytes next failed) e = absurd (cc)
none_told d n conflicts ticks (outcome.TooLarge literals) e = absurd (cc)
none_told d n conflicts ticks outcome.Memory e = absurd (cc)

-- where a plan was found, memory was not wanting
ended_in : (files : Files) (n conflicts ticks : ℕ) (mode : SearchMode) (design proof : List ℕ) (found : Ended) → PlanFound found.plan → EndsWith files (Some (verify n conflicts ticks mode design proof)) found → EndsIn files (aim_of mode) n conflicts ticks design found.plan
ended_in files n conflicts ticks mode design proof found p (inl same) = (let clash = sym same ∙ p.is in absurd (cc))
ended_in files n conflicts ticks mode design proof found p (inr e) = e

-- where one of the fewest steps is looked for, it is found
fewest_so : (mode : SearchMode) (d : Station) (k : ℕ) → HasNoneBelow (aim_of mode).wanted d k → mode ≢ by.Any → (s : ℕ) → s < k → IsInfeasible d s
fewest_so by.Plain d k none other = none
fewest_so by.Bounds d k none other = none
fewest_so by.Any d k none other = absurd (other refl)
fewest_so by.Normal d k none other = none

module _ (files : Files) (words : List (List ℕ)) (n : ℕ) (d : Station) (s : Searches files words n d) (reply : Reply) (t : Status) (text new_text : Option (List ℕ)) (pieces new_pieces : Option (List (List ℕ)))
    (replies : RepliesSo (Ok reply) files (request_of words)) (prints : Prints (reply_seen reply) t text new_text pieces new_pieces) where
  abbrev found_here : Outcome
  found_here = replies.0.plan

  -- how plans that fail were excluded
  abbrev by_here : Aim
  by_here = aim_of s.mode

  answer_here : reply_seen reply ≡ search_reply by_here n s.conflicts s.ticks (files s.design_name) found_here
  answer_here = sym replies.2 ∙ ap (answer_to files replies.0) s.asked

  searched_here : is_answered t ≡ true → is_verdict t ≡ true → Searched by_here n s.conflicts s.ticks (files s.design_name) found_here d
  searched_here answered verdict = was_searched by_here n s.conflicts s.ticks (files s.design_name) found_here d s.parses_design (ap (λ (a : ReplySeen). is_verdict a.status) (sym answer_here) ∙ (ap is_verdict (sym (prints.status answered)) ∙ verdict))

  told_here : is_answered t ≡ true → is_verdict t ≡ true → reply_seen reply ≡ reply_for_outcome d n s.conflicts s.ticks found_here
  told_here answered verdict = answer_here ∙ (searched_here answered verdict).answer

  ends_here : EndsWith files (Some (verify n s.conflicts s.ticks s.mode s.design_name s.proof_name)) replies.0
  ends_here = subst (λ (a : Option RequestSeen). EndsWith files a replies.0) s.asked replies.1

  -- status 0 says that there is a plan
  pub tells_plan : t ≡ statuses.Done → ReportsPlan s.mode n d text new_text
  tells_plan done =
      let answered : is_answered t ≡ true = rw done refl in
      let verdict : is_verdict t ≡ true = rw done refl in
      let q = searched_here answered verdict in
      let reply_for = told_here answered verdict in
      let p = plan_found d n s.conflicts s.ticks found_here (ap (λ (a : ReplySeen). a.status) (sym reply_for) ∙ (sym (prints.status answered) ∙ done)) in
      let e = ended_in files n s.conflicts s.ticks s.mode s.design_name s.proof_name replies.0 p ends_here in
      let one : Ok e.design.station ≡ Ok d = sym e.parsed ∙ q.reads in
      let same : e.design.station ≡ d = cc in
      let good = admitted d (subst (λ (x : Station). is_admitted x ≡ true) same e.design.admitted) in
      let says = subst (λ (o : Outcome). IsOutcome by_here d n (budgets_of s.conflicts s.ticks) o) p.is (subst (λ (x : Station). IsOutcome by_here x n (budgets_of s.conflicts s.ticks) found_here) same e.says) in
      let feasible : IsFeasible d n p.plan.steps = says.0 in
      let lines : reply_seen reply ≡ reply_for_plan d p.plan.steps = reply_for ∙ ap (reply_for_outcome d n s.conflicts s.ticks) p.is in
      record {
        plan = p.plan.steps;
        text = prints.written answered ∙ ap (λ (a : ReplySeen). grown text (concat a.lines)) lines;
        feasible = feasible;
        fewest = fewest_so s.mode d (length p.plan.steps) says.1;
        met = met_first d p.plan.steps ((done_exactly d n p.plan.steps good feasible.runnable).1 feasible);
        safe = runs_safely d n p.plan.steps good feasible.runnable;
      }

  -- what a check says of the stored log
  log_passes : Searched by_here n s.conflicts s.ticks (files s.design_name) found_here d → (log : List ℕ) → ShowsNone d n log → check_reply n None (files s.design_name) log ≡ one_line statuses.Done (yes_line n)
  log_passes q log proves =
      answered_next (within_limit file.Design (files s.design_name)) (files s.design_name) (λ bytes. unless_refused (design_in bytes) (λ e. with_proof n e log)) q.fits
      ∙ (answered_next (design_in (files s.design_name)) d (λ e. with_proof n e log) q.reads
      ∙ (answered_next (within_limit file.Proof log) log (λ text. unless_refused (for_file n d text) (λ same. checked_against d n text)) (file_fits file.Proof log proves.within_limit)
      ∙ (answered_next (for_file n d log) d (λ same. checked_against d n log) (judged_passes n d log proves.few)
      ∙ ap reply_for proves.shows)))

  -- status 1 says that there is none, and such a log is stored
  pub tells_none : (old new : Option Files) → old ≡ Some files → Leaves (request_of words) t old new → t ≡ statuses.No → ReportsNone files s.design_name s.proof_name n d text new_text new
  tells_none old new told_files leaves ends =
      let answered : is_answered t ≡ true = rw ends refl in
      let verdict : is_verdict t ≡ true = rw ends refl in
      let q = searched_here answered verdict in
      let reply_for = told_here answered verdict in
      let line = reply_for ∙ none_told d n s.conflicts s.ticks found_here (ap (λ (a : ReplySeen). a.status) (sym reply_for) ∙ (sym (prints.status answered) ∙ ends)) in
      let left = subst (λ (a : Option RequestSeen). Leaves a t old new) s.asked leaves in
      let proof : HoldsProof files n s.design_name s.proof_name new = subst (λ (u : Status). SearchLeaves files n s.design_name s.proof_name u new) ends (left files told_files) in
      let one : Ok proof.0 ≡ Ok d = sym proof.1 ∙ q.reads in
      let same : proof.0 ≡ d = cc in
      let log : HoldsLog files s.proof_name d n new = subst (λ (x : Station). HoldsLog files s.proof_name x n new) same proof.2 in
      let some : 1 ≤ n = (requests_in_range words (verify n s.conflicts s.ticks s.mode s.design_name s.proof_name) s.asked).0 in
      record {
        text = prints.written answered ∙ (ap (λ (a : ReplySeen). grown text (concat a.lines)) line ∙ ap (grown text) (append-nil (infeasible_line n)));
        none = (yes_infeasible d (spelled_admitted (files s.design_name) d s.parses_design) n n log.log some log.proves.shows).1.1;
        stored = log;
        passes = log_passes q log.log log.proves;
      }
