-- Trials: their replies, and what is said of the station that is made.
use Rattle.std.proofs.Common.{◌≡◌, ℕ, ◌≤◌, ◌*◌, Bool, true, false, List, Option, None, Some, Result, Ok, Err, nat_lt, if◌then◌else◌, refl, ap, sym, ◌∙◌, subst}
use Rattle.rail_base.specs.declared.route.Route.{Route}
use Rattle.rail_base.specs.declared.plan.Command.{Command}
use Rattle.rail_base.specs.declared.plan.Violation.{Violation}
use Rattle.rail_base.specs.declared.station.Station.{Station}
use Rattle.rail_base.specs.declared.history.Verdict.TheVariants.{Undecided}
use Rattle.rail_base.specs.Admitted.{IsAdmitted}
use Rattle.rail_base.specs.Stations.{horizon}
use Rattle.rail_spec.specs.Feasible.{IsFeasible}
use Rattle.rail_spec.specs.Histories.{decided}
use Rattle.rail_spec.specs.Requirements.{cost, path_violation, violation_at}
use Rattle.rail_spec.specs.Track.{routes_of}
use Rattle.clause_spec.specs.Clauses.{base_clauses, past_limit}
use Rattle.clause_spec.specs.declared.question.BaseKind.TheVariants.{Plain}
use Rattle.rail_words.specs.declared.request.SearchMode.TheVariants as by
use Rattle.rail_words.specs.Requests.{RequestSeen, simulate, routes, verify, tightest, check, trial, IsRequestInRange}
use Rattle.verify_loop.specs.declared.outcome.Budgets.{Budgets}
use Rattle.verify_loop.specs.declared.outcome.Outcome.{Outcome}
use Rattle.verify_loop.specs.declared.outcome.Outcome.TheVariants as outcome
use Rattle.verify_loop.specs.Outcomes.{IsOutcome, Fits}
use Rattle.workload.specs.Made.{made}
use Rattle.cli_shell.specs.declared.status.Status.{Status}
use Rattle.cli_shell.specs.declared.status.Status.TheVariants as statuses
use Rattle.cli_shell.specs.declared.reply.Reply.{Reply}
use Rattle.cli_shell.specs.declared.ending.Ending.{Ending}
use Rattle.cli_shell.specs.declared.ending.Ending.TheVariants as ending
use Rattle.cli_shell.specs.Statuses.{is_answered, is_verdict}
use Rattle.cli_shell.specs.Answers.{ReplySeen, with_routes, design_or_answer, verdict_status, unless_refused}
use Rattle.proof_shell.specs.Answers.{with_clauses}
use Rattle.rail_cli.specs.Answers.{budgets_of, aim_of, trial_conflicts, trial_ticks, reply_for_trial, tried_in, tried}
use Rattle.cli_shell.specs.Shows.{verdict_at_horizon}
use Rattle.cli_shell.specs.Replies.{reply_seen, ReadsOrEnds, Replies}
use Rattle.rail_cli.specs.Replies.{deciding_tick, RepliesTrial, Tries}
use Rattle.rail_cli.specs.Searches.{EndsTrial}
use Rattle.cli_shell.specs.Prints.{Prints}
use Rattle.rail_cli.specs.Trials.{ReportsTrial}
use Rattle.cli_shell.proofs.Deciding.{answered_next, answered_refusal}
use Rattle.rail_cli.proofs.Finding.{reply_unless_many}
use Rattle.cli_shell.proofs.Passing.{passed, design_refuses, routes_answer-same}
use Rattle.proof_shell.proofs.Passing.{clauses_refuse}
use Rattle.cli_shell.proofs.Showing.{done_exactly}

-- ---- the tick at which a feasible plan is met

met_at : (d : Station) (table : List Route) (plan : List (List Command)) (late : Bool) (path run : Option Violation) → verdict_status (if late then Undecided else decided d table plan path run) ≡ statuses.Done
    → deciding_tick (if late then Undecided else decided d table plan path run) ≡ cost d table plan
met_at d table plan true path run e = absurd (cc)
met_at d table plan false (Some v) run e = absurd (cc)
met_at d table plan false None (Some v) e = absurd (cc)
met_at d table plan false None None e = refl

pub met_at_cost : (d : Station) (n : ℕ) (plan : List (List Command)) → IsAdmitted d → IsFeasible d n plan → deciding_tick (verdict_at_horizon d plan) ≡ cost d (routes_of d) plan
met_at_cost d n plan good feasible =
    met_at d (routes_of d) plan (nat_lt (horizon d) (cost d (routes_of d) plan)) (path_violation d (routes_of d) plan) (violation_at d (routes_of d) plan (cost d (routes_of d) plan)) ((done_exactly d n plan good feasible.runnable).1 feasible)

-- ---- the replies to a trial

module _ (seed size : ℕ) where
  -- what a trial may spend
  abbrev pub trial_budgets : Budgets
  trial_budgets = budgets_of trial_conflicts trial_ticks

  -- the answer to a trial of any station
  abbrev of_station : Station → Outcome → ReplySeen
  of_station d found = unless_refused (design_or_answer (with_routes d)) (λ e. tried_in seed size e found)

  -- memory was wanting
  pub want_trial : (r : Result Reply Ending) → r ≡ Err ending.Memory → RepliesTrial r seed size
  want_trial r is = subst (λ (x : Result Reply Ending). RepliesTrial x seed size) (sym is) (outcome.Memory, (tt, tt), tt)

  -- the routes were not listed
  unlisted : {X : Type 0} (view : X → Station) (d : Station) (e : Ending) → ReadsOrEnds view (Err e) (design_or_answer (with_routes d)) → Replies (Err e) (of_station d outcome.Memory)
  unlisted view d (ending.RefusedWith reply) h = answered_refusal (design_or_answer (with_routes d)) (reply_seen reply) (λ e. tried_in seed size e outcome.Memory) h
  unlisted view d ending.Memory h = tt
  unlisted view d ending.ShelfFault h = tt

  pub unlisted_so : {X : Type 0} (view : X → Station) (d : Station) (e : Ending) (r : Result Reply Ending) → d ≡ made seed size → r ≡ Err e → ReadsOrEnds view (Err e) (design_or_answer (with_routes d)) → RepliesTrial r seed size
  unlisted_so view d e r same is h =
      let here : Replies (Err e) (tried seed size outcome.Memory) = subst (λ (x : Station). Replies (Err e) (of_station x outcome.Memory)) same (unlisted view d e h) in
      subst (λ (x : Result Reply Ending). RepliesTrial x seed size) (sym is) (outcome.Memory, (tt, tt), here)

  -- the search came to its end
  pub listed_so : {X : Type 0} (view : X → Station) (d : Station) (x : X) (reply : Reply) → d ≡ made seed size → view x ≡ d → ReadsOrEnds view (Ok x) (design_or_answer (with_routes d))
      → (found : Outcome) × IsOutcome (aim_of by.Plain) d (2 * size) trial_budgets found × Fits (aim_of by.Plain) d (2 * size) found × (reply_seen reply ≡ reply_for_trial seed size d found)
      → RepliesTrial (Ok reply) seed size
  listed_so view d x reply same is reads h =
      let found = h.0 in
      let ends : IsOutcome (aim_of by.Plain) (made seed size) (2 * size) trial_budgets found × Fits (aim_of by.Plain) (made seed size) (2 * size) found = subst (λ (e : Station). IsOutcome (aim_of by.Plain) e (2 * size) trial_budgets found × Fits (aim_of by.Plain) e (2 * size) found) same (h.1, h.2) in
      let few : tried_in seed size d found ≡ reply_seen reply = reply_unless_many (aim_of by.Plain) d (2 * size) trial_budgets (reply_for_trial seed size d) (λ literals. refl) refl (Ok reply) found h.1 h.2 (sym h.3) in
      let here : of_station d found ≡ reply_seen reply = answered_next (design_or_answer (with_routes d)) d (λ e. tried_in seed size e found) (reads ∙ ap (λ (e : Station). Ok e) is) ∙ few in
      (found, ends, subst (λ (e : Station). of_station e found ≡ reply_seen reply) same here)

-- ---- the replies to a request

module _ (r : Result Reply Ending) where
  -- what is asked is this request
  pub tries_other : (asked other : RequestSeen) → asked ≡ other → Tries (Some other) r → Tries (Some asked) r
  tries_other asked other is h = subst (λ (a : RequestSeen). Tries (Some a) r) (sym is) h

  pub tries_asked : (a b : Option RequestSeen) → a ≡ b → Tries b r → Tries a r
  tries_asked a b is h = subst (λ (x : Option RequestSeen). Tries x r) (sym is) h

  -- the reply to a trial
  pub tries_trial : (seed size : ℕ) (asked : Option RequestSeen) → asked ≡ Some (trial seed size) → Tries asked r → RepliesTrial r seed size
  tries_trial seed size asked is h = subst (λ (x : Option RequestSeen). Tries x r) is h

-- memory was wanting
no_memory : (asked : Option RequestSeen) → Tries asked (Err ending.Memory)
no_memory None = tt
no_memory (Some (simulate design plan)) = tt
no_memory (Some (routes design)) = tt
no_memory (Some (verify n conflicts ticks mode design proof)) = tt
no_memory (Some (tightest n conflicts ticks w bounds design proof)) = tt
no_memory (Some (check n in_time design proof)) = tt
no_memory (Some (trial seed size)) = (outcome.Memory, (tt, tt), tt)

pub tries_want : (r : Result Reply Ending) (asked : Option RequestSeen) → r ≡ Err ending.Memory → Tries asked r
tries_want r asked is = subst (Tries asked) (sym is) (no_memory asked)

-- what a trial was asked for, from a request that is in range
pub trial_size : (asked : RequestSeen) (seed size : ℕ) → asked ≡ trial seed size → IsRequestInRange asked → (1 ≤ size) × (size ≤ 6)
trial_size asked seed size is range = let all = subst IsRequestInRange is range in (all.1, all.2)

-- the reply of an ending
pub told_trial_reply : (e : Ending) (reply : Reply) (seed size : ℕ) → e ≡ ending.RefusedWith reply → RepliesTrial (Err e) seed size → RepliesTrial (Ok reply) seed size
told_trial_reply e reply seed size is h = subst (λ (x : Ending). RepliesTrial (Err x) seed size) is h

-- ---- what is said

-- a run that ends with neither yes nor no says nothing
pub tells_nothing : (seed size : ℕ) (t : Status) (text new_text : Option (List ℕ)) → is_verdict t ≡ false → ReportsTrial seed size t text new_text
tells_nothing seed size t text new_text neither = record { planned = λ e. (let kind : is_verdict t ≡ true = ap is_verdict e in absurd (cc)); none = λ e. (let kind : is_verdict t ≡ true = ap is_verdict e in absurd (cc)) }

module _ (seed size : ℕ) (t : Status) (text new_text : Option (List ℕ)) (pieces new_pieces : Option (List (List ℕ))) where
  -- this is said of the station
  abbrev tells : Type 0
  tells = ReportsTrial seed size t text new_text

  -- the answer is neither yes nor no
  no_verdict : (a : ReplySeen) → is_verdict a.status ≡ false → Prints a t text new_text pieces new_pieces → tells
  no_verdict a neither prints = record {
    planned = λ e. (let same = prints.status (ap is_answered e) in let kind : is_verdict a.status ≡ true = ap is_verdict (sym same ∙ e) in absurd (cc));
    none = λ e. (let same = prints.status (ap is_answered e) in let kind : is_verdict a.status ≡ true = ap is_verdict (sym same ∙ e) in absurd (cc));
  }

  told_tells : (found : Outcome) → EndsTrial seed size found → Prints (reply_for_trial seed size (made seed size) found) t text new_text pieces new_pieces → tells
  told_tells (outcome.Plan plan verdict) ends prints = record {
    planned = λ e. record { plan = plan.steps; text = prints.written (ap is_answered e); feasible = ends.0.0; fewest = ends.0.1 };
    none = λ e. (let same = prints.status (ap is_answered e) in let clash = sym same ∙ e in absurd (cc));
  }
  told_tells (outcome.Infeasible log) ends prints = record {
    planned = λ e. (let same = prints.status (ap is_answered e) in let clash = sym same ∙ e in absurd (cc));
    none = λ e. record { text = prints.written (ap is_answered e); none = ends.0.0 };
  }
  told_tells (outcome.ConflictsSpent log clause hints failed) ends prints = no_verdict _ refl prints
  told_tells (outcome.TicksSpent failed sum at_hand) ends prints = no_verdict _ refl prints
  told_tells (outcome.LogSpent log bytes next failed) ends prints = no_verdict _ refl prints
  told_tells (outcome.TooLarge literals) ends prints = no_verdict _ refl prints
  told_tells outcome.Memory ends prints = no_verdict _ refl prints

  -- where the answer is yes or no, nothing was refused
  was_tried : (found : Outcome) → is_verdict (tried seed size found).status ≡ true → tried seed size found ≡ reply_for_trial seed size (made seed size) found
  was_tried found verdict =
      let one = passed (design_or_answer (with_routes (made seed size))) (λ d. tried_in seed size d found) (design_refuses (with_routes (made seed size))) verdict in
      let two = passed (with_clauses Plain (2 * size) one.read) (λ same. reply_for_trial seed size one.read found) (clauses_refuse one.read (past_limit 16000000 0 (base_clauses one.read (routes_of one.read) (2 * size)))) one.verdict in
      let same : made seed size ≡ one.read = routes_answer-same (made seed size) one.read one.is in
      one.comes ∙ two.comes ∙ ap (λ (d : Station). reply_for_trial seed size d found) (sym same)

  tells_if : (found : Outcome) → EndsTrial seed size found → Prints (tried seed size found) t text new_text pieces new_pieces → (verdict : Bool) → is_verdict (tried seed size found).status ≡ verdict → tells
  tells_if found ends prints true reply_for = told_tells found ends (subst (λ (a : ReplySeen). Prints a t text new_text pieces new_pieces) (was_tried found reply_for) prints)
  tells_if found ends prints false neither = no_verdict (tried seed size found) neither prints

  -- the reply was printed
  pub tells_trial : (reply : Reply) → RepliesTrial (Ok reply) seed size → Prints (reply_seen reply) t text new_text pieces new_pieces → tells
  tells_trial reply replies prints =
      tells_if replies.0 replies.1 (subst (λ (a : ReplySeen). Prints a t text new_text pieces new_pieces) (sym replies.2) prints) (is_verdict (tried seed size replies.0).status) refl
