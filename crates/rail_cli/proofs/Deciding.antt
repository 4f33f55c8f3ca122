-- Simulations in which nothing is refused.
use Rattle.std.proofs.Common.{◌≡◌, ℕ, Bool, true, List, Option, Some, Result, Ok, Err, IfOk, ap, sym, ◌∙◌, subst}
use Rattle.std.specs.List.{concat}
use Rattle.rail_base.specs.declared.station.Station.{Station}
use Rattle.rail_base.specs.declared.plan.Command.{Command}
use Rattle.rail_outside.specs.Files.{Files}
use Rattle.rail_outside.specs.Growth.{grown}
use Rattle.rail_words.specs.declared.request.SearchMode.{SearchMode}
use Rattle.rail_words.specs.declared.request.InTime.{InTime}
use Rattle.rail_words.specs.Requests.{RequestSeen, simulate, routes, verify, tightest, check, trial, request_of}
use Rattle.cli_shell.specs.declared.status.Status.{Status}
use Rattle.cli_shell.specs.declared.reply.Reply.{Reply}
use Rattle.cli_shell.specs.declared.ending.Ending.{Ending}
use Rattle.cli_shell.specs.declared.ending.Ending.TheVariants as ending
use Rattle.cli_shell.specs.declared.input.InputFile.TheVariants as file
use Rattle.cli_shell.specs.Statuses.{is_answered, is_refusal}
use Rattle.cli_shell.specs.Answers.{ReplySeen, design_in, plan_or_answer, plan_in, verdict_status, verdict_reply, simulation_reply}
use Rattle.rail_cli.specs.Ended.{Ended}
use Rattle.rail_cli.specs.Answers.{answer_to, answer_of}
use Rattle.cli_shell.specs.Shows.{verdict_at_horizon}
use Rattle.cli_shell.specs.Replies.{reply_seen, RefusesFile, OnReply, Replies, Decides}
use Rattle.rail_cli.specs.Replies.{DecidesRequest}
use Rattle.cli_shell.specs.Simulations.{ReportsFeasible, Settles}
use Rattle.rail_cli.specs.Simulations.{Simulates, DoneWhereFeasible}
use Rattle.cli_shell.specs.Prints.{Prints}
use Rattle.cli_shell.proofs.Refusing.{routes_can_be_listed, design_read, file_fits}
use Rattle.cli_shell.proofs.Showing.{verdict_refuses_nothing, no_unless_done, met_first, done_begins, met_done, first_done}
use Rattle.cli_shell.proofs.Deciding.{answered_next, planned_so, prints_answer}

module _ (files : Files) (words : List (List ℕ)) (d : Station) (plan : List (List Command)) (s : Simulates files words d plan) where
  pub reads_design : design_in (files s.design_name) ≡ Ok d
  reads_design = design_read (files s.design_name) d s.parses_design (routes_can_be_listed d s.once s.at_most_2000)

  pub reads_plan : plan_in d (files s.plan_name) ≡ Ok plan
  reads_plan = ap (plan_or_answer d) s.parses_plan

  pub simulated_so : simulation_reply (files s.design_name) (files s.plan_name) ≡ verdict_reply d (verdict_at_horizon d plan)
  simulated_so =
      planned_so (files s.design_name) (files s.plan_name) (files s.design_name) (file_fits file.Design (files s.design_name) s.short_design) d reads_design (files s.plan_name) (file_fits file.Plan (files s.plan_name) s.short_plan)
      ∙ answered_next (plan_in d (files s.plan_name)) plan (λ p. verdict_reply d (verdict_at_horizon d p)) reads_plan

  pub answered_so : (found : Ended) → answer_of files found words ≡ verdict_reply d (verdict_at_horizon d plan)
  answered_so found = ap (answer_to files found) s.asked ∙ simulated_so

  -- the request names its files
  module _ (design_name plan_name : List ℕ) (asked : request_of words ≡ Some (simulate design_name plan_name)) where
    same_design : s.design_name ≡ design_name
    same_design = let h = sym s.asked ∙ asked in cc

    same_plan : s.plan_name ≡ plan_name
    same_plan = let h = sym s.asked ∙ asked in cc

    pub done_here : (t : Status) → Decides (files design_name) (files plan_name) t → Settles d plan t
    done_here t dec =
        let one : Ok dec.design ≡ Ok d = sym dec.parsed ∙ ap (λ n. design_in (files n)) (sym same_design) ∙ reads_design in
        let design : dec.design ≡ d = cc in
        let two : Ok dec.decided.plan ≡ Ok plan = sym dec.decided.parsed ∙ ap (λ e. plan_in e (files plan_name)) design ∙ ap (λ n. plan_in d (files n)) (sym same_plan) ∙ reads_plan in
        let steps : dec.decided.plan ≡ plan = cc in
        let settled : Settles dec.design dec.decided.plan t = record { done = dec.decided.exactly; safe = dec.decided.safe } in
        let at_design : Settles d dec.decided.plan t = subst (λ (e : Station). Settles e dec.decided.plan t) design settled in
        subst (λ (p : List (List Command)). Settles d p t) steps at_design

    pub not_refused : (r : Reply) → simulation_reply (files design_name) (files plan_name) ≡ reply_seen r → is_refusal r.status ≡ true → ⊥
    not_refused r e refuses =
        let seen : verdict_reply d (verdict_at_horizon d plan) ≡ reply_seen r = sym simulated_so ∙ ap (λ n. simulation_reply (files n) (files s.plan_name)) same_design ∙ ap (λ n. simulation_reply (files design_name) (files n)) same_plan ∙ e in
        let kind : verdict_status (verdict_at_horizon d plan) ≡ r.status = ap (λ (a : ReplySeen). a.status) seen in
        verdict_refuses_nothing (verdict_at_horizon d plan) (ap is_refusal kind ∙ refuses)

-- words that ask for something else ask for no simulation
routes_only : (files : Files) (words : List (List ℕ)) (design_name : List ℕ) (reply : Reply) → request_of words ≡ Some (routes design_name) → DoneWhereFeasible files words reply.status
routes_only files words design_name reply asked = λ d plan s. (let clash = sym s.asked ∙ asked in absurd (cc))

verify_only : (files : Files) (words : List (List ℕ)) (n conflicts ticks : ℕ) (mode : SearchMode) (design_name proof_name : List ℕ) (reply : Reply) → request_of words ≡ Some (verify n conflicts ticks mode design_name proof_name) → DoneWhereFeasible files words reply.status
verify_only files words n conflicts ticks mode design_name proof_name reply asked = λ d plan s. (let clash = sym s.asked ∙ asked in absurd (cc))

tightest_only : (files : Files) (words : List (List ℕ)) (n conflicts ticks w : ℕ) (bounds : Bool) (design_name proof_name : List ℕ) (reply : Reply) → request_of words ≡ Some (tightest n conflicts ticks w bounds design_name proof_name) → DoneWhereFeasible files words reply.status
tightest_only files words n conflicts ticks w bounds design_name proof_name reply asked = λ d plan s. (let clash = sym s.asked ∙ asked in absurd (cc))

check_only : (files : Files) (words : List (List ℕ)) (n : ℕ) (in_time : Option InTime) (design_name proof_name : List ℕ) (reply : Reply) → request_of words ≡ Some (check n in_time design_name proof_name) → DoneWhereFeasible files words reply.status
check_only files words n in_time design_name proof_name reply asked = λ d plan s. (let clash = sym s.asked ∙ asked in absurd (cc))

trial_only : (files : Files) (words : List (List ℕ)) (seed size : ℕ) (reply : Reply) → request_of words ≡ Some (trial seed size) → DoneWhereFeasible files words reply.status
trial_only files words seed size reply asked = λ d plan s. (let clash = sym s.asked ∙ asked in absurd (cc))

-- the reply to a request says 0 exactly where the plan is feasible
pub done_where_feasible : (files : Files) (found : Ended) (words : List (List ℕ)) (asked : RequestSeen) (r : Result Reply Ending) → request_of words ≡ Some asked
    → Replies r (answer_to files found (Some asked)) → RefusesFile r → DecidesRequest files asked r
    → OnReply r (λ reply. DoneWhereFeasible files words reply.status)
done_where_feasible files found words (simulate design_name plan_name) (Ok reply) asked replies refuses decides = λ d plan s. done_here files words d plan s design_name plan_name asked reply.status decides
done_where_feasible files found words (simulate design_name plan_name) (Err (ending.RefusedWith reply)) asked replies refuses decides = λ d plan s. absurd (not_refused files words d plan s design_name plan_name asked reply replies refuses)
done_where_feasible files found words (simulate design_name plan_name) (Err ending.Memory) asked replies refuses decides = tt
done_where_feasible files found words (simulate design_name plan_name) (Err ending.ShelfFault) asked replies refuses decides = tt
done_where_feasible files found words (routes design_name) (Ok reply) asked replies refuses decides = routes_only files words design_name reply asked
done_where_feasible files found words (routes design_name) (Err (ending.RefusedWith reply)) asked replies refuses decides = routes_only files words design_name reply asked
done_where_feasible files found words (routes design_name) (Err ending.Memory) asked replies refuses decides = tt
done_where_feasible files found words (routes design_name) (Err ending.ShelfFault) asked replies refuses decides = tt
done_where_feasible files found words (verify n conflicts ticks mode design_name proof_name) (Ok reply) asked replies refuses decides = verify_only files words n conflicts ticks mode design_name proof_name reply asked
done_where_feasible files found words (verify n conflicts ticks mode design_name proof_name) (Err (ending.RefusedWith reply)) asked replies refuses decides = verify_only files words n conflicts ticks mode design_name proof_name reply asked
done_where_feasible files found words (verify n conflicts ticks mode design_name proof_name) (Err ending.Memory) asked replies refuses decides = tt
done_where_feasible files found words (verify n conflicts ticks mode design_name proof_name) (Err ending.ShelfFault) asked replies refuses decides = tt
done_where_feasible files found words (tightest n conflicts ticks w bounds design_name proof_name) (Ok reply) asked replies refuses decides = tightest_only files words n conflicts ticks w bounds design_name proof_name reply asked
done_where_feasible files found words (tightest n conflicts ticks w bounds design_name proof_name) (Err (ending.RefusedWith reply)) asked replies refuses decides = tightest_only files words n conflicts ticks w bounds design_name proof_name reply asked
done_where_feasible files found words (tightest n conflicts ticks w bounds design_name proof_name) (Err ending.Memory) asked replies refuses decides = tt
done_where_feasible files found words (tightest n conflicts ticks w bounds design_name proof_name) (Err ending.ShelfFault) asked replies refuses decides = tt
done_where_feasible files found words (check n in_time design_name proof_name) (Ok reply) asked replies refuses decides = check_only files words n in_time design_name proof_name reply asked
done_where_feasible files found words (check n in_time design_name proof_name) (Err (ending.RefusedWith reply)) asked replies refuses decides = check_only files words n in_time design_name proof_name reply asked
done_where_feasible files found words (check n in_time design_name proof_name) (Err ending.Memory) asked replies refuses decides = tt
done_where_feasible files found words (check n in_time design_name proof_name) (Err ending.ShelfFault) asked replies refuses decides = tt
done_where_feasible files found words (trial seed size) (Ok reply) asked replies refuses decides = trial_only files words seed size reply asked
done_where_feasible files found words (trial seed size) (Err (ending.RefusedWith reply)) asked replies refuses decides = trial_only files words seed size reply asked
done_where_feasible files found words (trial seed size) (Err ending.Memory) asked replies refuses decides = tt
done_where_feasible files found words (trial seed size) (Err ending.ShelfFault) asked replies refuses decides = tt

-- what is printed then
pub tells_feasible : (files : Files) (found : Ended) (words : List (List ℕ)) (d : Station) (plan : List (List Command)) (t : Status) (text new_text : Option (List ℕ)) (pieces new_pieces : Option (List (List ℕ)))
    → Prints (answer_of files found words) t text new_text pieces new_pieces → DoneWhereFeasible files words t → Simulates files words d plan → is_answered t ≡ true → ReportsFeasible d plan t text new_text
tells_feasible files found words d plan t text new_text pieces new_pieces prints exact s answered =
    let so = answered_so files words d plan s found in
    let settled = exact d plan s in
    let done = settled.done in
    let kind : t ≡ verdict_status (verdict_at_horizon d plan) = prints.status answered ∙ ap (λ (a : ReplySeen). a.status) so in
    record {
      done = done;
      failed = ((λ e f. let yes = done.1 f in absurd (cc)), (λ no. kind ∙ no_unless_done (verdict_at_horizon d plan) (λ e. no (done.0 (kind ∙ e)))));
      met = ((λ line. done.0 (kind ∙ first_done d (verdict_at_horizon d plan) _ line.0 line.1)), (λ f. met_first d plan (sym kind ∙ done.1 f)));
      begins = ((λ prefix. done.0 (kind ∙ met_done d (verdict_at_horizon d plan) prefix)), (λ f. done_begins d (verdict_at_horizon d plan) (sym kind ∙ done.1 f)));
      text = prints.written answered ∙ ap (λ (a : ReplySeen). grown text (concat a.lines)) so;
      safe = settled.safe;
    }

-- what is printed of it
pub tells_of_reply : (files : Files) (found : Ended) (words : List (List ℕ)) (d : Station) (plan : List (List Command)) (reply : Reply) (t : Status) (text new_text : Option (List ℕ)) (pieces new_pieces : Option (List (List ℕ)))
    → answer_of files found words ≡ reply_seen reply → DoneWhereFeasible files words reply.status → Prints (reply_seen reply) t text new_text pieces new_pieces → Simulates files words d plan → is_answered t ≡ true → ReportsFeasible d plan t text new_text
tells_of_reply files found words d plan reply t text new_text pieces new_pieces replies done prints s answered =
    tells_feasible files found words d plan t text new_text pieces new_pieces (prints_answer (answer_of files found words) reply t text new_text pieces new_pieces replies prints) (subst (DoneWhereFeasible files words) (sym (prints.status answered)) done) s answered

-- a request that names these files is decided by them
pub decides_named : (files : Files) (asked : RequestSeen) (design_name plan_name : List ℕ) (r : Result Reply Ending) → IfOk r (λ reply. Decides (files design_name) (files plan_name) reply.status) → asked ≡ simulate design_name plan_name → DecidesRequest files asked r
decides_named files asked design_name plan_name r decides is = subst (λ (a : RequestSeen). DecidesRequest files a r) (sym is) decides

-- a request for routes decides nothing
pub decides_routes : (files : Files) (asked : RequestSeen) (design_name : List ℕ) (r : Result Reply Ending) → asked ≡ routes design_name → DecidesRequest files asked r
decides_routes files asked design_name r is = subst (λ (a : RequestSeen). DecidesRequest files a r) (sym is) tt

-- nor does a request for a search
pub decides_verify : (files : Files) (asked : RequestSeen) (n conflicts ticks : ℕ) (mode : SearchMode) (design_name proof_name : List ℕ) (r : Result Reply Ending) → asked ≡ verify n conflicts ticks mode design_name proof_name → DecidesRequest files asked r
decides_verify files asked n conflicts ticks mode design_name proof_name r is = subst (λ (a : RequestSeen). DecidesRequest files a r) (sym is) tt

-- nor one for the least time
pub decides_tightest : (files : Files) (asked : RequestSeen) (n conflicts ticks w : ℕ) (bounds : Bool) (design_name proof_name : List ℕ) (r : Result Reply Ending) → asked ≡ tightest n conflicts ticks w bounds design_name proof_name → DecidesRequest files asked r
decides_tightest files asked n conflicts ticks w bounds design_name proof_name r is = subst (λ (a : RequestSeen). DecidesRequest files a r) (sym is) tt

-- nor one for a check
pub decides_check : (files : Files) (asked : RequestSeen) (n : ℕ) (in_time : Option InTime) (design_name proof_name : List ℕ) (r : Result Reply Ending) → asked ≡ check n in_time design_name proof_name → DecidesRequest files asked r
decides_check files asked n in_time design_name proof_name r is = subst (λ (a : RequestSeen). DecidesRequest files a r) (sym is) tt

-- nor one for a trial
pub decides_trial : (files : Files) (asked : RequestSeen) (seed size : ℕ) (r : Result Reply Ending) → asked ≡ trial seed size → DecidesRequest files asked r
decides_trial files asked seed size r is = subst (λ (a : RequestSeen). DecidesRequest files a r) (sym is) tt
