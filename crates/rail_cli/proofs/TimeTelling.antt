-- What is said of a search for the least time, where its answer is yes or no.
use Rattle.std.proofs.Common.{◌≡◌, ℕ, ◌≤◌, ◌*◌, ◌-◌, Bool, true, false, List, length, nat_le, if◌then◌else◌, Option, Some, Ok, Err, Vec, Global, refl, ap, sym, ◌∙◌, subst, inl, inr, arith, leb-true}
use Rattle.std.specs.List.{concat}
use Rattle.std.proofs.lemmas.List.{append-nil}
use Rattle.base_spec.specs.Bases.{clauses_of}
use Rattle.clause_spec.specs.Clauses.{past_limit}
use Rattle.infra_reader.specs.Design.{design_of}
use Rattle.infra_reader.proofs.Reading.{spelled_admitted}
use Rattle.interlocking.specs.declared.railway.Interlocking.{Interlocking}
use Rattle.rail_base.specs.Admitted.{IsAdmitted}
use Rattle.rail_base.specs.Stations.{horizon}
use Rattle.rail_base.specs.declared.history.Verdict.{Verdict}
use Rattle.rail_base.specs.declared.plan.Plan.{Plan}
use Rattle.rail_base.specs.declared.station.Station.{Station}
use Rattle.rail_outside.specs.Files.{Files}
use Rattle.rail_outside.specs.Growth.{grown}
use Rattle.rail_spec.specs.Feasible.{IsFeasible}
use Rattle.rail_spec.specs.Track.{routes_of}
use Rattle.rail_words.specs.Requests.{RequestSeen, tightest, request_of}
use Rattle.rail_words.proofs.Ranges.{requests_in_range}
use Rattle.verify_loop.specs.declared.least_time.Tightest.{Tightest}
use Rattle.verify_loop.specs.declared.least_time.Tightest.TheVariants as least_time
use Rattle.verify_loop.specs.Lessening.{in_ticks, untimed}
use Rattle.verify_loop.specs.Tightening.{IsTightest, base_for}
use Rattle.cli_shell.specs.declared.status.Status.{Status}
use Rattle.cli_shell.specs.declared.status.Status.TheVariants as statuses
use Rattle.cli_shell.specs.declared.input.InputFile.TheVariants as file
use Rattle.cli_shell.specs.declared.reply.Reply.{Reply}
use Rattle.cli_shell.specs.Statuses.{is_answered, is_verdict}
use Rattle.cli_shell.specs.Texts.{no_within_line}
use Rattle.cli_shell.specs.Answers.{ReplySeen, one_line, within_limit, with_routes, and_then, design_in, with_within, unless_refused}
use Rattle.cli_shell.specs.Replies.{reply_seen}
use Rattle.cli_shell.specs.Prints.{Prints}
use Rattle.proof_shell.specs.Answers.{with_clauses, timed, for_file, reply_for, checked_against, with_proof, check_reply}
use Rattle.proof_shell.specs.Texts.{yes_line}
use Rattle.rail_cli.specs.Answers.{budgets_of, reply_for_least, reply_for_time, timed_in, time_reply, answer_to}
use Rattle.rail_cli.specs.Ended.{Ended}
use Rattle.rail_cli.specs.Replies.{EndsTimeIn, EndsWith, RepliesSo}
use Rattle.rail_cli.specs.Searches.{Leaves}
use Rattle.rail_cli.specs.Stored.{ShowsNone, HoldsLog}
use Rattle.rail_cli.specs.Texts.{infeasible_line}
use Rattle.rail_cli.specs.Times.{AreLeastTicks, HoldsLeast, HoldsNoTime, HoldsPassing, ReportsLeast, ReportsNoTime, TimeLeaves, TimeSearches, ticks_put}
use Rattle.cli_shell.proofs.Deciding.{answered_next}
use Rattle.cli_shell.proofs.Passing.{passed, long_refuses, design_refuses, within_refuses, read-same}
use Rattle.cli_shell.proofs.Refusing.{file_fits, file_is}
use Rattle.cli_shell.proofs.Showing.{done_exactly, runs_safely, met_first}
use Rattle.proof_shell.proofs.Judging.{judged_passes, time_passes}
use Rattle.proof_shell.proofs.Passing.{clauses_refuse}
use Rattle.rail_cli.proofs.LeastTicks.{put_later, least_so, by_horizon, ticks_admitted, none_at_all, one_least}

-- ---- what was passed

-- the design has the within
within_has : (w : ℕ) (d e : Station) → with_within w d ≡ Ok e → w ≤ length d.withins
within_has w d e h = go (nat_le w (length d.withins)) refl h
  where
    go : (has : Bool) → nat_le w (length d.withins) ≡ has → (if has then Ok d else Err (one_line statuses.DesignRefused no_within_line)) ≡ Ok e → w ≤ length d.withins
    go true at q = leb-true _ _ at
    go false at q = absurd (cc)

-- the design was read, its clauses are few, it has the within, and the end of the search is said
record Timed (bounds : Bool) (w n conflicts ticks : ℕ) (design_bytes : List ℕ) (found : Tightest) (d : Station) : Type 0 where
  fits : within_limit file.Design design_bytes ≡ Ok design_bytes
  reads : design_in design_bytes ≡ Ok d
  has : w ≤ length d.withins
  answer : time_reply bounds w n conflicts ticks design_bytes found ≡ reply_for_time w n conflicts ticks found

was_timed : (bounds : Bool) (w n conflicts ticks : ℕ) (design_bytes : List ℕ) (found : Tightest) (d : Station) → design_of design_bytes ≡ Ok d → is_verdict (time_reply bounds w n conflicts ticks design_bytes found).status ≡ true → Timed bounds w n conflicts ticks design_bytes found d
was_timed bounds w n conflicts ticks design_bytes found d spells verdict =
    let next : ReplySeen = reply_for_time w n conflicts ticks found in
    let one = passed (within_limit file.Design design_bytes) (λ text. unless_refused (design_in text) (λ e. timed_in bounds w e n conflicts ticks found)) (long_refuses file.Design design_bytes) verdict in
    let two = passed (design_in one.read) (λ e. timed_in bounds w e n conflicts ticks found) (design_refuses (and_then (design_of one.read) with_routes)) one.verdict in
    let three = passed (with_clauses (base_for bounds w) n two.read) (λ same. unless_refused (with_within w two.read) (λ same. next)) (clauses_refuse two.read (past_limit 16000000 0 (clauses_of (base_for bounds w) two.read (routes_of two.read) n))) two.verdict in
    let four = passed (with_within w two.read) (λ same. next) (within_refuses w two.read) three.verdict in
    let text : design_bytes ≡ one.read = file_is file.Design design_bytes one.read one.is in
    let same : d ≡ two.read = read-same one.read d two.read (ap design_of (sym text) ∙ spells) two.is in
    record {
      fits = one.is ∙ ap (λ (bytes : List ℕ). Ok bytes) (sym text);
      reads = ap design_in text ∙ (two.is ∙ ap (λ (e : Station). Ok e) (sym same));
      has = subst (λ (e : Station). w ≤ length e.withins) (sym same) (within_has w two.read four.read four.is);
      answer = one.comes ∙ (two.comes ∙ (three.comes ∙ four.comes));
    }

-- ---- what was found

-- a least time was found
record LeastFound (found : Tightest) : Type 0 where
  interlocking : Interlocking
  least : ℕ
  plan : Plan
  verdict : Verdict
  log : Option (Vec ℕ Global)
  is : found ≡ least_time.Least interlocking least plan verdict log

least_found : (w n conflicts ticks : ℕ) (found : Tightest) → (reply_for_time w n conflicts ticks found).status ≡ statuses.Done → LeastFound found
least_found w n conflicts ticks (least_time.Least i least plan verdict log) e = record { interlocking = i; least = least; plan = plan; verdict = verdict; log = log; is = refl }
least_found w n conflicts ticks (least_time.Infeasible log) e = absurd (cc)
least_found w n conflicts ticks (least_time.ConflictsSpent log clause hints asked tried) e = absurd (cc)
least_found w n conflicts ticks (least_time.TicksSpent sum at_hand asked tried) e = absurd (cc)
least_found w n conflicts ticks (least_time.LogSpent log bytes next asked tried) e = absurd (cc)
least_found w n conflicts ticks (least_time.TooLarge literals) e = absurd (cc)
least_found w n conflicts ticks least_time.Memory e = absurd (cc)

-- there is no time
record NoTimeFound (w n conflicts ticks : ℕ) (found : Tightest) : Type 0 where
  log : Vec ℕ Global
  is : found ≡ least_time.Infeasible log
  line : reply_for_time w n conflicts ticks found ≡ one_line statuses.No (infeasible_line n)

no_time_found : (w n conflicts ticks : ℕ) (found : Tightest) → (reply_for_time w n conflicts ticks found).status ≡ statuses.No → NoTimeFound w n conflicts ticks found
no_time_found w n conflicts ticks (least_time.Infeasible log) e = record { log = log; is = refl; line = refl }
no_time_found w n conflicts ticks (least_time.Least i least plan verdict log) e = absurd (cc)
no_time_found w n conflicts ticks (least_time.ConflictsSpent log clause hints asked tried) e = absurd (cc)
no_time_found w n conflicts ticks (least_time.TicksSpent sum at_hand asked tried) e = absurd (cc)
no_time_found w n conflicts ticks (least_time.LogSpent log bytes next asked tried) e = absurd (cc)
no_time_found w n conflicts ticks (least_time.TooLarge literals) e = absurd (cc)
no_time_found w n conflicts ticks least_time.Memory e = absurd (cc)

-- where the answer has a verdict, memory was not wanting
memory_silent : (w n conflicts ticks : ℕ) (found : Tightest) → is_verdict (reply_for_time w n conflicts ticks found).status ≡ true → found ≡ least_time.Memory → ⊥
memory_silent w n conflicts ticks found verdict same = (let kind : false ≡ true = ap (λ (o : Tightest). is_verdict (reply_for_time w n conflicts ticks o).status) (sym same) ∙ verdict in cc)

timed_end : (files : Files) (n conflicts ticks w : ℕ) (bounds : Bool) (design proof : List ℕ) (found : Ended) → is_verdict (reply_for_time w n conflicts ticks found.time).status ≡ true → EndsWith files (Some (tightest n conflicts ticks w bounds design proof)) found → EndsTimeIn files bounds w n conflicts ticks design found.time
timed_end files n conflicts ticks w bounds design proof found verdict (inl same) = absurd (memory_silent w n conflicts ticks found.time verdict same)
timed_end files n conflicts ticks w bounds design proof found verdict (inr e) = e

-- ---- what is said

module _ (files : Files) (words : List (List ℕ)) (n w : ℕ) (d : Station) (s : TimeSearches files words n w d) (reply : Reply) (t : Status) (text new_text : Option (List ℕ)) (pieces new_pieces : Option (List (List ℕ)))
    (replies : RepliesSo (Ok reply) files (request_of words)) (prints : Prints (reply_seen reply) t text new_text pieces new_pieces) where
  abbrev found_here : Tightest
  found_here = replies.0.time

  answer_here : reply_seen reply ≡ time_reply s.bounds w n s.conflicts s.ticks (files s.design_name) found_here
  answer_here = sym replies.2 ∙ ap (answer_to files replies.0) s.asked

  timed_here : is_answered t ≡ true → is_verdict t ≡ true → Timed s.bounds w n s.conflicts s.ticks (files s.design_name) found_here d
  timed_here answered verdict = was_timed s.bounds w n s.conflicts s.ticks (files s.design_name) found_here d s.parses_design (ap (λ (a : ReplySeen). is_verdict a.status) (sym answer_here) ∙ (ap is_verdict (sym (prints.status answered)) ∙ verdict))

  told_here : is_answered t ≡ true → is_verdict t ≡ true → reply_seen reply ≡ reply_for_time w n s.conflicts s.ticks found_here
  told_here answered verdict = answer_here ∙ (timed_here answered verdict).answer

  status_here : is_answered t ≡ true → is_verdict t ≡ true → t ≡ (reply_for_time w n s.conflicts s.ticks found_here).status
  status_here answered verdict = prints.status answered ∙ ap (λ (a : ReplySeen). a.status) (told_here answered verdict)

  low_here : 1 ≤ w
  low_here = (requests_in_range words (tightest n s.conflicts s.ticks w s.bounds s.design_name s.proof_name) s.asked).2

  good_here : IsAdmitted d
  good_here = spelled_admitted (files s.design_name) d s.parses_design

  some_here : 1 ≤ d.tick_ms
  some_here = let tick = good_here.tick.0 in omega (arith, tick)

  -- what the end of the search says
  says_here : is_answered t ≡ true → is_verdict t ≡ true → IsTightest (base_for s.bounds w) (untimed d w) w n (budgets_of s.conflicts s.ticks) found_here
  says_here answered verdict =
      let e = timed_end files n s.conflicts s.ticks w s.bounds s.design_name s.proof_name replies.0 (ap is_verdict (sym (status_here answered verdict)) ∙ verdict) (subst (λ (a : Option RequestSeen). EndsWith files a replies.0) s.asked replies.1) in
      let one : Ok e.design.station ≡ Ok d = sym e.parsed ∙ (timed_here answered verdict).reads in
      let same : e.design.station ≡ d = cc in
      subst (λ (x : Station). IsTightest (base_for s.bounds w) (untimed x w) w n (budgets_of s.conflicts s.ticks) found_here) same e.says

  -- what a check says of a stored log, with the time put in
  log_passes : Timed s.bounds w n s.conflicts s.ticks (files s.design_name) found_here d → (ticks : ℕ) (log : List ℕ) → ShowsNone (in_ticks d w ticks) n log → check_reply n (ticks_put d w ticks) (files s.design_name) log ≡ one_line statuses.Done (yes_line n)
  log_passes q ticks log proves =
      let e : Station = in_ticks d w ticks in
      answered_next (within_limit file.Design (files s.design_name)) (files s.design_name) (λ bytes. unless_refused (design_in bytes) (λ c. unless_refused (timed n (ticks_put d w ticks) c) (λ x. with_proof n x log))) q.fits
      ∙ (answered_next (design_in (files s.design_name)) d (λ c. unless_refused (timed n (ticks_put d w ticks) c) (λ x. with_proof n x log)) q.reads
      ∙ (answered_next (timed n (ticks_put d w ticks) d) e (λ x. with_proof n x log) (time_passes n (ticks_put d w ticks) d q.has)
      ∙ (answered_next (within_limit file.Proof log) log (λ bytes. unless_refused (for_file n e bytes) (λ same. checked_against e n bytes)) (file_fits file.Proof log proves.within_limit)
      ∙ (answered_next (for_file n e log) e (λ same. checked_against e n log) (judged_passes n e log proves.few)
      ∙ ap reply_for proves.shows))))

  passing : Timed s.bounds w n s.conflicts s.ticks (files s.design_name) found_here d → (ticks : ℕ) (known : Option Files) → HoldsLog files s.proof_name (in_ticks d w ticks) n known → HoldsPassing files s.design_name s.proof_name n w d ticks known
  passing q ticks known log = record { stored = log; passes = log_passes q ticks log.log log.proves }

  -- the design that is left is the one
  same_here : Timed s.bounds w n s.conflicts s.ticks (files s.design_name) found_here d → (e : Station) → design_in (files s.design_name) ≡ Ok e → e ≡ d
  same_here q e parsed = (let one : Ok e ≡ Ok d = sym parsed ∙ q.reads in cc)

  -- what is left says of the design what it says
  least_left : Timed s.bounds w n s.conflicts s.ticks (files s.design_name) found_here d → (known : Option Files) (least : ℕ) → AreLeastTicks d w n least → HoldsLeast files n w s.design_name s.proof_name known
      → (least ≡ 0 → known ≡ Some files) × (1 ≤ least → HoldsPassing files s.design_name s.proof_name n w d (least - 1) known)
  least_left q known least are h =
      let same = same_here q h.0 h.1 in
      let all = subst (λ (x : Station). (k : ℕ) × AreLeastTicks x w n k × (k ≡ 0 → known ≡ Some files) × (1 ≤ k → HoldsLog files s.proof_name (in_ticks x w (k - 1)) n known)) same h.2 in
      let one : all.0 ≡ least = one_least d w n all.0 least some_here all.1 are in (
        λ none. all.2 (one ∙ none),
        λ some. passing q (least - 1) known (subst (λ k. HoldsLog files s.proof_name (in_ticks d w (k - 1)) n known) one (all.3 (subst (λ k. 1 ≤ k) (sym one) some))),
      )

  -- status 0 says that there is a least time
  pub tells_least : (old new : Option Files) → old ≡ Some files → Leaves (request_of words) t old new → t ≡ statuses.Done → ReportsLeast files s.design_name s.proof_name n w d text new_text new
  tells_least old new told_files leaves done =
      let answered : is_answered t ≡ true = rw done refl in
      let verdict : is_verdict t ≡ true = rw done refl in
      let q = timed_here answered verdict in
      let p = least_found w n s.conflicts s.ticks found_here (sym (status_here answered verdict) ∙ done) in
      let says = subst (λ (o : Tightest). IsTightest (base_for s.bounds w) (untimed d w) w n (budgets_of s.conflicts s.ticks) o) p.is (says_here answered verdict) in
      let here = put_later d w low_here q.has (p.least * d.tick_ms) in
      let e : Station = in_ticks d w p.least in
      let are : AreLeastTicks d w n p.least = least_so d w low_here q.has (base_for s.bounds w) n p.least p.plan p.verdict says.1 in
      let all = by_horizon d w low_here q.has n p.least some_here are in
      let good = ticks_admitted d w low_here q.has good_here p.least all in
      let feasible : IsFeasible e n p.plan.steps = subst (λ (x : Station). IsFeasible x n p.plan.steps) here says.1.feasible in
      let design : p.interlocking.design.station ≡ e = says.0 ∙ here in
      let lines : reply_seen reply ≡ reply_for_least e w p.least p.plan.steps = told_here answered verdict ∙ (ap (reply_for_time w n s.conflicts s.ticks) p.is ∙ ap (λ (x : Station). reply_for_least x w p.least p.plan.steps) design) in
      let left = subst (λ (a : Option RequestSeen). Leaves a t old new) s.asked leaves in
      let holds : HoldsLeast files n w s.design_name s.proof_name new = subst (λ (u : Status). TimeLeaves files n w s.design_name s.proof_name u new) done (left files told_files) in
      let stored = least_left q new p.least are holds in
      record {
        least = p.least;
        plan = p.plan.steps;
        text = prints.written answered ∙ ap (λ (a : ReplySeen). grown text (concat a.lines)) lines;
        feasible = feasible;
        none_less = are.none_less;
        met = met_first e p.plan.steps ((done_exactly e n p.plan.steps good feasible.runnable).1 feasible);
        safe = runs_safely e n p.plan.steps good feasible.runnable;
        none_stored = stored.0;
        shown = stored.1;
      }

  -- status 1 says that there is none
  pub tells_no_time : (old new : Option Files) → old ≡ Some files → Leaves (request_of words) t old new → t ≡ statuses.No → ReportsNoTime files s.design_name s.proof_name n w d text new_text new
  tells_no_time old new told_files leaves ends =
      let answered : is_answered t ≡ true = rw ends refl in
      let verdict : is_verdict t ≡ true = rw ends refl in
      let q = timed_here answered verdict in
      let p = no_time_found w n s.conflicts s.ticks found_here (sym (status_here answered verdict) ∙ ends) in
      let says = subst (λ (o : Tightest). IsTightest (base_for s.bounds w) (untimed d w) w n (budgets_of s.conflicts s.ticks) o) p.is (says_here answered verdict) in
      let line = told_here answered verdict ∙ p.line in
      let left = subst (λ (a : Option RequestSeen). Leaves a t old new) s.asked leaves in
      let holds : HoldsNoTime files n w s.design_name s.proof_name new = subst (λ (u : Status). TimeLeaves files n w s.design_name s.proof_name u new) ends (left files told_files) in
      let log : HoldsLog files s.proof_name (in_ticks d w (horizon d)) n new = subst (λ (x : Station). HoldsLog files s.proof_name (in_ticks x w (horizon x)) n new) (same_here q holds.0 holds.1) holds.2 in
      record {
        text = prints.written answered ∙ (ap (λ (a : ReplySeen). grown text (concat a.lines)) line ∙ ap (grown text) (append-nil (infeasible_line n)));
        none = none_at_all d w low_here q.has n says.0;
        shown = passing q (horizon d) new log;
      }
