-- The promises in short of searches for the least time and of checks in time, from those at length.
use Rattle.std.proofs.Common.{◌≡◌, ℕ, ◌*◌, true, List, Option, Some, Ok, refl, ap, sym, ◌∙◌, inl, inr}
use Rattle.infra_reader.specs.Design.{design_of}
use Rattle.rail_base.specs.declared.station.Station.{Station}
use Rattle.rail_outside.specs.Files.{Files}
use Rattle.rail_spelling.specs.Lines.{CheckInTimeLine, TightestLine}
use Rattle.rail_spelling.proofs.Asked.{tightest_asked, check_in_time_asked}
use Rattle.rail_words.specs.declared.request.InTime.{InTime}
use Rattle.rail_words.specs.Requests.{tightest, check, request_of}
use Rattle.timetable.specs.Timetable.{timetable_of}
use Rattle.verify_loop.specs.Lessening.{in_ticks}
use Rattle.cli_shell.specs.declared.status.Status.{Status}
use Rattle.cli_shell.specs.declared.status.Status.TheVariants.{Done, No}
use Rattle.cli_shell.specs.Answers.{unless_refused}
use Rattle.cli_shell.specs.Shows.{verdict_at_horizon}
use Rattle.cli_shell.specs.Statuses.{is_answered, is_verdict}
use Rattle.proof_shell.specs.Answers.{timed, with_proof}
use Rattle.rail_cli.specs.Answers.{timed_in, answer_to}
use Rattle.rail_cli.specs.Checks.{Checks, ReportsInfeasible}
use Rattle.rail_cli.specs.Short.{IsVerdict, CheckedInTime, FoundLeast, FoundNoTime}
use Rattle.rail_cli.specs.Times.{ReportsLeast, ReportsNoTime, TimeSearches}
use Rattle.rail_cli.proofs.Shortly.{Answered, Read, is_read, reads, verdict_answered, verdict_so}

module _ (files : Files) (words : List (List ℕ)) (t : Status) (text new_text : Option (List ℕ)) (pieces new_pieces : Option (List (List ℕ)))
    (answer : Answered files words t text new_text pieces new_pieces) where
  pub checked_in_time : (n w ms : ℕ) (design proof : List ℕ) → ((d : Station) → Checks files words n d → t ≡ Done → ReportsInfeasible n d text new_text)
      → CheckInTimeLine words n w ms design proof → t ≡ Done → CheckedInTime (files design) n w ms text new_text
  checked_in_time n w ms design proof infeasible line done =
      let (found, finds, prints) = answer in
      let time : Option InTime = Some (record { within = w; max_ms = ms }) in
      let asked = check_in_time_asked words n w ms design proof line in
      let status : is_verdict (answer_to files found (Some (check n time design proof))).status ≡ true = ap (λ a. is_verdict (answer_to files found a).status) (sym asked) ∙ (ap is_verdict (sym (prints.status (ap is_answered done))) ∙ ap is_verdict done) in
      let r = reads (files design) (λ d. unless_refused (timed n time d) (λ e. with_proof n e (files proof))) status in
      record {
        design = r.design;
        is_design = is_read (files design) r.design r.is;
        reports = infeasible _ (record { design_name = design; proof_name = proof; in_time = time; asked = asked; spelled = r.design; parses_design = r.is; put = refl }) done;
      }

  module _ (n w : ℕ) (design proof : List ℕ) (line : TightestLine words n w design proof) where
    asked_here : request_of words ≡ Some (tightest n line.conflicts line.ticks w line.bounds design proof)
    asked_here = tightest_asked words n w design proof line

    read_here : IsVerdict t → Read (files design) (λ d. timed_in line.bounds w d n line.conflicts line.ticks answer.0.time)
    read_here v =
        let (found, finds, prints) = answer in
        let status : is_verdict (answer_to files found (Some (tightest n line.conflicts line.ticks w line.bounds design proof))).status ≡ true = ap (λ a. is_verdict (answer_to files found a).status) (sym asked_here) ∙ (ap is_verdict (sym (prints.status (verdict_answered t v))) ∙ verdict_so t v) in
        reads (files design) (λ d. timed_in line.bounds w d n line.conflicts line.ticks found.time) status

    search_here : (d : Station) → design_of (files design) ≡ Ok d → TimeSearches files words n w d
    search_here d is = record { conflicts = line.conflicts; ticks = line.ticks; bounds = line.bounds; design_name = design; proof_name = proof; asked = asked_here; parses_design = is }

    pub found_least : (known : Option Files) → ((d : Station) (s : TimeSearches files words n w d) → t ≡ Done → ReportsLeast files s.design_name s.proof_name n w d text new_text known) → t ≡ Done → FoundLeast (files design) n w text new_text
    unfolding search_here
    found_least known finds done =
        let r = read_here (inl done) in
        let reports = finds r.design (search_here r.design r.is) done in
        let e : Station = in_ticks r.design w reports.least in
        record {
          design = r.design;
          is_design = is_read (files design) r.design r.is;
          least_ms = reports.least * r.design.tick_ms;
          plan = reports.plan;
          more = timetable_of e (verdict_at_horizon e reports.plan);
          text = reports.text;
          feasible = reports.feasible;
          none_less = reports.none_less;
          safe = reports.safe;
        }

    pub found_no_time : (known : Option Files) → ((d : Station) (s : TimeSearches files words n w d) → t ≡ No → ReportsNoTime files s.design_name s.proof_name n w d text new_text known) → t ≡ No → FoundNoTime (files design) n w text new_text
    found_no_time known proven ends =
        let r = read_here (inr ends) in
        let reports = proven r.design (search_here r.design r.is) ends in
        record { design = r.design; is_design = is_read (files design) r.design r.is; text = reports.text; none = reports.none }
