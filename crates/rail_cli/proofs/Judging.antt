-- Requests for a check, and what is printed of them.
use Rattle.std.proofs.Common.{◌≡◌, ℕ, ◌≤◌, true, List, Option, refl, ap, sym, ◌∙◌, subst}
use Rattle.std.specs.List.{concat}
use Rattle.std.proofs.lemmas.List.{append-nil}
use Rattle.rail_base.specs.declared.station.Station.{Station}
use Rattle.rail_outside.specs.Files.{Files}
use Rattle.rail_outside.specs.Growth.{grown}
use Rattle.rail_words.specs.declared.request.InTime.{InTime}
use Rattle.rail_words.specs.Requests.{RequestSeen, check, IsInTimeInRange, IsRequestInRange}
use Rattle.rail_words.proofs.Ranges.{requests_in_range}
use Rattle.cli_shell.specs.declared.status.Status.{Status}
use Rattle.cli_shell.specs.declared.status.Status.TheVariants.{Done}
use Rattle.cli_shell.specs.Statuses.{is_answered}
use Rattle.proof_shell.specs.Texts.{yes_line}
use Rattle.cli_shell.specs.Answers.{ReplySeen}
use Rattle.proof_shell.specs.Answers.{check_reply}
use Rattle.rail_cli.specs.Ended.{Ended}
use Rattle.rail_cli.specs.Answers.{answer_to, answer_of}
use Rattle.rail_cli.specs.Checks.{Checks, ReportsInfeasible}
use Rattle.cli_shell.specs.Prints.{Prints}
use Rattle.proof_shell.proofs.Judging.{checked_shows}
use Rattle.proof_shell.proofs.Passing.{timed-is}
use Rattle.rail_spec.specs.Feasible.{IsInfeasible}

-- what is printed of it
pub tells_infeasible : (files : Files) (found : Ended) (words : List (List ℕ)) (n : ℕ) (d : Station) (t : Status) (text new_text : Option (List ℕ)) (pieces new_pieces : Option (List (List ℕ)))
    → Prints (answer_of files found words) t text new_text pieces new_pieces → Checks files words n d → t ≡ Done → ReportsInfeasible n d text new_text
tells_infeasible files found words n d t text new_text pieces new_pieces prints c done =
    let answered : is_answered t ≡ true = rw done refl in
    let so : answer_of files found words ≡ check_reply n c.in_time (files c.design_name) (files c.proof_name) = ap (answer_to files found) c.asked in
    let range = requests_in_range words (check n c.in_time c.design_name c.proof_name) c.asked in
    let status : (check_reply n c.in_time (files c.design_name) (files c.proof_name)).status ≡ Done = ap (λ (a : ReplySeen). a.status) (sym so) ∙ (sym (prints.status answered) ∙ done) in
    let timed_so = checked_shows n c.in_time (files c.design_name) (files c.proof_name) c.spelled range.0 range.2 c.parses_design status in
    let same : timed_so.design ≡ d = sym (timed-is n c.in_time c.spelled timed_so.design timed_so.is).is ∙ c.put in
    let shows = timed_so.shows in
    record {
      steps = shows.steps;
      least = shows.least;
      within = shows.within;
      text = prints.written answered ∙ (ap (λ (a : ReplySeen). grown text (concat a.lines)) (so ∙ shows.answer) ∙ ap (grown text) (append-nil (yes_line shows.steps)));
      none = subst (λ (e : Station). IsInfeasible e shows.steps) same shows.none;
    }

-- the steps that are asked for
pub asked_steps : (a : RequestSeen) (n : ℕ) (in_time : Option InTime) (design proof : List ℕ) → a ≡ check n in_time design proof → IsRequestInRange a → (1 ≤ n) × (n ≤ 256) × IsInTimeInRange in_time
asked_steps a n in_time design proof same range = subst IsRequestInRange same range
