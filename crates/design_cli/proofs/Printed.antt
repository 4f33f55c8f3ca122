-- What is printed of a plan.
use Rattle.std.proofs.Common.{◌≡◌, ℕ, true, false, inl, inr, List, Option, Some, Ok, ap, sym, ◌∙◌, subst}
use Rattle.std.specs.List.{concat}
use Rattle.rail_base.specs.declared.station.Station.{Station}
use Rattle.rail_base.specs.Admission.{is_admitted}
use Rattle.rail_outside.specs.Files.{Files}
use Rattle.rail_outside.specs.Growth.{grown}
use Rattle.cli_shell.specs.declared.status.Status.{Status}
use Rattle.cli_shell.specs.declared.status.Status.TheVariants.{Done}
use Rattle.cli_shell.specs.Answers.{ReplySeen}
use Rattle.cli_shell.specs.Statuses.{is_answered}
use Rattle.design_cli.specs.declared.wanted.Form.{Form}
use Rattle.design_cli.specs.Answers.{answer_to, design_in_file, names_in, plan_answer}
use Rattle.design_cli.specs.Laws.{PrintsPlan}
use Rattle.design_cli.specs.Reports.{Reports}
use Rattle.design_cli.specs.Wanted.{Wanted, of_plan}
use Rattle.design_cli.proofs.ThereAndBack.{goes_there_and_back_of_file}

module _ (s : Status) (text new_text : Option (List ℕ)) (pieces new_pieces : Option (List (List ℕ))) where
  printed : (form : Form) (design_bytes plan_bytes : List ℕ) (names : List (List ℕ)) → ((d : Station) → design_in_file design_bytes ≡ Ok d → is_admitted d ≡ true)
      → Reports (plan_answer form design_bytes plan_bytes) names s text new_text pieces new_pieces → s ≡ Done → PrintsPlan form design_bytes plan_bytes text new_text
  printed form design_bytes plan_bytes names admitted (inl h) done =
      let status = sym (h.prints.status (ap is_answered done)) ∙ done in
      let back = goes_there_and_back_of_file form design_bytes plan_bytes admitted status in
      record { comes_back = back; written = h.prints.written (ap is_answered done) ∙ ap (λ (a : ReplySeen). grown text (concat a.lines)) back.answer }
  printed form design_bytes plan_bytes names admitted (inr h) done = let e : false ≡ true = sym h.prints.unanswered ∙ ap is_answered done in absurd (cc)

  pub prints_plan : (files : Files) (wanted : Option Wanted) (form : Form) (design plan : List ℕ) → wanted ≡ Some (of_plan form design plan) → ((d : Station) → design_in_file (files design) ≡ Ok d → is_admitted d ≡ true)
      → Reports (answer_to files wanted) (names_in wanted) s text new_text pieces new_pieces → s ≡ Done → PrintsPlan form (files design) (files plan) text new_text
  prints_plan files wanted form design plan is admitted h done =
      printed form (files design) (files plan) (names_in (Some (of_plan form design plan))) admitted
      (subst (λ (w : Option Wanted). Reports (answer_to files w) (names_in w) s text new_text pieces new_pieces) is h) done
