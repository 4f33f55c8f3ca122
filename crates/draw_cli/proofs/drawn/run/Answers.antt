use Rattle.std.proofs.Common.{rules, ℕ, List, Option, Some, Err, ap, sym, ◌∙◌, subst}
use Rattle.interlocking.specs.declared.railway.Interlocking.{Interlocking}
use Rattle.named_files.specs.Replies.{RepliesOf}
use Rattle.named_files.proofs.Printing.{both_made, both_stops, of_read, of_refused}
use Rattle.cli_shell.specs.declared.input.InputFile.TheVariants as file
use Rattle.cli_shell.specs.Answers.{design_in}
use Rattle.cli_shell.proofs.Asking.{first_of_two, second_of_two}
use Rattle.rail_outside.specs.Files.{Files}
use Rattle.draw_cli.specs.Answers.{RunAnswers, RunTextAnswers}
use Rattle.draw_cli.specs.Wanted.{run}
use Rattle.draw_cli.proofs.Stopping.{design_stops, ending_stops, plan_stops}
use Rattle.draw_cli.proofs.drawn.run.Goals as goal

pub returns-in_err-bytes-clause-replies : goal.returns-in_err-bytes-clause-replies
returns-in_err-bytes-clause-replies g c =
    both_stops _ file.Design c.args.design.now c.from_residual.result RunTextAnswers (Some c.args.plan.now) c.in_err-bytes.field-0.0 (search rules) c.in_err-bytes.ensures.fetches

pub returns-in_err-bytes-clause-stops : goal.returns-in_err-bytes-clause-stops
returns-in_err-bytes-clause-stops g c =
    design_stops c.from_residual.result _ _ _ file.Design c.args.design.now c.args.plan.now c.in_err-bytes.field-0.0 (search rules) c.in_err-bytes.ensures.fetches c.fetch_named.ensures.uses.asks

pub returns-in_err-bytes-clause-uses : goal.returns-in_err-bytes-clause-uses
returns-in_err-bytes-clause-uses g c = record { cause = (search rules); never_falls = (search rules); files_stay = (search rules); asks = first_of_two _ _ _ _ c.fetch_named.ensures.uses.asks }

pub returns-in-Ok-clause-replies : goal.returns-in-Ok-clause-replies
returns-in-Ok-clause-replies g c =
    let plan = c.args.plan.now in
    let d = c.in-Ok.interlocking.design.station in
    let r = c.run_over.result in
    both_made _ file.Design c.args.design.now r RunTextAnswers plan c.in_ok-bytes.bytes c.in_ok-bytes.ensures.fetches
    (of_read _ plan r RunAnswers (design_in c.in_ok-bytes.bytes.items) d (ap design_in (sym c.as_slice.ensures.value) ∙ c.in-Ok.ensures.reads)
    (subst (λ (known : Option Files). RepliesOf known plan (λ bytes. RunAnswers bytes d) r) c.in_ok-bytes.ensures.uses.files_stay c.run_over.ensures.replies))

pub returns-in-Ok-clause-stops : goal.returns-in-Ok-clause-stops
returns-in-Ok-clause-stops g c =
    plan_stops c.run_over.result _ _ _ (λ (bytes : List ℕ). RunAnswers bytes c.in-Ok.interlocking.design.station) c.args.design.now c.args.plan.now _ c.run_over.ensures.replies c.in_ok-bytes.ensures.asked c.run_over.ensures.uses.asks

pub returns-in-Ok-clause-uses : goal.returns-in-Ok-clause-uses
returns-in-Ok-clause-uses g c = record { cause = (search rules); never_falls = (search rules); files_stay = (search rules); asks = second_of_two _ _ _ _ _ c.in_ok-bytes.ensures.asked c.run_over.ensures.uses.asks }

pub returns-clause-replies : goal.returns-clause-replies
returns-clause-replies g c =
    let plan = c.args.plan.now in
    let r = Err c.unmade_by.result in
    both_made _ file.Design c.args.design.now r RunTextAnswers plan c.in_ok-bytes.bytes c.in_ok-bytes.ensures.fetches
    (of_refused _ plan r (λ (i : Interlocking). i.design.station) RunAnswers c.in-Err.ending (design_in c.in_ok-bytes.bytes.items) (ap Err c.unmade_by.ensures) (rw c.as_slice.ensures.value at c.in-Err.ensures.reads))

pub returns-clause-stops : goal.returns-clause-stops
returns-clause-stops g c = ending_stops (Err c.unmade_by.result) _ _ (Some (run c.args.design.now c.args.plan.now)) c.in-Err.ending (ap Err c.unmade_by.ensures)
