use Rattle.std.proofs.Common.{rules, List, ℕ, [], ◌∷◌, Ok, Err, ap, subst}
use Rattle.named_files.specs.Replies.{Makes}
use Rattle.named_files.proofs.Printing.{one_made, one_stops}
use Rattle.cli_shell.specs.declared.input.InputFile.TheVariants as file
use Rattle.draw_cli.specs.Answers.{TrackAnswers}
use Rattle.draw_cli.proofs.Answering.{ending_makes}
use Rattle.draw_cli.proofs.drawn.track.Goals as goal

pub returns-in_err-bytes-clause-replies : goal.returns-in_err-bytes-clause-replies
returns-in_err-bytes-clause-replies g c = one_stops _ file.Design c.args.design.now c.from_residual.result TrackAnswers c.in_err-bytes.field-0.0 (search rules) c.in_err-bytes.ensures.fetches

pub returns-in-Ok-clause-replies : goal.returns-in-Ok-clause-replies
returns-in-Ok-clause-replies g c =
    let name = c.args.design.now in
    let r = Ok c.in-Ok.reply in
    one_made _ file.Design name r TrackAnswers c.in_ok-bytes.bytes c.in_ok-bytes.ensures.fetches (subst (λ (text : List ℕ). Makes (TrackAnswers text) (name ∷ []) r) c.as_slice.ensures.value c.in-Ok.ensures.replies)

pub returns-clause-replies : goal.returns-clause-replies
returns-clause-replies g c =
    let name = c.args.design.now in
    let r = Err c.unmade_by.result in
    one_made _ file.Design name r TrackAnswers c.in_ok-bytes.bytes c.in_ok-bytes.ensures.fetches
    (subst (λ (text : List ℕ). Makes (TrackAnswers text) (name ∷ []) r) c.as_slice.ensures.value (ending_makes (TrackAnswers c.as_slice.result.now) (name ∷ []) c.in-Err.ending r (ap Err c.unmade_by.ensures) c.in-Err.ensures.replies))
