use Rattle.std.proofs.Common.{rules, ℕ, List, Option, Some, Err, ap, sym, ◌∙◌, subst}
use Rattle.interlocking.specs.declared.railway.Interlocking.{Interlocking}
use Rattle.named_files.specs.Replies.{RepliesOf}
use Rattle.named_files.proofs.Printing.{both_made, both_stops, of_read, of_refused}
use Rattle.rail_base.specs.declared.station.Station.{Station}
use Rattle.cli_shell.specs.declared.input.InputFile.TheVariants as file
use Rattle.why_cli.specs.Answers.{design_for}
use Rattle.cli_shell.proofs.Asking.{first_of_two, second_of_two}
use Rattle.rail_outside.specs.Files.{Files}
use Rattle.why_cli.specs.Replies.{IsFileAnswer, IsTextAnswer}
use Rattle.why_cli.proofs.replying.for_both.Goals as goal

pub returns-in_err-bytes-clause-replies : goal.returns-in_err-bytes-clause-replies
returns-in_err-bytes-clause-replies g c =
    both_stops _ file.Design c.args.design.now c.from_residual.result (IsTextAnswer c.args.steps c.args.in_time) (Some c.args.name.now) c.in_err-bytes.field-0.0 (search rules) c.in_err-bytes.ensures.fetches

pub returns-in_err-bytes-clause-uses : goal.returns-in_err-bytes-clause-uses
returns-in_err-bytes-clause-uses g c = record { cause = (search rules); never_falls = (search rules); files_stay = (search rules); asks = first_of_two _ _ _ _ c.fetch_named.ensures.uses.asks }

pub returns-in-Ok-clause-replies : goal.returns-in-Ok-clause-replies
returns-in-Ok-clause-replies g c =
    let steps = c.args.steps in
    let t = c.args.in_time in
    let name = c.args.name.now in
    let text = c.in_ok-bytes.bytes.items in
    let d = c.in-Ok.interlocking.design.station in
    let r = c.for_file.result in
    both_made _ file.Design c.args.design.now r (IsTextAnswer steps t) name c.in_ok-bytes.bytes c.in_ok-bytes.ensures.fetches
    (of_read _ name r (λ (bytes : List ℕ) (x : Station). IsFileAnswer t text steps x bytes) (design_for steps t text) d (ap (design_for steps t) (sym c.as_slice.ensures.value) ∙ c.in-Ok.ensures.reads)
    (subst (λ (known : Option Files). RepliesOf known name (IsFileAnswer t text steps d) r) c.in_ok-bytes.ensures.uses.files_stay
    (subst (λ (b : List ℕ). RepliesOf (g.S.Shelf.known_files c.fetch_named.new.shelf) name (IsFileAnswer t b steps d) r) c.as_slice-in-Ok.ensures.value c.for_file.ensures.replies)))

pub returns-in-Ok-clause-uses : goal.returns-in-Ok-clause-uses
returns-in-Ok-clause-uses g c = record { cause = (search rules); never_falls = (search rules); files_stay = (search rules); asks = second_of_two _ _ _ _ _ c.in_ok-bytes.ensures.asked c.for_file.ensures.uses.asks }

pub returns-clause-replies : goal.returns-clause-replies
returns-clause-replies g c =
    let steps = c.args.steps in
    let t = c.args.in_time in
    let name = c.args.name.now in
    let text = c.in_ok-bytes.bytes.items in
    let r = Err c.unmade_by.result in
    both_made _ file.Design c.args.design.now r (IsTextAnswer steps t) name c.in_ok-bytes.bytes c.in_ok-bytes.ensures.fetches
    (of_refused _ name r (λ (i : Interlocking). i.design.station) (λ (bytes : List ℕ) (x : Station). IsFileAnswer t text steps x bytes) c.in-Err.ending (design_for steps t text) (ap Err c.unmade_by.ensures)
    (rw c.as_slice.ensures.value at c.in-Err.ensures.reads))
