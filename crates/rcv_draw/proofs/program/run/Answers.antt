use Rattle.std.proofs.Common.{[]}
use Rattle.rail_words.specs.Words.{texts_of}
use Rattle.cli_shell.specs.declared.status.Status.TheVariants.{Memory}
use Rattle.named_files.proofs.Printing.{prints_nothing_for}
use Rattle.draw_cli.specs.Answers.{IsAnswerTo, design_name, plan_name}
use Rattle.draw_cli.specs.Wanted.{wanted_of}
use Rattle.rcv_draw.proofs.program.run.Goals as goal

pub returns-in-Ok : goal.returns-in-Ok
returns-in-Ok c = (texts_of c.as_slice.result.now, c.run_over_files.ensures)

pub returns-in-Err : goal.returns-in-Err
returns-in-Err c = ([], record { status = Memory; number_of = c.code.ensures; prints = prints_nothing_for _ (design_name (wanted_of [])) (plan_name (wanted_of [])) (IsAnswerTo (wanted_of [])) _ _ })
