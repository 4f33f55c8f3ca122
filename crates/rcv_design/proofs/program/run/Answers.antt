use Rattle.std.proofs.Common.{[]}
use Rattle.rail_words.specs.Words.{texts_of}
use Rattle.cli_shell.specs.declared.status.Status.TheVariants.{Memory}
use Rattle.design_cli.specs.Wanted.{wanted_of}
use Rattle.design_cli.proofs.Reporting.{want_some}
use Rattle.rcv_design.proofs.program.run.Goals as goal

pub returns-in-Ok : goal.returns-in-Ok
returns-in-Ok c = (texts_of c.as_slice.result.now, c.run_over_files.ensures)

pub returns-in-Err : goal.returns-in-Err
returns-in-Err c = ([], record { status = Memory; number_of = c.code.ensures; prints = want_some (wanted_of []) _ _ })
