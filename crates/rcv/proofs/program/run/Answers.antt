use Rattle.std.proofs.Common.{[], refl}
use Rattle.rail_words.specs.Requests.{request_of}
use Rattle.rail_words.specs.Words.{texts_of}
use Rattle.cli_shell.specs.declared.status.Status.TheVariants.{Memory}
use Rattle.rail_cli.proofs.AnyShelf.{want_prints}
use Rattle.rail_cli.proofs.Trying.{tells_nothing}
use Rattle.rcv.proofs.program.run.Goals as goal

pub returns-in-Ok : goal.returns-in-Ok
returns-in-Ok c = (texts_of c.as_slice.result.now, c.run_over_files.ensures)

pub returns-in-Err : goal.returns-in-Err
returns-in-Err c = (
  [],
  record {
    status = Memory;
    number_of = c.code.ensures;
    usage = λ answered. absurd (cc);
    prints = want_prints (request_of []) _ _;
    tried = λ seed size asked. tells_nothing seed size Memory _ _ refl;
  },
)
