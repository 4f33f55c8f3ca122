use Rattle.rcv.proofs.program.run_over_files.Goals as goal

pub returns : goal.returns
returns c = record {
  status = c.run_watched.result;
  number_of = c.code.ensures;
  usage = c.run_watched.ensures.usage;
  prints = c.run_watched.ensures.for_some_files;
  tried = c.run_watched.ensures.tried;
}
