use Rattle.rcv_design.proofs.program.run_over_files.Goals as goal

pub returns : goal.returns
returns c = record { status = c.run_design.result; number_of = c.code.ensures; prints = c.run_design.ensures.for_some_files }
