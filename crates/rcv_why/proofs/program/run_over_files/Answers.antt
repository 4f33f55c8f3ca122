use Rattle.rcv_why.proofs.program.run_over_files.Goals as goal

pub returns : goal.returns
returns c = record { status = c.run_why.result; number_of = c.code.ensures; prints = c.run_why.ensures.answer }
