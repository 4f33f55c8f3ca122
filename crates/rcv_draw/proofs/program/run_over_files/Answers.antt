use Rattle.rcv_draw.proofs.program.run_over_files.Goals as goal

pub returns : goal.returns
returns c = record { status = c.run_draw.result; number_of = c.code.ensures; prints = c.run_draw.ensures.answer }
