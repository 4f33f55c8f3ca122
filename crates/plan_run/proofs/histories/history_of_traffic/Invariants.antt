use Rattle.plan_run.proofs.histories.history_of_traffic.Given as goal

abbrev pub ghost-run : goal.ghost-run
ghost-run g a = g.dispatch
