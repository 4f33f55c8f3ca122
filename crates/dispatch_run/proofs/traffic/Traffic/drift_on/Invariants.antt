use Rattle.dispatch_run.proofs.traffic.Traffic.drift_on.Given as goal

abbrev pub ghost-go_ticks : goal.ghost-go_ticks
ghost-go_ticks g a = g.dispatch
