use Rattle.dispatch_run.proofs.traffic.Traffic.advance.Given as goal

abbrev pub ghost-next_states : goal.ghost-next_states
ghost-next_states g a = g.dispatch

abbrev pub ghost-next_histories : goal.ghost-next_histories
ghost-next_histories g a = g.dispatch

abbrev pub ghost-next_looks : goal.ghost-next_looks
ghost-next_looks g a = g.dispatch
