use Rattle.live_clause_spec.proofs.Shown.{feasible_are_live, lists, tells}
use Rattle.live_clause_spec.proofs.laws.live_commands_stand_in_ways.Goals as goal

pub returns-clause-tells : goal.returns-clause-tells
returns-clause-tells c = tells

pub returns-clause-lists : goal.returns-clause-lists
returns-clause-lists c = lists

pub returns-clause-feasible : goal.returns-clause-feasible
returns-clause-feasible c = feasible_are_live
