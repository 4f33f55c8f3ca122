use Rattle.plan_reason_words.proofs.ends.put_finish.Goals as goal

pub returns-in-Exit : goal.returns-in-Exit
returns-in-Exit c = rw c.in-Exit.is c.put_node.ensures

pub returns-in-DeadEnd : goal.returns-in-DeadEnd
returns-in-DeadEnd c = rw c.in-DeadEnd.is c.put_node-in-DeadEnd.ensures
