use Rattle.plan_reason_words.proofs.ends.put_start.Goals as goal

pub returns-in-Boundary : goal.returns-in-Boundary
returns-in-Boundary c = rw c.in-Boundary.is c.put_node.ensures
