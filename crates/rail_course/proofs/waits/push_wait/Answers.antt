use Rattle.rail_course.proofs.Merging.{taken_off}
use Rattle.rail_course.proofs.waits.push_wait.Goals as goal

pub returns : goal.returns
returns c = taken_off c.args.waits.now.items c.pop.new.self.items c.push_two.new.waits.items c.in-Some.last c.args.wait c.in-Some.ensures.items c.in_ok-push_two.ensures
