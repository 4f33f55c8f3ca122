use Rattle.rail_course.proofs.Merging.{and_more, both_more, one_more}
use Rattle.rail_course.specs.Waits.{is_over}
use Rattle.rail_course.proofs.waits.push_two.Goals as goal

pub returns-in_default : goal.returns-in_default
returns-in_default c =
    and_more c.args.waits.now.items c.push.new.self.items c.push-in_default.new.self.items (λ ps. is_over ps c.args.first) (λ ps. is_over ps c.args.second) _ _
    (one_more c.args.waits.now.items c.push.new.self.items c.args.first c.in_ok-push.ensures.items) (one_more c.push.new.self.items c.push-in_default.new.self.items c.args.second c.in_ok-push-2.ensures.items)

pub returns : goal.returns
returns c = both_more c.args.waits.now.items c.push-2.new.self.items c.args.first c.args.second c.in-Some.both c.in_ok-push-3.ensures.items c.in-Some.ensures.over c.in-Some.ensures.one
