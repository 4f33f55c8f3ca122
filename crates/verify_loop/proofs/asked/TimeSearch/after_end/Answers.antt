use Rattle.std.proofs.Common.{subst}
use Rattle.verify_loop.specs.declared.outcome.Outcome.TheVariants as outcome
use Rattle.verify_loop.specs.Lessening.{IsAtEnd}
use Rattle.verify_loop.proofs.LessTime as less
use Rattle.verify_loop.proofs.asked.TimeSearch.after_end.Goals as goal

pub returns-in-Ok : goal.returns-in-Ok
returns-in-Ok c =
    let t = c.args.self.now in
    let a = c.args.asked in
    let e = c.in-ConflictsSpent in
    let r = (subst (IsAtEnd t a) e.is c.requires).1 in
    (e.failed, less.spent_so t a r.0 r.1.0 r.1.1 r.1.2 c.in-Ok.tried.items e.failed.items (outcome.ConflictsSpent e.log e.clause e.hints e.failed) r.1.3 c.in-Ok.ensures)

pub returns-in-Ok-add_tried : goal.returns-in-Ok-add_tried
returns-in-Ok-add_tried c =
    let t = c.args.self.now in
    let a = c.args.asked in
    let e = c.in-TicksSpent in
    let r = (subst (IsAtEnd t a) e.is c.requires).1 in
    (e.failed, less.spent_so t a r.0 r.1.0 r.1.1 r.1.2 c.in-Ok-add_tried.tried.items e.failed.items (outcome.TicksSpent e.failed e.sum e.at_hand) r.1.3 c.in-Ok-add_tried.ensures)

pub returns-in-Ok-add_tried-2 : goal.returns-in-Ok-add_tried-2
returns-in-Ok-add_tried-2 c =
    let t = c.args.self.now in
    let a = c.args.asked in
    let e = c.in-LogSpent in
    let r = (subst (IsAtEnd t a) e.is c.requires).1 in
    (e.failed, less.spent_so t a r.0 r.1.0 r.1.1 r.1.2 c.in-Ok-add_tried-2.tried.items e.failed.items (outcome.LogSpent e.log e.bytes e.next e.failed) r.1.3 c.in-Ok-add_tried-2.ensures)
