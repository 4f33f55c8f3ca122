use Rattle.std.proofs.Common.{◌==◌, refl, ◌∙◌}
use Rattle.rail_base.specs.declared.station.SectionNo.{SectionNo}
use Rattle.rail_course.specs.declared.waits.Wait.{Wait}
use Rattle.rail_spec.specs.Plans.{is_train}
use Rattle.dispatcher.specs.Queues.{queue_at}
use Rattle.dispatcher.specs.Turned.{of_train}
use Rattle.dispatcher.proofs.Gathering.{at_most, filter-twice, left_more}
use Rattle.dispatcher.proofs.enter.leave.Goals as goal

pub loop-section-init : goal.loop-section-init
loop-section-init c = record { many = refl; left = λ z. refl }

pub keep-requires-clause-at_least_one : goal.keep-requires-clause-at_least_one
keep-requires-clause-at_least_one c = (c.requires c.loop-section.section-index _ c.loop-section-test.true).0

pub keep-requires-clause-within : goal.keep-requires-clause-within
keep-requires-clause-within c = at_most _ _ _ c.loop-section.invariant.many (c.requires c.loop-section.section-index _ c.loop-section-test.true).1

pub loop-section-preserved : goal.loop-section-preserved
loop-section-preserved c = record {
  many = c.keep.ensures.same_length ∙ c.loop-section.invariant.many;
  left = λ z. left_more (of_train c.args.train) (λ ws. filter-twice (λ (w : Wait). is_train w.event.train c.args.train) ws) (λ (y : SectionNo). y.0 == z.0) c.args.sections.now c.loop-section.section-index _ c.loop-section-test.true (queue_at c.keep.new.lists.items z) (queue_at c.loop-section.queues.items z) (queue_at c.args.queues.now.items z)
      (c.in_ok-keep.ensures.kept z.0) (c.loop-section.invariant.left z);
}
