use Rattle.std.proofs.Common.{◌==◌, refl, sym, ◌∙◌}
use Rattle.std.proofs.lemmas.List.{append-nil}
use Rattle.rail_base.specs.declared.station.SectionNo.{SectionNo}
use Rattle.rail_course.specs.declared.waits.Wait.{Wait}
use Rattle.dispatcher.specs.Queues.{queue_at}
use Rattle.dispatcher.proofs.Gathering.{at_most, filled_more}
use Rattle.dispatcher.proofs.enter.enter.Goals as goal

pub loop-section-init : goal.loop-section-init
loop-section-init c = record { many = refl; entered = λ z. sym (append-nil (queue_at c.args.queues.now.items z)) }

pub put-requires-clause-at_least_one : goal.put-requires-clause-at_least_one
put-requires-clause-at_least_one c = (c.requires c.loop-section.section-index _ c.loop-section-test.true).0

pub put-requires-clause-within : goal.put-requires-clause-within
put-requires-clause-within c = at_most _ _ _ c.loop-section.invariant.many (c.requires c.loop-section.section-index _ c.loop-section-test.true).1

pub loop-section-preserved : goal.loop-section-preserved
loop-section-preserved c = record {
  many = c.put.ensures.same_length ∙ c.loop-section.invariant.many;
  entered = λ z. filled_more (λ (w : SectionNo × Wait). w.1) (λ (w : SectionNo × Wait). w.0.0 == z.0) c.args.waits.now c.loop-section.section-index _ c.loop-section-test.true (queue_at c.put.new.lists.items z) (queue_at c.loop-section.queues.items z) (queue_at c.args.queues.now.items z)
      (c.in_ok-put.ensures.put z.0) (c.loop-section.invariant.entered z);
}
