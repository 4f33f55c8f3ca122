use Rattle.std.proofs.Common.{false, ◌==◌}
use Rattle.number_sets.specs.Sets.{contains}
use Rattle.rail_base.specs.Routes.{goes_over}
use Rattle.interlocking.proofs.Sectioned.{all_taken, nothing_beside, one_more, one_more_beside}
use Rattle.interlocking.proofs.sets.section_set.Goals as goal

pub loop-part-preserved : goal.loop-part-preserved
loop-part-preserved c = λ z. one_more (λ p. p.0.0) c.as_slice-part-items.result.now c.loop-part.part-index z.0 _ (contains c.add.new.self z.0) (contains c.loop-part.set z.0) c.loop-part-test.true (c.in_ok-add.ensures.added z.0) (c.loop-part.invariant z)

pub loop-held-init : goal.loop-held-init
loop-held-init c = λ z.
    nothing_beside (contains c.loop-part.set z.0) (goes_over c.args.route.now z)
    (all_taken (λ p. p.0.0 == z.0) c.as_slice-part-items.result.now c.args.route.now.sections c.loop-part.part-index (contains c.loop-part.set z.0) false c.loop-part-test.false c.as_slice-part-items.ensures (c.loop-part.invariant z))

pub loop-held-preserved : goal.loop-held-preserved
loop-held-preserved c = λ z. one_more_beside (λ p. p.section.0) c.as_slice-held-items.result.now c.loop-held.held-index z.0 _ (contains c.add-in-loop-held.new.self z.0) (contains c.loop-held.set z.0) (goes_over c.args.route.now z) c.loop-held-test.true (c.in_ok-add-2.ensures.added z.0) (c.loop-held.invariant z)

pub returns : goal.returns
returns c = λ z.
    all_taken (λ p. p.section.0 == z.0) c.as_slice-held-items.result.now c.args.route.now.overlaps c.loop-held.held-index (contains c.loop-held.set z.0) (goes_over c.args.route.now z) c.loop-held-test.false c.as_slice-held-items.ensures (c.loop-held.invariant z)
