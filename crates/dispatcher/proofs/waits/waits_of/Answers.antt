use Rattle.std.proofs.Common.{◌∙◌, true, [], get_or, refl, sym, subst, ap, arith}
use Rattle.std.specs.List.{list_all}
use Rattle.std.proofs.lemmas.List.{take_all}
use Rattle.rail_base.specs.declared.station.SectionNo.{SectionNo}
use Rattle.rail_base.specs.Members.{In}
use Rattle.rail_base.specs.Routes.{sections}
use Rattle.rail_base.proofs.Contained.{in_at}
use Rattle.rail_course.specs.declared.waits.Wait.{Wait}
use Rattle.rail_course.specs.Waits.{AddsWaits}
use Rattle.rail_course.proofs.Merging.{as_more, goes_on, none_more}
use Rattle.dispatcher.specs.Queues.{queue_at}
use Rattle.dispatcher.specs.Waits.{lets_pass}
use Rattle.dispatcher.proofs.Entering.{all_within}
use Rattle.dispatcher.proofs.Gathering.{entry_at}
use Rattle.dispatcher.proofs.waits.waits_of.Goals as goal

pub overflow_sub-section : goal.overflow_sub-section
overflow_sub-section c =
    (all_within c.args.interlocking.now _ c.requires.every_section c.args.command.route _ (c.deref-section-items.ensures.value ∙ c.in_ok-sections.ensures ∙ ap sections c.route.ensures) c.loop-section.section-index _ c.loop-section-test.true).0

pub bounds-queues-section : goal.bounds-queues-section
bounds-queues-section c =
    let within = all_within c.args.interlocking.now _ c.requires.every_section c.args.command.route _ (c.deref-section-items.ensures.value ∙ c.in_ok-sections.ensures ∙ ap sections c.route.ensures) c.loop-section.section-index (record { 0 = 0 }) c.loop-section-test.true in
    omega (arith, within.0, within.1)

pub loop-section-init : goal.loop-section-init
loop-section-init c = subst (λ ws. AddsWaits [] ws (λ ps. true) (λ (w : Wait). (z : SectionNo) × In z c.deref-section-items.result.now × In w (queue_at c.args.queues.now z))) (sym c.new-waits.ensures.items)
    (none_more [] (λ (w : Wait). (z : SectionNo) × In z c.deref-section-items.result.now × In w (queue_at c.args.queues.now z)) (λ ps. true) (λ ps. refl))

pub loop-section-preserved : goal.loop-section-preserved
loop-section-preserved c =
    let zs = c.deref-section-items.result.now in
    let k = c.loop-section.section-index in
    let less = c.loop-section-test.true in
    let within = all_within c.args.interlocking.now _ c.requires.every_section c.args.command.route _ (c.deref-section-items.ensures.value ∙ c.in_ok-sections.ensures ∙ ap sections c.route.ensures) k (record { 0 = 0 }) less in
    let queue = c.as_slice-queue.ensures ∙ sym (entry_at c.args.queues.now (get_or zs k (record { 0 = 0 })).0 _ _ within.0 within.1 refl c.index-queues-section.is) in
    goes_on (λ ps z. list_all (lets_pass ps c.args.command.train) (queue_at c.args.queues.now z)) (λ (z : SectionNo) (w : Wait). In w (queue_at c.args.queues.now z)) zs k (record { 0 = 0 }) [] c.loop-section.waits.items c.push_queue.new.waits.items less
    (subst (λ q. AddsWaits c.loop-section.waits.items c.push_queue.new.waits.items (λ ps. list_all (lets_pass ps c.args.command.train) q) (λ w. In w q)) queue c.in_ok-push_queue.ensures)
    c.loop-section.invariant (in_at zs k (record { 0 = 0 }) less)

pub returns : goal.returns
returns c =
    let past = c.loop-section-test.false in
    let are = c.deref-section-items.ensures.value ∙ c.in_ok-sections.ensures ∙ ap sections c.route.ensures in
    as_more [] c.loop-section.waits.items _ _ _ _ (λ ps. ap (list_all (λ z. list_all (lets_pass ps c.args.command.train) (queue_at c.args.queues.now z))) (take_all c.loop-section.section-index c.deref-section-items.result.now (omega (arith, past)) ∙ are))
    (λ w h. (h.0, subst (In h.0) are h.1, h.2)) c.loop-section.invariant
