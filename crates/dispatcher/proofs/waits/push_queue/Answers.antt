use Rattle.std.proofs.Common.{◌≡◌, refl, sym, subst, arith, ap}
use Rattle.std.specs.List.{list_all}
use Rattle.std.proofs.lemmas.List.{take_all}
use Rattle.rail_base.specs.Members.{In}
use Rattle.rail_base.proofs.Contained.{in_at}
use Rattle.rail_course.specs.declared.waits.Wait.{Wait}
use Rattle.rail_course.proofs.Merging.{as_more, goes_on, none_more}
use Rattle.dispatcher.specs.Waits.{lets_pass}
use Rattle.dispatcher.proofs.waits.push_queue.Goals as goal

pub loop-wait-init : goal.loop-wait-init
loop-wait-init c = none_more c.args.waits.now.items _ _ (λ ps. refl)

pub loop-wait-preserved : goal.loop-wait-preserved
loop-wait-preserved c =
    goes_on (λ ps w. lets_pass ps c.args.train w) (λ (y w : Wait). w ≡ y) c.args.queue.now c.loop-wait.wait-index _ c.args.waits.now.items c.loop-wait.waits.items c.push_other.new.waits.items c.loop-wait-test.true
    c.in_ok-push_other.ensures c.loop-wait.invariant (in_at c.args.queue.now c.loop-wait.wait-index _ c.loop-wait-test.true)

pub returns : goal.returns
returns c =
    let past = c.loop-wait-test.false in
    as_more c.args.waits.now.items c.loop-wait.waits.items _ _ _ _ (λ ps. ap (list_all (lets_pass ps c.args.train)) (take_all c.loop-wait.wait-index c.args.queue.now (omega (arith, past)))) (λ w h. subst (λ y. In y c.args.queue.now) (sym h.2) h.1) c.loop-wait.invariant
