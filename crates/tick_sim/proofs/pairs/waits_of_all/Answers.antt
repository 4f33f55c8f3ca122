use Rattle.std.proofs.Common.{[], ◌∷◌, length, map, ap, sym, subst, arith, length-append}
use Rattle.rail_spec.specs.Dispatches.{of_plan}
use Rattle.rail_course.specs.Ready.{own_waits}
use Rattle.rail_course.proofs.Gathered.{one_more}
use Rattle.rail_course.proofs.Giving.{all_waits_in}
use Rattle.tick_sim.specs.Pairs.{AreTrainWaitsInPlan}
use Rattle.tick_sim.proofs.Pairing.{same_paths}
use Rattle.tick_sim.proofs.pairs.waits_of_all.Goals as goal

pub loop-number-init : goal.loop-number-init
loop-number-init c = record {
  count = (let none = ap length c.new-all.ensures.items in omega arith);
  each = λ t low high. absurd (omega arith);
}

pub loop-number-preserved : goal.loop-number-preserved
loop-number-preserved c =
    let items = c.in_ok-push.ensures.items in
    let own = c.from_vec.result in
    let told = subst (λ vs. AreTrainWaitsInPlan c.args.planned.now (record { 0 = c.loop-number.number }) (map (λ v. v.items) vs)) (sym c.from_vec.ensures) c.in_ok-waits.ensures in
    record {
      count = (let more = ap length items in let two = length-append c.loop-number.all.items (own ∷ []) in let before = c.loop-number.invariant.count in omega arith);
      each = one_more (AreTrainWaitsInPlan c.args.planned.now) c.loop-number.all.items c.push.new.self.items own c.loop-number.number c.loop-number.invariant.count items c.loop-number.invariant.each told;
    }

pub returns : goal.returns
returns c =
    let self = c.args.planned.now in
    let given = self.train_paths.given in
    let i = given.interlocking.now in
    let plan = self.plan.now.steps in
    let p = of_plan i.routes plan in
    let count = c.len.ensures in
    let past = c.loop-number-test.false in
    let within = c.loop-number.auto.number-end in
    let before = c.loop-number.invariant.count in
    record {
      waits_a_train = (let top = within (omega arith) in omega arith);
      each = λ t is. all_waits_in given p (same_paths self) t (own_waits c.loop-number.all.items t) (c.loop-number.invariant.each t is.0 (let high = is.1 in let top = within (omega arith) in omega arith));
    }
