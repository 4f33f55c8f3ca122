use Rattle.std.proofs.Common.{[], ◌∷◌, length, map, sym, ap, subst, arith, length-append}
use Rattle.rail_course.specs.Ready.{own_waits}
use Rattle.rail_course.proofs.Numbered.{path_of_number}
use Rattle.rail_course.proofs.Gathered.{one_more}
use Rattle.rail_course.proofs.Giving.{all_waits_in}
use Rattle.cone_spec.specs.Cones.{free_path, of_cone}
use Rattle.cone_run.specs.Paths.{AreTrainWaitsInCone}
use Rattle.cone_run.proofs.Ranging.{no_free_path}
use Rattle.cone_run.proofs.paths.ConePaths.waits_of_all.Goals as goal

pub loop-number-init : goal.loop-number-init
loop-number-init c = record {
  count = (let none = ap length c.new-all.ensures.items in omega arith);
  each = λ t low high. absurd (omega arith);
}

pub loop-number-preserved : goal.loop-number-preserved
loop-number-preserved c =
    let items = c.in_ok-push.ensures.items in
    let own = c.from_vec.result in
    let told = subst (λ vs. AreTrainWaitsInCone c.args.self.now (record { 0 = c.loop-number.number }) (map (λ v. v.items) vs)) (sym c.from_vec.ensures) c.in_ok-waits.ensures in
    record {
      count = (let more = ap length items in let two = length-append c.loop-number.all.items (own ∷ []) in let before = c.loop-number.invariant.count in omega arith);
      each = one_more (AreTrainWaitsInCone c.args.self.now) c.loop-number.all.items c.push.new.self.items own c.loop-number.number c.loop-number.invariant.count items c.loop-number.invariant.each told;
    }

pub returns : goal.returns
returns c =
    let self = c.args.self.now in
    let given = self.train_paths.given in
    let cone = self.layout.cone.now in
    let p = of_cone cone in
    let over = self.layout.interlocking.now in
    let count = c.len.ensures in
    let past = c.loop-number-test.false in
    let within = c.loop-number.auto.number-end in
    let before = c.loop-number.invariant.count in
    let same = path_of_number over.design.station (free_path cone) given.paths.items self.given (no_free_path over.design.station over.routes cone self.layout.known) in
    record {
      waits_a_train = (let top = within (omega arith) in omega arith);
      each = λ t is. all_waits_in given p same t (own_waits c.loop-number.all.items t) (c.loop-number.invariant.each t is.0 (let high = is.1 in let top = within (omega arith) in omega arith));
    }
