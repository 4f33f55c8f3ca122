use Rattle.std.proofs.Common.{All, [], length, drop, get_or, map, refl, sym, ap, subst, ◌≡◌, ◌<◌, ◌+◌, ◌++◌, ◌∙◌, arith}
use Rattle.std.proofs.lemmas.List.{append-nil, drop_all}
use Rattle.std.proofs.lemmas.List.Elements.{All-push}
use Rattle.rail_spec.specs.Dispatches.{Dispatch}
use Rattle.rail_course.specs.declared.train_path.TrainPath.{TrainPath}
use Rattle.rail_course.specs.declared.journey.Journey.{Journey}
use Rattle.rail_course.specs.Itineraries.{AllGiveIn, IsTrainPathIn, path_in}
use Rattle.rail_course.specs.Journeys.{IsJourney}
use Rattle.rail_course.specs.Ready.{GiveWhatIsReady}
use Rattle.rail_course.proofs.Numbered.{many_train_paths, map_step}
use Rattle.rail_course.proofs.Told.{first_left, rest_left, some_left, told_at}
use Rattle.rail_course.proofs.train_paths.TrainPaths.into_journeys.Goals as goal

pub remove-train_path-requires : goal.remove-train_path-requires
remove-train_path-requires c =
    let i = c.args.self.given.interlocking.now in
    let cs = c.args.self.train_paths.items in
    let many = many_train_paths i.design.station i.routes (path_in c.args.self.given) cs c.args.self.are_train_paths in
    let count = c.len-number-end.ensures in
    let less = c.loop-number-test.true in
    let some = some_left cs c.loop-number._number (omega (arith, many, count, less)) in
    let left = ap length c.loop-number.invariant.left in
    let len = c.loop-number.left.ok.0 in
    omega (arith, left, some, len)

pub remove-requires : goal.remove-requires
remove-requires c =
    let count = c.len-number-end.ensures in
    let less = c.loop-number-test.true in
    let many = c.requires in
    let some = some_left c.args.waits.items c.loop-number._number (omega (arith, many, count, less)) in
    let left = ap length c.loop-number.invariant.waits in
    let len = c.loop-number.all_waits.ok.0 in
    omega (arith, left, some, len)

pub journey-requires : goal.journey-requires
journey-requires c =
    let i = c.args.self.given.interlocking.now in
    let cs = c.args.self.train_paths.items in
    let other = c.remove-train_path.result in
    let many = many_train_paths i.design.station i.routes (path_in c.args.self.given) cs c.args.self.are_train_paths in
    let count = c.len-number-end.ensures in
    let less = c.loop-number-test.true in
    let here = c.remove-train_path.ensures.value ∙ ap (λ ts. get_or ts 0 other) c.loop-number.invariant.left ∙ first_left cs c.loop-number._number other in
    subst (IsTrainPathIn c.args.self.given) (sym here) (c.args.self.are_train_paths.each c.loop-number._number other (omega (arith, many, count, less)))

pub loop-number-preserved : goal.loop-number-preserved
loop-number-preserved c =
    let i = c.args.self.given.interlocking.now in
    let d = i.design.station in
    let n = c.loop-number._number in
    let cs = c.args.self.train_paths.items in
    let here = c.remove-train_path.result in
    let many = many_train_paths d i.routes (path_in c.args.self.given) cs c.args.self.are_train_paths in
    let count = c.len-number-end.ensures in
    let test = c.loop-number-test.true in
    let less : n < length cs = omega (arith, many, count, test) in
    let items = c.in_ok-push.ensures.items in
    let is = c.remove-train_path.ensures.value ∙ ap (λ ts. get_or ts 0 here) c.loop-number.invariant.left ∙ first_left cs n here in
    let off = c.remove.ensures.value ∙ ap (λ ws. get_or ws 0 c.remove.result) c.loop-number.invariant.waits ∙ first_left c.args.waits.items n c.remove.result in
    let tell = λ (p : Dispatch) (give : AllGiveIn c.args.self.given p c.args.waits.items). subst (λ ws. GiveWhatIsReady d i.routes p here.train (map (λ v. v.items) ws)) (sym c.into_vec-own.ensures)
    (told_at d i.routes p (path_in c.args.self.given) cs c.args.self.are_train_paths c.args.waits.items give n less here is c.remove.result off) in
    record {
      left = c.remove-train_path.ensures.items ∙ ap (drop 1) c.loop-number.invariant.left ∙ rest_left cs n (n + 1) refl;
      waits = c.remove.ensures.items ∙ ap (drop 1) c.loop-number.invariant.waits ∙ rest_left c.args.waits.items n (n + 1) refl;
      each = λ p same give. subst (All (IsJourney d i.routes p)) (sym items) (All-push (IsJourney d i.routes p) c.loop-number.journeys.items _ (c.loop-number.invariant.each p same give) (c.in_ok-journey.ensures.journey p same (tell p give)));
      all = map_step (λ (j : Journey). j.train_path.train) (λ (x : TrainPath). x.train) c.loop-number.journeys.items c.push.new.self.items _ cs n here _ less is items (ap (λ (x : TrainPath). x.train) c.in_ok-journey.ensures.train_path) c.loop-number.invariant.all;
    }

pub returns : goal.returns
returns c =
    let i = c.args.self.given.interlocking.now in
    let cs = c.args.self.train_paths.items in
    let journeys = map (λ (j : Journey). j.train_path.train) c.loop-number.journeys.items in
    let many = many_train_paths i.design.station i.routes (path_in c.args.self.given) cs c.args.self.are_train_paths in
    let count = c.len-number-end.ensures in
    let test = c.loop-number-test.false in
    let none : drop c.loop-number._number cs ≡ [] = drop_all c.loop-number._number cs (omega (arith, many, count, test)) in
    λ p same give. record {
      all = sym (append-nil journeys) ∙ ap (λ ts. journeys ++ map (λ (x : TrainPath). x.train) ts) (sym none) ∙ c.loop-number.invariant.all;
      each = c.loop-number.invariant.each p same give;
    }
