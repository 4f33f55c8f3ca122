use Rattle.std.proofs.Common.{◌≡◌, ◌-◌, List, length, get_or, ap, subst, sym, ◌∙◌, arith}
use Rattle.rail_course.specs.declared.train_path.TrainPath.{TrainPath}
use Rattle.rail_course.specs.Itineraries.{IsTrainPathIn, path_in}
use Rattle.rail_course.proofs.Numbered.{train_path_at, many_train_paths, train_at}
use Rattle.rail_course.proofs.train_paths.TrainPaths.train_path.Goals as goal

pub bounds-as_slice-train : goal.bounds-as_slice-train
bounds-as_slice-train c =
    let i = c.args.self.now.given.interlocking.now in
    let many = many_train_paths i.design.station i.routes (path_in c.args.self.now.given) c.args.self.now.train_paths.items c.args.self.now.are_train_paths in
    let items = ap length c.as_slice.ensures.value in
    let low = c.requires.0 in
    let high = c.requires.1 in
    omega arith

pub returns-clause-train_path : goal.returns-clause-train_path
returns-clause-train_path c =
    let i = c.args.self.now.given.interlocking.now in
    let at = c.args.train.0 - 1 in
    let other = c.index-as_slice-train.result in
    let same : get_or c.args.self.now.train_paths.items at other ≡ other = ap (λ (cs : List TrainPath). get_or cs at other) (sym c.as_slice.ensures.value) ∙ sym c.index-as_slice-train.is in
    subst (IsTrainPathIn c.args.self.now.given) same
    (train_path_at i.design.station i.routes (path_in c.args.self.now.given) c.args.self.now.train_paths.items c.args.self.now.are_train_paths c.args.train other c.requires)

pub returns-clause-train : goal.returns-clause-train
returns-clause-train c =
    let i = c.args.self.now.given.interlocking.now in
    let at = c.args.train.0 - 1 in
    let other = c.index-as_slice-train.result in
    let same : get_or c.args.self.now.train_paths.items at other ≡ other = ap (λ (cs : List TrainPath). get_or cs at other) (sym c.as_slice.ensures.value) ∙ sym c.index-as_slice-train.is in
    ap (λ (c : TrainPath). c.train) (sym same)
    ∙ train_at i.design.station i.routes (path_in c.args.self.now.given) c.args.self.now.train_paths.items c.args.self.now.are_train_paths c.args.train other c.requires
