use Rattle.std.proofs.Common.{◌≡◌, ℕ, ◌+◌, ◌-◌, ◌<◌, [], ◌∷◌, ◌++◌, All, map, length, ap, sym, ◌∙◌, append_assoc, subst, arith}
use Rattle.std.proofs.lemmas.List.{map-append}
use Rattle.std.proofs.lemmas.List.Elements.{All-push}
use Rattle.rail_base.specs.declared.station.TrainNo.{TrainNo}
use Rattle.rail_base.specs.Numbering.{count_from}
use Rattle.rail_course.specs.Itineraries.{IsTrainPathIn}
use Rattle.rail_course.specs.declared.train_path.TrainPath.{TrainPath}
use Rattle.rail_course.proofs.itineraries.Itineraries.train_paths.Goals as goal
use Rattle.rail_base.proofs.Lists.{count_step}

pub loop-number-preserved : goal.loop-number-preserved
loop-number-preserved c =
    let n = c.loop-number.number in
    let many = length c.args.self.now.interlocking.now.design.station.trains in
    let test = c.loop-number-test.true in
    let less : n < many + 1 = omega arith in
    let train = λ (x : TrainPath). x.train in
    let number : ℕ → TrainNo = λ k. record { 0 = k } in
    let rest = map {B = TrainNo} number (count_from (n + 1) (many + 1 - (n + 1))) in
    let train_path = c.in_ok-train_path_of.field-0 in
    let old = c.loop-number.train_paths.items in
    let items = c.in_ok-push.ensures.items in
    let next : map {B = TrainNo} number (count_from n (many + 1 - n)) ≡ number n ∷ rest = ap (map {B = TrainNo} number) (count_step n many less) in
    record {
      first = omega arith;
      each = subst (All (IsTrainPathIn c.args.self.now)) (sym items) (All-push (IsTrainPathIn c.args.self.now) old train_path c.loop-number.invariant.each c.in_ok-train_path_of.ensures.train_path);
      left = ap (λ cs. map train cs ++ rest) items ∙ ap (λ ts. ts ++ rest) (map-append train old (train_path ∷ [])) ∙ append_assoc (map train old) (train_path.train ∷ []) rest
          ∙ ap (λ t. map train old ++ (t ∷ rest)) c.in_ok-train_path_of.ensures.train ∙ ap (λ ts. map train old ++ ts) (sym next) ∙ c.loop-number.invariant.left;
    }
