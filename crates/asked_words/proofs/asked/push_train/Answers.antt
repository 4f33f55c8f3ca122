use Rattle.std.proofs.Common.{◌≡◌, ◌+◌, ◌-◌, ◌++◌, ◌∷◌, [], List, ℕ, ap, length, map, ◌∙◌, arith}
use Rattle.std.proofs.lemmas.List.{append_assoc}
use Rattle.rail_base.specs.declared.station.Train.{Train}
use Rattle.rail_base.specs.Numbering.{count_from, one_to}
use Rattle.rail_base.specs.Stations.{train_of}
use Rattle.rail_base.proofs.Admitting.{admitted}
use Rattle.rail_outside.specs.Lines.{lines_of}
use Rattle.asked_words.specs.Asked.{visit_line}
use Rattle.asked_words.proofs.Counted.{lines_more, put_more}
use Rattle.asked_words.proofs.asked.push_train.Goals as goal

pub overflow_cast-visits : goal.overflow_cast-visits
overflow_cast-visits c =
    let seen = c.len-visits.ensures ∙ ap (λ (t : Train). length t.visits) c.train.ensures in
    let few = ((admitted c.args.design.now.station c.args.design.now.admitted).train c.args.train c.requires).visits in
    let low = few.0 in let high = few.1 in
    omega arith

pub overflow_add-visit-end : goal.overflow_add-visit-end
overflow_add-visit-end c =
    let seen = c.len-visits.ensures ∙ ap (λ (t : Train). length t.visits) c.train.ensures in
    let few = ((admitted c.args.design.now.station c.args.design.now.admitted).train c.args.train c.requires).visits in
    let low = few.0 in let high = few.1 in
    omega arith

pub loop-visit-init : goal.loop-visit-init
loop-visit-init c =
    let d = c.args.design.now.station in
    let many = length (train_of d c.args.train).visits in
    let all : many + 1 - 1 ≡ many = omega arith in
    let lines = map (visit_line d c.args.train) (one_to many) in
    ap (λ (n : ℕ). lines_of c.push.new.self.items ++ map (visit_line d c.args.train) (count_from 1 n)) all
    ∙ (ap (λ (ls : List (List ℕ)). ls ++ lines) (ap lines_of c.in_ok-push.ensures.items ∙ lines_more c.args.lines.now.items c.in_ok-line.line)
    ∙ (append_assoc (lines_of c.args.lines.now.items) (c.in_ok-line.line.items ∷ []) lines ∙ ap (λ (t : List ℕ). lines_of c.args.lines.now.items ++ t ∷ lines) c.in_ok-line.ensures))

pub loop-visit-preserved : goal.loop-visit-preserved
loop-visit-preserved c =
    let d = c.args.design.now.station in
    let l = c.loop-visit in
    let many = length (train_of d c.args.train).visits in
    let seen = c.len-visits.ensures ∙ ap (λ (t : Train). length t.visits) c.train.ensures in
    let left = map (visit_line d c.args.train) (count_from (l.visit + 1) (many + 1 - (l.visit + 1))) in
    ap (λ (ls : List (List ℕ)). ls ++ left) (ap lines_of c.in_ok-push-2.ensures.items ∙ lines_more l.lines.items c.in_ok-line-2.line)
    ∙ put_more (visit_line d c.args.train) (lines_of l.lines.items) _ l.visit many _ (omega (arith, seen, c.loop-visit-test.true)) c.in_ok-line-2.ensures l.invariant
