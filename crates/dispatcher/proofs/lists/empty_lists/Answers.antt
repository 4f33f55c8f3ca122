use Rattle.std.proofs.Common.{[], ◌∷◌, ◌++◌, length, ap, ◌∙◌, arith}
use Rattle.std.proofs.lemmas.List.{length_push}
use Rattle.rail_base.specs.Numbering.{entry}
use Rattle.dispatcher.proofs.Gathering.{entry_empty, entry_none}
use Rattle.dispatcher.proofs.lists.empty_lists.Goals as goal

pub loop-number-init : goal.loop-number-init
loop-number-init g c = let none = c.new-lists.ensures.items in record { many = ap length none; empty = λ n. ap (λ ls. entry [] ls n) none ∙ entry_none n }

pub loop-number-preserved : goal.loop-number-preserved
loop-number-preserved g c =
    let made = c.in_ok-push.ensures.items in
    let lists = c.loop-number.lists.items in
    let many = c.loop-number.invariant.many in
    let one = length_push lists c.new.result in
    let all = ap length made in
    record { many = omega (arith, many, one, all); empty = λ n. ap (λ ls. entry [] ls n) (made ∙ ap (λ x. lists ++ x ∷ []) c.new.ensures) ∙ entry_empty lists c.loop-number.invariant.empty n }
