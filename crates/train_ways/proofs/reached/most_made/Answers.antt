use Rattle.std.proofs.Common.{◌≡◌, ◌+◌, None, length, get_or, sym, subst, ◌∙◌, arith}
use Rattle.train_ways.specs.Reached.{IsMostMade}
use Rattle.train_ways.proofs.Tallying.{it_is, most_none, most_some, most_start, none_is}
use Rattle.train_ways.proofs.reached.most_made.Goals as goal
use Rattle.train_ways.proofs.reached.most_made.Goals.{then-is_some, else-is_some}

pub loop-pair-init : goal.loop-pair-init
loop-pair-init c = most_start c.args.made.now c.args.found.now

pub loop-pair-preserved : goal.loop-pair-preserved
loop-pair-preserved c =
    let made = c.args.made.now in
    let found = c.args.found.now in
    let p = c.loop-pair.pair in
    elim c.if-is_some.branch [
      | then-is_some w ↦ let f = it_is (get_or found p None) (sym w.if-is_some.ensures) in subst (IsMostMade made found (p + 1)) (sym (w.most-is ∙ w.greater-most.ensures)) (most_some made found p c.loop-pair.most f.0 f.1 c.loop-pair.invariant)
      | else-is_some w ↦ subst (IsMostMade made found (p + 1)) (sym w.most-is) (most_none made found p c.loop-pair.most (none_is (get_or found p None) (sym w.if-is_some.ensures)) c.loop-pair.invariant)
    ]

pub returns : goal.returns
returns c = let e : c.loop-pair.pair ≡ length c.args.found.now = omega arith in subst (λ n. IsMostMade c.args.made.now c.args.found.now n c.loop-pair.most) e c.loop-pair.invariant
