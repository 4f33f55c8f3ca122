use Rattle.std.proofs.Common.{◌≡◌, ◌+◌, length, sym, subst, ◌∙◌, arith}
use Rattle.train_ways.specs.Reached.{IsLeastTo}
use Rattle.train_ways.proofs.Tallying.{least_here, least_other, least_start}
use Rattle.train_ways.proofs.reached.least_to.Goals as goal
use Rattle.train_ways.proofs.reached.least_to.Goals.{then-made-pair, else-made-pair}

pub loop-pair-init : goal.loop-pair-init
loop-pair-init c = least_start c.args.made.now c.args.found.now c.args.all

pub loop-pair-preserved : goal.loop-pair-preserved
loop-pair-preserved c =
    let made = c.args.made.now in
    let found = c.args.found.now in
    let p = c.loop-pair.pair in
    elim c.if-made-pair.branch [
      | then-made-pair w ↦ subst (IsLeastTo made found c.args.all (p + 1)) (sym (w.least-is ∙ w.lesser-least.ensures)) (least_here made found c.args.all p c.loop-pair.least w.if-made-pair.true c.loop-pair.invariant)
      | else-made-pair w ↦ subst (IsLeastTo made found c.args.all (p + 1)) (sym w.least-is) (least_other made found c.args.all p c.loop-pair.least w.if-made-pair.false c.loop-pair.invariant)
    ]

pub returns : goal.returns
returns c = let e : c.loop-pair.pair ≡ length c.args.found.now = omega arith in subst (λ n. IsLeastTo c.args.made.now c.args.found.now c.args.all n c.loop-pair.least) e c.loop-pair.invariant
