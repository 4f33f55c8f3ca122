use Rattle.std.proofs.Common.{ℕ, ◌-◌, ◌++◌, ◌==◌, Bool, List, filter, get_or, length, ap, ◌∙◌, arith, eq-eqb, eqb-true}
use Rattle.rail_base.specs.Numbering.{count_from}
use Rattle.rail_base.proofs.Members.{false_unless}
use Rattle.train_ways.proofs.Listing.{number_kept, number_left_out, numbers_done}
use Rattle.train_ways.proofs.pairs.ends.Goals as goal
use Rattle.train_ways.proofs.pairs.ends.Goals.{then-made-all+in_ok-push, else-made-all}

pub loop-pair-init : goal.loop-pair-init
loop-pair-init c =
    let test : ℕ → Bool = λ p. get_or c.args.made.now p 0 == c.args.all in
    let many = length c.args.made.now in
    ap (λ (ps : List ℕ). ps ++ filter test (count_from 0 (many - 0))) c.new-pairs.ensures.items ∙ ap (λ n. filter test (count_from 0 n)) (omega arith)

pub loop-pair-preserved : goal.loop-pair-preserved
loop-pair-preserved c =
    let made = c.args.made.now in
    let p = c.loop-pair.pair in
    let test : ℕ → Bool = λ p. get_or made p 0 == c.args.all in
    elim c.if-made-all.branch [
      | then-made-all+in_ok-push w ↦ number_kept test c.loop-pair.pairs.items c.if-made-all.pairs.items p (length made) _ c.loop-pair-test.true (eq-eqb (get_or made p 0) c.args.all w.if-made-all.true) (ap (λ v. v.items) w.pairs-is ∙ w.in_ok-push.ensures.items) c.loop-pair.invariant
      | else-made-all w ↦ number_left_out test c.loop-pair.pairs.items c.if-made-all.pairs.items p (length made) _ c.loop-pair-test.true (false_unless (test p) (λ h. w.if-made-all.false (eqb-true (get_or made p 0) c.args.all h))) (ap (λ v. v.items) w.pairs-is) c.loop-pair.invariant
    ]

pub returns : goal.returns
returns c = numbers_done (λ p. get_or c.args.made.now p 0 == c.args.all) c.loop-pair.pairs.items c.loop-pair.pair (length c.args.made.now) _ c.loop-pair-test.false c.loop-pair.invariant
