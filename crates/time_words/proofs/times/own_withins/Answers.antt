use Rattle.std.proofs.Common.{◌≡◌, ℕ, ◌+◌, Bool, sym, ap, ◌∙◌}
use Rattle.rail_base.specs.Stations.{within_of}
use Rattle.train_ways.proofs.Listing.{number_kept, number_left_out}
use Rattle.time_words.specs.Times.{is_of_one_train, own_withins}
use Rattle.time_words.proofs.times.own_withins.Goals as goal
use Rattle.time_words.proofs.times.own_withins.Goals.{then-is_of_one_train+in_ok-push, else-is_of_one_train}

pub loop-number-preserved : goal.loop-number-preserved
loop-number-preserved c =
    let d = c.args.design.now.station in
    let n = c.loop-number.number in
    let test : ℕ → Bool = λ n. is_of_one_train (within_of d n) in
    let is : test n ≡ c.is_of_one_train.result = ap is_of_one_train (sym c.within_of.ensures) ∙ sym c.is_of_one_train.ensures in
    elim c.if-is_of_one_train.branch [
      | then-is_of_one_train+in_ok-push w ↦ number_kept test c.loop-number.numbers.items c.if-is_of_one_train.numbers.items n (c.len.result + 1) (own_withins d) c.loop-number-test.true (is ∙ w.if-is_of_one_train.true) (ap (λ v. v.items) w.numbers-is ∙ w.in_ok-push.ensures.items) c.loop-number.invariant
      | else-is_of_one_train w ↦ number_left_out test c.loop-number.numbers.items c.if-is_of_one_train.numbers.items n (c.len.result + 1) (own_withins d) c.loop-number-test.true (is ∙ w.if-is_of_one_train.false) (ap (λ v. v.items) w.numbers-is) c.loop-number.invariant
    ]
