use Rattle.std.proofs.Common.{◌+◌, ◌-◌, ◌*◌, ◌≤◌, length, take, subst, sym, ap, ap₂, ◌∙◌, arith}
use Rattle.command_set.specs.Blocks.{member_count}
use Rattle.live_contending.specs.Pairs.{pairs_by_rows, rivals_of_train}
use Rattle.live_contending.specs.Rows.{row_at, train_count}
use Rattle.live_contending.proofs.Sized.{few_pairs, few_rivals, pairs_more, pushed, take_short}
use Rattle.live_contending.proofs.starts.starts_of.Goals as goal

pub overflow_cast-trains : goal.overflow_cast-trains
overflow_cast-trains c = let few = c.requires.trains in let e = c.trains.ensures in omega arith

pub overflow_add-trains : goal.overflow_add-trains
overflow_add-trains c = let few = c.requires.trains in let e = c.trains.ensures in omega arith

pub rivals_before-sum-requires-clause-few : goal.rivals_before-sum-requires-clause-few
rivals_before-sum-requires-clause-few c = let few = c.requires.trains in let e = c.trains.ensures in omega arith

pub overflow_add-sum : goal.overflow_add-sum
overflow_add-sum c =
    let row = row_at c.args.rows.now in
    let i = c.loop-command.command-index in
    let below = c.loop-command-test.true in
    let trains = c.requires.trains in
    let many = c.trains.ensures in
    let all = few_pairs row c.requires.short (train_count c.args.rows.now) trains (take i c.args.commands.now) in
    let size = take_short i c.args.commands.now (omega arith) in
    let so = c.loop-command.invariant.sum in
    let own : c.rivals_before-sum.result ≤ (c.trains.result + 1 - 1) * 2000 = subst (λ n. n ≤ (c.trains.result + 1 - 1) * 2000) (sym c.rivals_before-sum.ensures) (few_rivals row c.requires.short _ (c.trains.result + 1 - 1)) in
    let few = c.requires.few in
    omega arith

pub loop-command-preserved : goal.loop-command-preserved
loop-command-preserved c =
    let row = row_at c.args.rows.now in
    let trains = train_count c.args.rows.now in
    let cs = c.args.commands.now in
    let i = c.loop-command.command-index in
    let before = c.loop-command.invariant in
    let next = pushed (λ k. length (pairs_by_rows trains row (take k cs))) c.loop-command.starts.items c.push.new.self.items i c.loop-command.sum c.in_ok-push.ensures.items before.many before.sum before.before in
    record {
      many = next.0;
      before = next.1;
      sum = ap₂ (λ x y. x + y) before.sum (c.rivals_before-sum.ensures ∙ ap (member_count (rivals_of_train row _) 1) (omega arith)) ∙ sym (pairs_more row c.requires.short trains cs i _ c.loop-command-test.true);
    }
