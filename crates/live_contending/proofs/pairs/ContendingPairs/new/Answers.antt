use Rattle.std.proofs.Common.{◌≤◌, List, length, ap, subst, ◌∙◌, arith}
use Rattle.rail_base.specs.declared.plan.Command.{Command}
use Rattle.rail_base.proofs.Admitting.{admitted}
use Rattle.live_clause_spec.specs.Variables.{live_pairs}
use Rattle.command_set.specs.Commands.{is_among}
use Rattle.command_set.proofs.Tests.{all_pairs_are, set_differs}
use Rattle.live_contending.specs.Pairs.{AreStarts}
use Rattle.live_contending.specs.Rows.{row_at, train_count}
use Rattle.live_contending.proofs.Distinct.{from_distinct}
use Rattle.live_contending.proofs.Listed.{given_few, given_known, given_rise, pairs_are}
use Rattle.live_contending.proofs.Tabled.{rows_rise, rows_short}
use Rattle.live_contending.proofs.pairs.ContendingPairs.new.Goals as goal

pub rows_of_trains-requires : goal.rows_of_trains-requires
rows_of_trains-requires c = given_known c.args.commands c.args.interlocking.now.design.station c.args.interlocking.now.routes c.requires

pub starts_of-requires-clause-trains : goal.starts_of-requires-clause-trains
starts_of-requires-clause-trains c =
    let i = c.args.interlocking.now in
    let high = (admitted i.design.station i.design.admitted).many_trains.1 in
    let e = c.in_ok-rows.ensures.trains in
    omega arith

pub starts_of-requires-clause-short : goal.starts_of-requires-clause-short
starts_of-requires-clause-short c =
    let i = c.args.interlocking.now in
    rows_short i.routes c.args.commands (length i.design.station.trains) c.in_ok-rows.rows c.in_ok-rows.ensures (given_few c.args.commands i.design.station i.routes c.requires i.at_most_2000)

pub invariant_of-result : goal.invariant_of-result
invariant_of-result c =
    let i = c.args.interlocking.now in
    let cs = c.args.commands in
    let rows = c.in_ok-rows.rows in
    let many = length i.design.station.trains in
    record {
      few = (let high = (admitted i.design.station i.design.admitted).many_trains.1 in let e = c.in_ok-rows.ensures.trains in omega arith);
      small = subst (λ (xs : List Command). length xs ≤ 256000) c.commands-2.ensures.value c.commands-2.ensures.bound;
      short = rows_short i.routes cs many rows c.in_ok-rows.ensures (given_few cs i.design.station i.routes c.requires i.at_most_2000);
      rising = rows_rise i.routes cs many rows c.in_ok-rows.ensures (given_rise cs i.design.station i.routes c.requires);
      differ = from_distinct cs (set_differs cs i.design.station i.routes c.requires);
      counted = subst (λ (xs : List Command). AreStarts (train_count rows) (row_at rows) xs c.in_ok-starts.starts.items) c.commands-2.ensures.value c.in_ok-starts.ensures;
    }

pub returns-clause-pairs : goal.returns-clause-pairs
returns-clause-pairs c =
    let i = c.args.interlocking.now in
    pairs_are c.args.commands i.design.station i.routes c.requires c.in_ok-rows.rows c.in_ok-rows.ensures

pub returns-clause-all : goal.returns-clause-all
returns-clause-all c = λ is.
    let i = c.args.interlocking.now in
    pairs_are c.args.commands i.design.station i.routes c.requires c.in_ok-rows.rows c.in_ok-rows.ensures
    ∙ (ap (λ (xs : List Command). live_pairs (is_among xs) i.design.station i.routes) is ∙ all_pairs_are i.design.station i.routes)
