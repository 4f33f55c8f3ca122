use Rattle.std.proofs.Common.{sym, subst}
use Rattle.std.proofs.Math.ListN.{drop_of_length-le}
use Rattle.std.proofs.lemmas.List.{drop_more}
use Rattle.rail_base.specs.declared.station.Within.{Within}
use Rattle.rail_base.specs.Stations.{IsTrain}
use Rattle.rail_outside.specs.Lines.{lines_of}
use Rattle.way_times.specs.Times.{LeastAlone}
use Rattle.time_words.proofs.Lining.{ends, goes_on}
use Rattle.time_words.proofs.Numbering.{its_train}
use Rattle.time_words.proofs.times.push_least_of.Goals as goal

pub least_alone-requires : goal.least_alone-requires
least_alone-requires c =
    let i = c.args.onward.now.interlocking.now in
    subst (λ (w : Within). IsTrain i.design.station w.from_train) (sym c.within_of-within.ensures)
    (its_train i.design.station i.design.admitted _ (c.requires c.loop-number.number-index _ c.loop-number-test.true))

pub loop-number-preserved : goal.loop-number-preserved
loop-number-preserved c =
    let i = c.args.onward.now.interlocking.now in
    goes_on i.design.station i.routes c.args.numbers.now (lines_of c.args.lines.now.items) (lines_of c.loop-number.lines.items) (lines_of c.push_least.new.lines.items) _ _ _ c.in_ok-ticks.ticks
    (drop_more c.args.numbers.now c.loop-number.number-index _ c.loop-number-test.true)
    (subst (λ (w : Within). LeastAlone i.design.station i.routes w.from_train w.from_visit w.to_visit c.in_ok-ticks.ticks) c.within_of-within.ensures c.in_ok-ticks.ensures)
    c.in_ok-push_least.ensures c.loop-number.invariant

pub returns : goal.returns
returns c =
    let i = c.args.onward.now.interlocking.now in
    ends i.design.station i.routes c.args.numbers.now (lines_of c.args.lines.now.items) (lines_of c.loop-number.lines.items) _
    (drop_of_length-le c.args.numbers.now c.loop-number-test.false) c.loop-number.invariant
