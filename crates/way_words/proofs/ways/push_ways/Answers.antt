use Rattle.std.proofs.Common.{refl, subst}
use Rattle.interlocking.specs.declared.railway.Interlocking.{Interlocking}
use Rattle.way_words.specs.Ways.{AreNoWayLines, IsFewest}
use Rattle.way_spec.specs.Ways.{IsMostSteps}
use Rattle.way_words.proofs.Gathering.{all_lines, fewest_of}
use Rattle.way_words.proofs.ways.push_ways.Goals as goal

pub returns : goal.returns
returns c =
    let i = c.args.interlocking.now in
    let same = c.in_ok-ways.ensures in
    let j = c.in_ok-ways.ways.interlocking.now in
    let no_ways = c.in_ok-push_no_ways.ensures in
    all_lines i.design.station i.routes _ _ _ no_ways.0 _ _ _ no_ways.1
    (subst (λ (x : Interlocking). AreNoWayLines x.design.station x.routes no_ways.0) same no_ways.2) c.in_ok-push_steps.ensures refl
    (subst (λ (x : Interlocking). IsFewest x.design.station x.routes c.in_ok-fewest.fewest) same (fewest_of j.design.station j.routes _ c.in_ok-fewest.ensures.none c.in_ok-fewest.ensures.some))
    (subst (λ (x : Interlocking). IsMostSteps x.design.station x.routes c.in_ok-most.most) same c.in_ok-most.ensures)
