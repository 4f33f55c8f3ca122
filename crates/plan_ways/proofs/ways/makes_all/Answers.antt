use Rattle.std.proofs.Common.{◌≡◌, ◌≤◌, not, nat_eq, List, length, map, sym, ap, ap₂, subst, ◌∙◌, arith}
use Rattle.rail_base.specs.declared.station.NodeNo.{NodeNo}
use Rattle.rail_base.specs.declared.station.Train.{Train}
use Rattle.rail_base.specs.Routes.{route_at}
use Rattle.rail_base.specs.Stations.{train_of}
use Rattle.train_ways.proofs.Standing.{has_nodes, visits_in_range}
use Rattle.plan_ways.specs.Visits.{made_along}
use Rattle.plan_ways.proofs.Counting.{all_made, none_made}
use Rattle.plan_ways.proofs.ways.makes_all.Goals as goal

pub made_along-requires-clause-visits : goal.made_along-requires-clause-visits
made_along-requires-clause-visits c =
    let i = c.args.interlocking.now in
    let r = visits_in_range i.design.station i.design.admitted c.args.train c.requires.train in
    subst (λ (sets : List (List NodeNo)). 1 ≤ length sets) (sym (c.as_slice-visits.ensures ∙ ap (λ (x : Train). x.visits) c.train.ensures)) r.0

pub returns-then-not-is_empty : goal.returns-then-not-is_empty
returns-then-not-is_empty c =
    let i = c.args.interlocking.now in
    let d = i.design.station in
    let t = c.args.train in
    let path = c.args.path.now in
    let r = visits_in_range d i.design.admitted t c.requires.train in
    let same : c.as_slice-visits.result.now ≡ (train_of d t).visits = c.as_slice-visits.ensures ∙ ap (λ (x : Train). x.visits) c.train.ensures in
    let made : c.made_along.result ≡ made_along (train_of d t).visits (map (route_at i.routes) path) 1 = c.made_along.ensures.made ∙ ap (λ sets. made_along sets (map (route_at i.routes) path) 1) same in
    let many : length c.as_slice-visits.result.now ≡ length (train_of d t).visits = ap length same in
    let within = c.made_along.ensures.within in
    ap₂ nat_eq made many
    ∙ sym (all_made d i.routes t (has_nodes d i.routes i.table) r.0 path c.requires.named (sym c.is_empty.ensures ∙ c.if-not-is_empty.true) (omega arith))

pub returns-else-not-is_empty : goal.returns-else-not-is_empty
returns-else-not-is_empty c =
    let i = c.args.interlocking.now in
    let r = visits_in_range i.design.station i.design.admitted c.args.train c.requires.train in
    ap not c.if-not-is_empty.false
    ∙ sym (none_made i.design.station i.routes c.args.train (has_nodes i.design.station i.routes i.table) r.0 c.args.path.now (sym c.is_empty.ensures ∙ c.if-not-is_empty.false))
