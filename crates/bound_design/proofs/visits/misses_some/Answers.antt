use Rattle.std.proofs.Common.{List, ℕ, not, length, sym, ap, ap₂, ◌∙◌, arith}
use Rattle.std.specs.List.{list_all}
use Rattle.rail_base.specs.declared.station.NodeNo.{NodeNo}
use Rattle.rail_base.specs.Stations.{train_of}
use Rattle.bound_spec.specs.Certificates.{nodes_of_visit}
use Rattle.bound_design.proofs.Openings.{any_stop, any_next}
use Rattle.bound_design.proofs.visits.misses_some.Goals as goal
use Rattle.rail_spec.specs.Places.{may_visit}

pub returns-then-is_missed : goal.returns-then-is_missed
returns-then-is_missed c =
    let d = c.args.station.now in
    let t = c.args.train in
    let routes = c.args.routes.now in
    let many = ap (λ (xs : List (List NodeNo)). length xs) c.visits_of-visits.ensures in
    let inside = c.loop-number-test.true in
    let same = c.is_missed.ensures ∙ ap₂ (λ (n : ℕ) (ns : List NodeNo). list_all (λ r. not (may_visit n ns r.now)) routes) c.in_ok-visit.ensures.number c.in_ok-visit.ensures.list in
    any_stop (λ k. list_all (λ r. not (may_visit k (nodes_of_visit d t k) r.now)) routes) (length (train_of d t).visits) c.loop-number.number (omega arith) (sym same ∙ c.if-is_missed.true) c.loop-number.invariant

pub loop-number-preserved : goal.loop-number-preserved
loop-number-preserved c =
    let d = c.args.station.now in
    let t = c.args.train in
    let routes = c.args.routes.now in
    let many = ap (λ (xs : List (List NodeNo)). length xs) c.visits_of-visits.ensures in
    let inside = c.loop-number-test.true in
    let same = c.is_missed.ensures ∙ ap₂ (λ (n : ℕ) (ns : List NodeNo). list_all (λ r. not (may_visit n ns r.now)) routes) c.in_ok-visit.ensures.number c.in_ok-visit.ensures.list in
    any_next (λ k. list_all (λ r. not (may_visit k (nodes_of_visit d t k) r.now)) routes) (length (train_of d t).visits) c.loop-number.number (omega arith) (sym same ∙ c.if-is_missed.false) c.loop-number.invariant
