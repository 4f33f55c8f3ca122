use Rattle.std.proofs.Common.{◌≡◌, ℕ, ◌+◌, ◌-◌, List, [], ◌∷◌, ◌++◌, filter, map, length, get_or, sym, ap, ap₂, ◌∙◌}
use Rattle.std.proofs.lemmas.List.{get_or_default}
use Rattle.rail_base.specs.declared.route.Route.{Route}
use Rattle.rail_base.specs.declared.route.RouteNo.{RouteNo}
use Rattle.rail_base.specs.Numbering.{count_from}
use Rattle.rail_spec.specs.Plans.{starts_in}
use Rattle.train_ways.specs.Pairs.{begins, pair_of, starts}
use Rattle.train_ways.proofs.Listing.{all_numbers, placed_done, placed_next, placed_none, route_no}
use Rattle.train_ways.proofs.pairs.starts.Goals as goal
use Rattle.train_ways.proofs.pairs.starts.Goals.{then-starts_in+in_ok-push, else-starts_in}

pub loop-number-init : goal.loop-number-init
loop-number-init c =
    let routes = c.args.interlocking.now.routes in
    let sets = c.args.visits.now in
    let g : RouteNo → ℕ = λ r. pair_of (length sets) r 1 in
    ap (λ (ps : List ℕ). ps ++ map g (filter (begins routes sets) (map route_no (count_from 1 (c.len.result + 1 - 1))))) c.new-pairs.ensures.items
    ∙ ap (λ rs. map g (filter (begins routes sets) rs)) (all_numbers routes c.len.result c.len.ensures)

pub loop-number-preserved : goal.loop-number-preserved
loop-number-preserved c =
    let routes = c.args.interlocking.now.routes in
    let sets = c.args.visits.now in
    let n = c.loop-number.number in
    let end = c.len.result + 1 in
    let g : RouteNo → ℕ = λ r. pair_of (length sets) r 1 in
    let all = starts routes sets in
    let first : c.as_slice-first.result.now ≡ get_or sets 0 [] = c.as_slice-first.ensures ∙ c.index-visits-0.is ∙ get_or_default sets 0 c.index-visits-0.result [] c.requires.low in
    let test : begins routes sets (route_no n) ≡ starts_in c.as_slice-first.result.now c.route.result.now.start = ap₂ (λ set (r : Route). starts_in set r.start) (sym first) (sym c.route.ensures) in
    elim c.if-starts_in.branch [
      | then-starts_in+in_ok-push w ↦ placed_next g (begins routes sets) route_no c.loop-number.pairs.items c.if-starts_in.pairs.items n end all c.loop-number-test.true (test ∙ sym w.if-starts_in.ensures) (ap (λ v. v.items) w.pairs-is ∙ w.in_ok-push.ensures.items ∙ ap (λ x. c.loop-number.pairs.items ++ x ∷ []) w.pair_of.ensures) c.loop-number.invariant
      | else-starts_in w ↦ placed_none g (begins routes sets) route_no c.loop-number.pairs.items c.if-starts_in.pairs.items n end all c.loop-number-test.true (test ∙ sym w.if-starts_in.ensures) (ap (λ v. v.items) w.pairs-is) c.loop-number.invariant
    ]

pub returns : goal.returns
returns c =
    let routes = c.args.interlocking.now.routes in
    let sets = c.args.visits.now in
    placed_done (λ (r : RouteNo). pair_of (length sets) r 1) (begins routes sets) route_no c.loop-number.pairs.items c.loop-number.number (c.len.result + 1) (starts routes sets) c.loop-number-test.false c.loop-number.invariant
