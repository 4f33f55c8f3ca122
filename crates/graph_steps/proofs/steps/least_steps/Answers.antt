use Rattle.std.proofs.Common.{rules, ◌≡◌, ◌+◌, ◌<◌, suc, [], length, replicate, None, sym, ap, ap₂, subst, ◌∙◌, arith, eqb-true}
use Rattle.std.proofs.lemmas.List.{nil_from_length}
use Rattle.rail_base.specs.Members.{In}
use Rattle.graph_steps.specs.Marks.{Marked, mark_all, mark_next}
use Rattle.graph_steps.proofs.Leading.{all_in, all_from}
use Rattle.graph_steps.proofs.Marking.{unfound}
use Rattle.graph_steps.proofs.Searching.{Searched, are_least, fewer_left, front_within, moved_on, searched_first, searched_next, some_left}
use Rattle.graph_steps.proofs.steps.least_steps.Goals as goal

pub loop-alloc-init : goal.loop-alloc-init
loop-alloc-init c =
    let graph = c.args.graph.now in
    let starts = c.args.starts.now in
    let new : Marked = record { found = c.mark_all.new.found.items; front = c.mark_all.new.front.items } in
    let was : Marked = record { found = c.in_ok-found.found.items; front = c.new-front.result.items } in
    let is : new ≡ mark_all 0 was starts = c.in_ok-mark_all.ensures in
    let first : was ≡ (let m : Marked = record { found = replicate (length graph) None; front = [] } in m) = ap₂ (λ found front. let m : Marked = record { found = found; front = front } in m) c.in_ok-found.ensures c.new-front.ensures.items in
    subst (Searched graph starts 0) (sym (is ∙ ap (λ m. mark_all 0 m starts) first)) (searched_first graph starts (λ q m. all_in (λ p. p < length graph) starts c.requires.starts q m))

pub overflow_add-steps : goal.overflow_add-steps
overflow_add-steps c =
    let room = c.loop-alloc.invariant.room in
    let some = some_left c.loop-alloc.front.items c.as_slice.result.now c.as_slice.ensures.value (sym c.is_empty.ensures ∙ c.loop-alloc-test.true) in
    search rules

pub further-requires-clause-front : goal.further-requires-clause-front
further-requires-clause-front c =
    all_from (λ p. p < length c.args.graph.now) c.deref.result.now (λ p m. front_within c.args.graph.now c.args.starts.now c.loop-alloc.steps (record { found = c.loop-alloc.found.items; front = c.loop-alloc.front.items }) c.loop-alloc.invariant p (subst (In p) c.deref.ensures.value m))

pub further-requires-clause-one_a_node : goal.further-requires-clause-one_a_node
further-requires-clause-one_a_node c = c.loop-alloc.invariant.one_a_node

pub loop-alloc-smaller : goal.loop-alloc-smaller
loop-alloc-smaller c =
    let graph = c.args.graph.now in
    let now : Marked = record { found = c.loop-alloc.found.items; front = c.loop-alloc.front.items } in
    let new : Marked = record { found = c.further.new.found.items; front = c.in_ok-front.front.items } in
    let some = some_left c.loop-alloc.front.items c.as_slice.result.now c.as_slice.ensures.value (sym c.is_empty.ensures ∙ c.loop-alloc-test.true) in
    let step : c.loop-alloc.steps + 1 ≡ suc c.loop-alloc.steps = omega arith in
    let is : new ≡ mark_next graph (suc c.loop-alloc.steps) (record { found = now.found; front = [] }) now.front = moved_on graph now.found c.deref.result.now now.front (c.loop-alloc.steps + 1) (suc c.loop-alloc.steps) new c.in_ok-front.ensures c.deref.ensures.value step in
    let less = fewer_left graph c.args.starts.now c.requires.graph c.loop-alloc.steps now c.loop-alloc.invariant some in
    let same : unfound new.found + length new.front ≡ (let n = mark_next graph (suc c.loop-alloc.steps) (record { found = now.found; front = [] }) now.front in unfound n.found + length n.front) = ap (λ (m : Marked). unfound m.found + length m.front) is in
    omega arith

pub loop-alloc-preserved : goal.loop-alloc-preserved
loop-alloc-preserved c =
    let graph = c.args.graph.now in
    let now : Marked = record { found = c.loop-alloc.found.items; front = c.loop-alloc.front.items } in
    let new : Marked = record { found = c.further.new.found.items; front = c.in_ok-front.front.items } in
    let some = some_left c.loop-alloc.front.items c.as_slice.result.now c.as_slice.ensures.value (sym c.is_empty.ensures ∙ c.loop-alloc-test.true) in
    let step : c.loop-alloc.steps + 1 ≡ suc c.loop-alloc.steps = omega arith in
    let is : new ≡ mark_next graph (suc c.loop-alloc.steps) (record { found = now.found; front = [] }) now.front = moved_on graph now.found c.deref.result.now now.front (c.loop-alloc.steps + 1) (suc c.loop-alloc.steps) new c.in_ok-front.ensures c.deref.ensures.value step in
    let next = searched_next graph c.args.starts.now c.requires.graph c.loop-alloc.steps now c.loop-alloc.invariant some in
    subst (λ n. Searched graph c.args.starts.now n new) (sym step) (subst (Searched graph c.args.starts.now (suc c.loop-alloc.steps)) (sym is) next)

pub returns : goal.returns
returns c =
    let now : Marked = record { found = c.loop-alloc.found.items; front = c.loop-alloc.front.items } in
    let none = nil_from_length c.loop-alloc.front.items (sym (ap length c.as_slice.ensures.value) ∙ eqb-true (length c.as_slice.result.now) 0 (sym c.is_empty.ensures ∙ c.loop-alloc-test.false)) in
    record {
      least = are_least c.args.graph.now c.args.starts.now c.loop-alloc.steps now c.loop-alloc.invariant none;
      few = λ q k f. let l = c.loop-alloc.invariant.few q k f in let r = c.loop-alloc.invariant.room in omega arith;
    }
