use Rattle.std.proofs.Common.{rules, ◌≡◌, ℕ, ◌+◌, Option, None, Some, length, sym, subst, ◌∙◌}
use Rattle.std.specs.Prelude.{IfSome}
use Rattle.rail_base.specs.Stations.{train_of}
use Rattle.way_spec.specs.Ways.{IsFewestRoutes}
use Rattle.train_ways.specs.Reached.{IsLeastTo}
use Rattle.train_ways.proofs.Answering.{fewest, least_of, no_way, steps_few}
use Rattle.train_ways.proofs.Standing.{has_nodes, visits_in_range}
use Rattle.train_ways.proofs.onward.OnwardRoutes.fewest_routes.Goals as goal
use Rattle.train_ways.proofs.onward.OnwardRoutes.fewest_routes.Goals.{in-Some, in-None}

pub overflow_cast-result : goal.overflow_cast-result
overflow_cast-result c =
    let i = c.args.self.now.interlocking.now in
    let r = visits_in_range i.design.station i.design.admitted c.args.train c.requires in
    let s = c.in_ok-search.ensures in
    let h = steps_few i.routes (train_of i.design.station c.args.train).visits c.in_ok-search.search.made.items c.in_ok-search.search.found.items s.few i.at_most_2000 r.1 c.in_ok-search.search.width (length c.deref-2.result.now) c.in-Some.steps c.deref.result.now c.deref-2.result.now c.deref-2.ensures.value c.in-Some.ensures in
    search rules

pub overflow_add-result : goal.overflow_add-result
overflow_add-result c =
    let i = c.args.self.now.interlocking.now in
    let r = visits_in_range i.design.station i.design.admitted c.args.train c.requires in
    let s = c.in_ok-search.ensures in
    let h = steps_few i.routes (train_of i.design.station c.args.train).visits c.in_ok-search.search.made.items c.in_ok-search.search.found.items s.few i.at_most_2000 r.1 c.in_ok-search.search.width (length c.deref-2.result.now) c.in-Some.steps c.deref.result.now c.deref-2.result.now c.deref-2.ensures.value c.in-Some.ensures in
    search rules

pub returns-clause-none : goal.returns-clause-none
returns-clause-none c = λ none.
    let i = c.args.self.now.interlocking.now in
    let d = i.design.station in
    let r = visits_in_range d i.design.admitted c.args.train c.requires in
    let s = c.in_ok-search.ensures in
    let sets = (train_of d c.args.train).visits in
    let least : (o : Option ℕ) → c.least_to.result ≡ o → IsLeastTo c.in_ok-search.search.made.items c.in_ok-search.search.found.items (length sets) (length c.in_ok-search.search.found.items) o = λ o e.
    subst (IsLeastTo c.in_ok-search.search.made.items c.in_ok-search.search.found.items (length sets) (length c.in_ok-search.search.found.items)) e
    (least_of c.deref.result.now c.in_ok-search.search.made.items c.deref-2.result.now c.in_ok-search.search.found.items c.in_ok-search.search.width (length sets) c.least_to.result c.deref.ensures.value c.deref-2.ensures.value s.width c.least_to.ensures) in
    elim c.match-least_to.branch [
      | in-Some w ↦ absurd (let e : Some (w.in-Some.steps + 1) ≡ None = sym w.result-is ∙ none in cc)
      | in-None w ↦ no_way d i.routes c.args.train (has_nodes d i.routes i.table) r.0 c.in_ok-search.search.made.items s.made c.in_ok-search.search.found.items s.found (least None w.in-None.is)
    ]

pub returns-clause-some : goal.returns-clause-some
returns-clause-some c =
    let i = c.args.self.now.interlocking.now in
    let d = i.design.station in
    let r = visits_in_range d i.design.admitted c.args.train c.requires in
    let s = c.in_ok-search.ensures in
    let sets = (train_of d c.args.train).visits in
    let least : (o : Option ℕ) → c.least_to.result ≡ o → IsLeastTo c.in_ok-search.search.made.items c.in_ok-search.search.found.items (length sets) (length c.in_ok-search.search.found.items) o = λ o e.
    subst (IsLeastTo c.in_ok-search.search.made.items c.in_ok-search.search.found.items (length sets) (length c.in_ok-search.search.found.items)) e
    (least_of c.deref.result.now c.in_ok-search.search.made.items c.deref-2.result.now c.in_ok-search.search.found.items c.in_ok-search.search.width (length sets) c.least_to.result c.deref.ensures.value c.deref-2.ensures.value s.width c.least_to.ensures) in
    elim c.match-least_to.branch [
      | in-Some w ↦ subst (λ (o : Option ℕ). IfSome o (λ n. IsFewestRoutes d i.routes c.args.train n)) (sym w.result-is)
          (fewest d i.routes c.args.train (has_nodes d i.routes i.table) r.0 c.in_ok-search.search.made.items s.made c.in_ok-search.search.found.items s.found w.in-Some.steps (least (Some w.in-Some.steps) w.in-Some.is))
      | in-None w ↦ subst (λ (o : Option ℕ). IfSome o (λ n. IsFewestRoutes d i.routes c.args.train n)) (sym w.result-is) tt
    ]
