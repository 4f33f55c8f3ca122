use Rattle.std.proofs.Common.{rules, ◌≡◌, ℕ, ◌+◌, Option, None, Some, sym, subst, ◌∙◌}
use Rattle.std.specs.Prelude.{IfSome}
use Rattle.way_spec.specs.Ways.{IsFirstUnmade}
use Rattle.train_ways.proofs.Answering.{all_made_has_way, first_unmade, most_of, most_within}
use Rattle.train_ways.proofs.Standing.{has_nodes, visits_in_range}
use Rattle.train_ways.proofs.onward.OnwardRoutes.first_unmade.Goals as goal
use Rattle.train_ways.proofs.onward.OnwardRoutes.first_unmade.Goals.{then-most-search, else-most-search}

pub overflow_cast-result : goal.overflow_cast-result
overflow_cast-result c =
    let i = c.args.self.now.interlocking.now in
    let d = i.design.station in
    let r = visits_in_range d i.design.admitted c.args.train c.requires in
    let s = c.in_ok-search.ensures in
    let most = most_of c.deref.result.now c.in_ok-search.search.made.items c.deref-2.result.now c.in_ok-search.search.found.items c.most_made-most.result c.deref.ensures.value c.deref-2.ensures.value c.most_made-most.ensures in
    let h = most_within d i.routes c.args.train (has_nodes d i.routes i.table) r.0 c.in_ok-search.search.made.items s.made c.in_ok-search.search.found.items s.found c.most_made-most.result most in
    let top = r.1 in
    search rules

pub overflow_add-result : goal.overflow_add-result
overflow_add-result c =
    let i = c.args.self.now.interlocking.now in
    let d = i.design.station in
    let r = visits_in_range d i.design.admitted c.args.train c.requires in
    let s = c.in_ok-search.ensures in
    let most = most_of c.deref.result.now c.in_ok-search.search.made.items c.deref-2.result.now c.in_ok-search.search.found.items c.most_made-most.result c.deref.ensures.value c.deref-2.ensures.value c.most_made-most.ensures in
    let h = most_within d i.routes c.args.train (has_nodes d i.routes i.table) r.0 c.in_ok-search.search.made.items s.made c.in_ok-search.search.found.items s.found c.most_made-most.result most in
    let top = r.1 in
    search rules

pub returns-clause-none : goal.returns-clause-none
returns-clause-none c = λ none.
    let i = c.args.self.now.interlocking.now in
    let d = i.design.station in
    let r = visits_in_range d i.design.admitted c.args.train c.requires in
    let s = c.in_ok-search.ensures in
    let most = most_of c.deref.result.now c.in_ok-search.search.made.items c.deref-2.result.now c.in_ok-search.search.found.items c.most_made-most.result c.deref.ensures.value c.deref-2.ensures.value c.most_made-most.ensures in
    elim c.if-most-search.branch [
      | then-most-search w ↦ all_made_has_way d i.routes c.args.train (has_nodes d i.routes i.table) r.0 c.in_ok-search.search.made.items s.made c.in_ok-search.search.found.items s.found c.most_made-most.result most (w.if-most-search.true ∙ s.width)
      | else-most-search w ↦ absurd (let e : Some (c.most_made-most.result + 1) ≡ None = sym w.result-is ∙ none in cc)
    ]

pub returns-clause-some : goal.returns-clause-some
returns-clause-some c =
    let i = c.args.self.now.interlocking.now in
    let d = i.design.station in
    let r = visits_in_range d i.design.admitted c.args.train c.requires in
    let s = c.in_ok-search.ensures in
    let most = most_of c.deref.result.now c.in_ok-search.search.made.items c.deref-2.result.now c.in_ok-search.search.found.items c.most_made-most.result c.deref.ensures.value c.deref-2.ensures.value c.most_made-most.ensures in
    elim c.if-most-search.branch [
      | then-most-search w ↦ subst (λ (o : Option ℕ). IfSome o (λ k. IsFirstUnmade d i.routes c.args.train k)) (sym w.result-is) tt
      | else-most-search w ↦ subst (λ (o : Option ℕ). IfSome o (λ k. IsFirstUnmade d i.routes c.args.train k)) (sym w.result-is)
          (first_unmade d i.routes c.args.train (has_nodes d i.routes i.table) r.0 c.in_ok-search.search.made.items s.made c.in_ok-search.search.found.items s.found c.most_made-most.result most (λ e. w.if-most-search.false (e ∙ sym s.width)))
    ]
