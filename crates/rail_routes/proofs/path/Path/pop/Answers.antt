use Rattle.std.proofs.Common.{subst, arith, ◌≡◌, ◌++◌, ◌∷◌, []}
use Rattle.rail_routes.specs.Paths.{AreMarked}
use Rattle.rail_routes.proofs.Marks.{path_marked, mark-pop, last-has_mark}
use Rattle.rail_routes.proofs.path.Path.pop.Goals as goal

pub overflow_sub-edge : goal.overflow_sub-edge
overflow_sub-edge c =
    let p = c.args.self.now in
    let old : p.edges.items ≡ c.pop.new.self.items ++ c.in-Some.edge ∷ [] = c.in-Some.ensures.items in
    let h = last-has_mark c.pop.new.self.items p.edges.items p.marks.items c.in-Some.edge (path_marked p) old in
    h.0

pub index_mut-requires : goal.index_mut-requires
index_mut-requires c =
    let p = c.args.self.now in
    let old : p.edges.items ≡ c.pop.new.self.items ++ c.in-Some.edge ∷ [] = c.in-Some.ensures.items in
    let h = last-has_mark c.pop.new.self.items p.edges.items p.marks.items c.in-Some.edge (path_marked p) old in
    let low = h.0 in let high = h.1 in
    let many = p.marks.ok in
    omega arith

pub invariant_of-self : goal.invariant_of-self
invariant_of-self c =
    let p = c.args.self.now in
    let old : p.edges.items ≡ c.pop.new.self.items ++ c.in-Some.edge ∷ [] = c.in-Some.ensures.items in
    let are = mark-pop c.pop.new.self.items p.marks.items c.in-Some.edge (subst (λ es. AreMarked es p.marks.items) old (path_marked p)) in
    record { numbered = are.numbered; once = are.once; marked = are.marked }
