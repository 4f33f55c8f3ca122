use Rattle.std.proofs.Common.{subst, sym, rules, ◌≡◌, ◌++◌, ◌∷◌, [], ◌-◌, true, set}
use Rattle.rail_routes.specs.Paths.{AreMarked}
use Rattle.rail_routes.proofs.Marks.{path_marked, mark-push}
use Rattle.rail_routes.proofs.path.Path.push.Goals as goal

pub invariant_of-self : goal.invariant_of-self
invariant_of-self c =
    let p = c.args.self.now in
    let kept : c.push.new.self.items ≡ p.edges.items = search rules in
    let are = subst (λ es. AreMarked es p.marks.items) (sym kept) (path_marked p) in
    record { numbered = are.numbered; once = are.once; marked = are.marked }

pub invariant_of-self-2 : goal.invariant_of-self-2
invariant_of-self-2 c =
    let p = c.args.self.now in
    let longer : c.push.new.self.items ≡ p.edges.items ++ c.args.edge ∷ [] = search rules in
    let are = subst (λ es. AreMarked es (set p.marks.items (c.args.edge.0 - 1) true)) (sym longer) (mark-push p.edges.items p.marks.items c.args.edge (path_marked p) c.requires.edge c.requires.new) in
    record { numbered = are.numbered; once = are.once; marked = are.marked }
