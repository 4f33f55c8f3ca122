use Rattle.std.proofs.Common.{◌-◌, ap, ◌∙◌, arith}
use Rattle.sat_clause.specs.Clauses.{without}
use Rattle.sat_clause.proofs.Laid.{forgets, forgotten-clauses, number-within}
use Rattle.sat_clause.proofs.arena.Arena.forget.Goals as goal

pub index_mut-requires : goal.index_mut-requires
index_mut-requires c =
    let w = number-within c.self.inside.lits.items c.self.inside.ends.items c.self.inside.marks.items c.self.invariant c.args.self.now c.args.id c.self.view_is c.requires in
    let m = c.self.invariant.marked in
    omega arith

pub invariant_of-self : goal.invariant_of-self
invariant_of-self c =
    let w = number-within c.self.inside.lits.items c.self.inside.ends.items c.self.inside.marks.items c.self.invariant c.args.self.now c.args.id c.self.view_is c.requires in
    forgets c.self.inside.lits.items c.self.inside.ends.items c.self.inside.marks.items c.self.invariant (c.args.id - 1) (omega arith)

pub returns : goal.returns
returns c =
    let w = number-within c.self.inside.lits.items c.self.inside.ends.items c.self.inside.marks.items c.self.invariant c.args.self.now c.args.id c.self.view_is c.requires in
    forgotten-clauses c.self.inside.lits.items c.self.inside.ends.items c.self.inside.marks.items c.self.invariant (c.args.id - 1) (omega arith) c.args.id (omega arith)
    ∙ ap (λ s. without s c.args.id) c.self.view_is
