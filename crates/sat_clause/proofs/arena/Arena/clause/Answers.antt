use Rattle.std.proofs.Common.{◌≡◌, ◌<◌, ◌-◌, ℕ, List, length, get_or, take, drop, ap, ap₂, ◌∙◌, arith}
use Rattle.sat_clause.specs.declared.lit.Lit.{Lit}
use Rattle.sat_clause.specs.Layout.{begin_at}
use Rattle.sat_clause.proofs.Laid.{end-is, lent-clause, number-within, piece-within}
use Rattle.sat_clause.proofs.arena.Arena.clause.Goals as goal

pub begin-start-requires : goal.begin-start-requires
begin-start-requires c =
    let w = number-within c.self.inside.lits.items c.self.inside.ends.items c.self.inside.marks.items c.self.invariant c.args.self.now c.args.id c.self.view_is c.requires in
    let e = ap length c.deref.ensures.value in
    omega arith

pub index-requires : goal.index-requires
index-requires c =
    let w = number-within c.self.inside.lits.items c.self.inside.ends.items c.self.inside.marks.items c.self.invariant c.args.self.now c.args.id c.self.view_is c.requires in
    omega arith

pub part-requires : goal.part-requires
part-requires c =
    let es = c.self.inside.ends.items in
    let k = c.args.id - 1 in
    let w = number-within c.self.inside.lits.items es c.self.inside.marks.items c.self.invariant c.args.self.now c.args.id c.self.view_is c.requires in
    let l : k < length es = omega arith in
    let p = piece-within c.self.inside.lits.items es c.self.inside.marks.items c.self.invariant k l in
    let b : c.begin-start.result ≡ begin_at 0 es k = c.begin-start.ensures ∙ ap (λ (xs : List ℕ). begin_at 0 xs k) c.deref.ensures.value in
    let e : c.index.result.now ≡ get_or es k 0 = end-is es k c.index.result.now l c.index.ensures in
    let n = ap length c.deref-2.ensures.value in
    record { ordered = omega arith; within = omega arith }

pub returns : goal.returns
returns c =
    let lits = c.self.inside.lits.items in
    let es = c.self.inside.ends.items in
    let k = c.args.id - 1 in
    let w = number-within lits es c.self.inside.marks.items c.self.invariant c.args.self.now c.args.id c.self.view_is c.requires in
    let l : k < length es = omega arith in
    let b : c.begin-start.result ≡ begin_at 0 es k = c.begin-start.ensures ∙ ap (λ (xs : List ℕ). begin_at 0 xs k) c.deref.ensures.value in
    let e : c.index.result.now ≡ get_or es k 0 = end-is es k c.index.result.now l c.index.ensures in
    lent-clause lits es c.self.inside.marks.items c.self.invariant c.args.self.now c.args.id k c.part.result.now c.self.view_is c.requires (omega arith) l
    (c.part.ensures ∙ (ap (λ (xs : List Lit). take (c.index.result.now - c.begin-start.result) (drop c.begin-start.result xs)) c.deref-2.ensures.value ∙ ap₂ (λ s t. take (t - s) (drop s lits)) b e))
