use Rattle.std.proofs.Common.{◌≡◌, ◌+◌, ◌-◌, ℕ, List, length, take, ap, ◌∙◌, arith}
use Rattle.sat_clause.specs.Layout.{begin_at}
use Rattle.sat_clause.proofs.Laid.{count-store, pops, popped-clauses}
use Rattle.sat_clause.proofs.arena.Arena.pop.Goals as goal

pub invariant_of-self : goal.invariant_of-self
invariant_of-self c =
    let lits = c.self.inside.lits.items in
    let es = c.self.inside.ends.items in
    let ms = c.self.inside.marks.items in
    let k = c.len-place.result - 1 in
    let n = count-store lits es ms c.self.invariant in
    let v = ap length c.self.view_is in
    let m = c.len-place.ensures in
    let last : k + 1 ≡ length es = omega arith in
    let b : c.begin-start.result ≡ begin_at 0 es k = c.begin-start.ensures ∙ ap (λ (xs : List ℕ). begin_at 0 xs k) c.deref.ensures.value in
    pops lits es ms c.self.invariant k last c.truncate-3.new.self.items c.truncate-2.new.self.items c.truncate.new.self.items (c.truncate-3.ensures.items ∙ ap (λ s. take s lits) b) c.truncate-2.ensures.items c.truncate.ensures.items

pub returns : goal.returns
returns c =
    let lits = c.self.inside.lits.items in
    let es = c.self.inside.ends.items in
    let ms = c.self.inside.marks.items in
    let k = c.len-place.result - 1 in
    let n = count-store lits es ms c.self.invariant in
    let v = ap length c.self.view_is in
    let m = c.len-place.ensures in
    let last : k + 1 ≡ length es = omega arith in
    let b : c.begin-start.result ≡ begin_at 0 es k = c.begin-start.ensures ∙ ap (λ (xs : List ℕ). begin_at 0 xs k) c.deref.ensures.value in
    popped-clauses lits es ms c.self.invariant k last c.truncate-3.new.self.items c.truncate-2.new.self.items c.truncate.new.self.items (c.truncate-3.ensures.items ∙ ap (λ s. take s lits) b) c.truncate-2.ensures.items c.truncate.ensures.items c.args.self.now c.self.view_is
