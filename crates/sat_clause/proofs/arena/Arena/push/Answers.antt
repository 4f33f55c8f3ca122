use Rattle.std.proofs.Common.{arith, rules, length, ◌++◌, ◌∷◌, [], ◌≡◌, ℕ, ◌∙◌, ap, sym, true}
use Rattle.std.proofs.lemmas.Grind.{common_steps}
use Rattle.sat_clause.proofs.Laid.{count-store, pushed-clauses, pushes}
use Rattle.sat_clause.proofs.arena.Arena.push.Goals as goal

pub invariant_of-self-2 : goal.invariant_of-self-2
invariant_of-self-2 c =
    let lits : c.extend_from_slice.new.self.items ≡ c.self.inside.lits.items ++ c.args.clause.now = c.in_ok-extend_from_slice.ensures.items in
    let ends : c.push.new.self.items ≡ c.self.inside.ends.items ++ c.in_ok-end.end ∷ [] = grind (arith, common_steps) in
    let marks : c.push-2.new.self.items ≡ c.self.inside.marks.items ++ true ∷ [] = grind (arith, common_steps) in
    let size : c.in_ok-end.end ≡ length c.extend_from_slice.new.self.items = search rules in
    pushes c.self.inside.lits.items c.self.inside.ends.items c.self.inside.marks.items c.self.invariant c.args.clause.now c.extend_from_slice.new.self.items c.push.new.self.items c.push-2.new.self.items lits (ends ∙ ap (λ (n : ℕ). c.self.inside.ends.items ++ n ∷ []) size) marks

pub returns-clause-ok : goal.returns-clause-ok
returns-clause-ok c =
    let lits : c.extend_from_slice.new.self.items ≡ c.self.inside.lits.items ++ c.args.clause.now = c.in_ok-extend_from_slice.ensures.items in
    let ends : c.push.new.self.items ≡ c.self.inside.ends.items ++ c.in_ok-end.end ∷ [] = grind (arith, common_steps) in
    let marks : c.push-2.new.self.items ≡ c.self.inside.marks.items ++ true ∷ [] = grind (arith, common_steps) in
    let size : c.in_ok-end.end ≡ length c.extend_from_slice.new.self.items = search rules in
    let ended = ends ∙ ap (λ (n : ℕ). c.self.inside.ends.items ++ n ∷ []) size in
    let many : c.len.result ≡ length c.push.new.self.items = search rules in
    let after = pushes c.self.inside.lits.items c.self.inside.ends.items c.self.inside.marks.items c.self.invariant c.args.clause.now c.extend_from_slice.new.self.items c.push.new.self.items c.push-2.new.self.items lits ended marks in (
      many ∙ sym (count-store c.extend_from_slice.new.self.items c.push.new.self.items c.push-2.new.self.items after),
      pushed-clauses c.self.inside.lits.items c.self.inside.ends.items c.self.inside.marks.items c.self.invariant c.args.clause.now c.extend_from_slice.new.self.items c.push.new.self.items c.push-2.new.self.items lits ended marks c.args.self.now c.self.view_is,
    )
