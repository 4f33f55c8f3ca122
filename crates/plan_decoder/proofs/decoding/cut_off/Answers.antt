use Rattle.std.proofs.Common.{◌≡◌, ◌++◌, ◌∷◌, [], ◌-◌, List, take, length, vec_len, refl, ap, subst, ◌∙◌, arith}
use Rattle.rail_base.specs.declared.plan.Command.{Command}
use Rattle.plan_decoder.proofs.Cuts.{cut_next}
use Rattle.plan_decoder.proofs.decoding.cut_off.Goals as goal

pub cut-preserved-in-cut : goal.cut-preserved-in-cut
cut-preserved-in-cut c =
    let EndsEmpty : List (List Command) → Type 0 = λ steps. steps ≡ take (length steps - 1) steps ++ [] ∷ [] in
    let count : vec_len c.cut.steps ≡ length c.cut.steps.items = (let l = c.as_slice.ensures.len in let v = ap length c.as_slice.ensures.value in omega arith) in
    cut_next c.cut.steps.items c.pop.new.self.items (subst EndsEmpty c.as_slice.ensures.value (c.cut-test.ensures.yes refl)) (c.pop.ensures.rest ∙ ap (λ k. take (k - 1) c.cut.steps.items) count) ∙ c.cut.invariant
