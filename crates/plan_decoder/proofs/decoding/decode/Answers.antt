use Rattle.std.proofs.Common.{◌≡◌, ◌++◌, ◌≤◌, ◌+◌, ℕ, List, [], ◌∷◌, map, refl, sym, ap, subst, ◌∙◌, arith}
use Rattle.rail_base.specs.declared.plan.Command.{Command}
use Rattle.rail_base.specs.Numbering.{one_to}
use Rattle.rail_spec.specs.Feasible.{IsRunnable}
use Rattle.sat_core.specs.Models.{value_in}
use Rattle.clause_spec.specs.Laws.{Agrees}
use Rattle.clause_spec.specs.Models.{cut_off, model_of}
use Rattle.clause_spec.proofs.Theorems.{models_are_plans}
use Rattle.base_spec.specs.Bases.{on_plain}
use Rattle.base_spec.proofs.Alike.{begins_with_plain}
use Rattle.plan_encoding.specs.Bases.{speaks_of}
use Rattle.plan_decoder.specs.Decoded.{EndsAsSaid, new_in}
use Rattle.plan_decoder.proofs.Ends.{ends_as_said}
use Rattle.plan_decoder.proofs.Puts.{put_next, put_all}
use Rattle.plan_decoder.proofs.Told.{decoded_as}
use Rattle.plan_decoder.proofs.decoding.decode.Goals as goal
use Rattle.plan_decoder.proofs.decoding.decode.Goals.{else-loop-step-test, then-loop-step-test+in_ok-given_in+in_ok-push+else-step-step-end}

pub loop-step-preserved : goal.loop-step-preserved
loop-step-preserved c = λ live d routes n is.
    let step : ℕ → List Command = new_in live d routes n c.args.values.now in
    let low : c.loop-step.step ≤ n = (let k = c.steps-step-end.ensures in let l = c.loop-step-test.true in let m = is.steps in omega arith) in
    put_next c.loop-step.steps.items c.push.new.self.items _ (map step) c.loop-step.step n (step c.loop-step.step ∷ []) low refl (c.in_ok-push.ensures.items ∙ ap (λ s. c.loop-step.steps.items ++ s ∷ []) (c.in_ok-given_in.ensures live d routes n is)) (c.loop-step.invariant live d routes n is)

pub returns-clause-value : goal.returns-clause-value
returns-clause-value c = λ kind d routes n is.
    let live = speaks_of kind d routes in
    let step : ℕ → List Command = new_in live d routes n c.args.values.now in
    let all : List (List Command) = map step (one_to n) in
    let steps_are : c.steps-step-end.result.count ≡ n = c.steps-step-end.ensures ∙ is.steps in
    let whole : c.loop-step-test.steps.items ≡ all =
    elim c.loop-step-test.branch [
      | else-loop-step-test w ↦ ap (λ v. v.items) w.steps-is ∙ put_all c.loop-step.steps.items all (map step) c.loop-step.step n (omega (arith, w.loop-step-test.false)) refl (c.loop-step.invariant live d routes n is)
      | then-loop-step-test+in_ok-given_in+in_ok-push+else-step-step-end w ↦
          ap (λ v. v.items) w.steps-is ∙ put_all w.push.new.self.items all (map step) (c.loop-step.step + 1) n (omega arith) refl
          (put_next c.loop-step.steps.items w.push.new.self.items all (map step) c.loop-step.step n (step c.loop-step.step ∷ []) (omega (arith, w.loop-step-test.true)) refl (w.in_ok-push.ensures.items ∙ ap (λ s. c.loop-step.steps.items ++ s ∷ []) (w.in_ok-given_in.ensures live d routes n is)) (c.loop-step.invariant live d routes n is))
    ] in
    c.from_vec.ensures ∙ (c.cut_off.ensures ∙ (ap cut_off whole ∙ decoded_as kind d routes n (value_in c.args.values.now)))

pub returns-clause-runnable : goal.returns-clause-runnable
returns-clause-runnable c = λ kind d routes n is some holds.
    let values = value_in c.args.values.now in
    subst (IsRunnable d routes n) (sym (returns-clause-value c kind d routes n is)) (models_are_plans d routes n (on_plain kind d routes n values) some (begins_with_plain kind d routes n some values holds)).0

pub returns-clause-agrees : goal.returns-clause-agrees
returns-clause-agrees c = λ kind d routes n is some holds.
    let values = value_in c.args.values.now in
    let whole = on_plain kind d routes n values in
    subst (λ steps. Agrees d routes n (model_of d routes n steps) whole) (sym (returns-clause-value c kind d routes n is)) (models_are_plans d routes n whole some (begins_with_plain kind d routes n some values holds)).1

pub returns-clause-ends : goal.returns-clause-ends
returns-clause-ends c = λ kind d routes n is holds. subst (EndsAsSaid kind d routes n c.args.values.now) (sym (returns-clause-value c kind d routes n is)) (ends_as_said kind d routes n c.args.values.now holds)
