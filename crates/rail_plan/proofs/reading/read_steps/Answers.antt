use Rattle.std.proofs.Common.{◌≡◌, ℕ, ◌+◌, ◌∷◌, ◌++◌, [], List, Ok, length, take, map, sym, ap, ◌∙◌}
use Rattle.std.proofs.lemmas.List.{map-append}
use Rattle.std.proofs.lemmas.Result.{err_from_is_err_and}
use Rattle.rail_base.specs.declared.plan.Command.{Command}
use Rattle.rail_base.specs.Numbering.{entry, first_of_list}
use Rattle.serde_json.specs.Data.{Data, null}
use Rattle.serde_json.specs.View.{view}
use Rattle.rail_plan.specs.declared.place.PlanPlace.{PlanPlace}
use Rattle.rail_plan.specs.Reading.{read_in, read_steps, unread, unread_in, values_of}
use Rattle.rail_plan.proofs.Firsts.{walk_on, walk_found}
use Rattle.rail_plan.proofs.Seen.{step_fails, step_given, entry_mapped, map_more}
use Rattle.rail_plan.proofs.reading.read_steps.Goals as goal

-- the places of the step of a number
abbrev places : List (List ℕ) → ℕ → List Data → ℕ → List PlanPlace
places names many ds i = unread_in names many i (values_of (entry null ds i))

pub returns-in_err-step : goal.returns-in_err-step
returns-in_err-step c =
    let names : List (List ℕ) = map (λ k. k.now) c.args.names.now.keys in
    let values = c.args.values.now in
    let i = c.loop-index.index in
    let here : map view c.values_of.result.now ≡ values_of (entry null (map view values) (i + 1)) = c.values_of.ensures ∙ ap values_of (sym (entry_mapped view null values i c.index-values-index.result c.loop-index-test.true c.index-values-index.is)) in
    let same : unread_in names c.args.many (i + 1) (map view c.values_of.result.now) ≡ places names c.args.many (map view values) (i + 1) = ap (unread_in names c.args.many (i + 1)) here in
    let p = err_from_is_err_and c.from_residual.result c.from_residual.ensures.1 in
    rw (p.1, p.2) (step_fails (λ s. s) (λ s. s) c.in_err-step.field-0.0 (unread_in names c.args.many (i + 1) (map view c.values_of.result.now)) (unread names c.args.many (map view values)) (read_in names c.args.many (map view c.values_of.result.now)) (Ok (read_steps names c.args.many (map view values)))
    (λ q e. sym (walk_found (places names c.args.many (map view values)) (length values) i q c.loop-index-test.true (e ∙ ap first_of_list same)) ∙ c.loop-index.invariant.first) c.in_err-step.ensures)

pub loop-index-preserved : goal.loop-index-preserved
loop-index-preserved c =
    let names : List (List ℕ) = map (λ k. k.now) c.args.names.now.keys in
    let values = c.args.values.now in
    let i = c.loop-index.index in
    let here : map view c.values_of.result.now ≡ values_of (entry null (map view values) (i + 1)) = c.values_of.ensures ∙ ap values_of (sym (entry_mapped view null values i c.index-values-index.result c.loop-index-test.true c.index-values-index.is)) in
    let same : unread_in names c.args.many (i + 1) (map view c.values_of.result.now) ≡ places names c.args.many (map view values) (i + 1) = ap (unread_in names c.args.many (i + 1)) here in
    let given = step_given (unread_in names c.args.many (i + 1) (map view c.values_of.result.now)) (read_in names c.args.many (map view c.values_of.result.now)) c.in_ok-step.step c.in_ok-step.ensures in
    record {
      steps =
          c.in_ok-push.ensures.ok ∙ ap (λ (ss : List (List Command)). ss ++ c.in_ok-step.step ∷ []) c.loop-index.invariant.steps
          ∙ ap (λ (s : List Command). read_steps names c.args.many (map view (take i values)) ++ s ∷ []) (given.1 ∙ ap (read_in names c.args.many) c.values_of.ensures)
          ∙ sym (ap (read_steps names c.args.many) (map_more view values i c.index-values-index.result c.loop-index-test.true c.index-values-index.is) ∙ map-append (λ d. read_in names c.args.many (values_of d)) (map view (take i values)) (view c.index-values-index.result ∷ []));
      first = sym (walk_on (places names c.args.many (map view values)) (length values) i c.loop-index-test.true (given.0 ∙ ap first_of_list same)) ∙ c.loop-index.invariant.first;
    }
