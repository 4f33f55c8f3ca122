use Rattle.std.proofs.Common.{◌≡◌, true, length, map, sym, ap, subst, ◌∙◌}
use Rattle.std.proofs.lemmas.Result.{err_from_is_err_and}
use Rattle.rail_base.specs.declared.plan.Plan.{Plan}
use Rattle.rail_base.specs.Numbering.{first_of_list}
use Rattle.rail_spec.specs.Feasible.{names_only}
use Rattle.serde_json.specs.View.{view}
use Rattle.rail_plan.specs.declared.fault.PlanCode.TheVariants.{P2}
use Rattle.rail_plan.specs.Reading.{GivesOrFails, admitted_plan, plan_of_text, planned, read_steps, train_names, unknown, unread}
use Rattle.rail_plan.proofs.Seen.{step_fails, step_given, unless_none}
use Rattle.rail_plan.proofs.Parsed.{planned_named, read_is, unread_is}
use Rattle.rail_plan.proofs.reading.plan_at.Goals as goal

pub returns-in_err-steps-in-Some : goal.returns-in_err-steps-in-Some
returns-in_err-steps-in-Some c =
    let d = c.args.interlocking.now.design.station in
    let routes = c.args.interlocking.now.routes in
    let values = map view c.in-Some.steps.now in
    let text = c.in-Some.ensures.0 in
    let same = unread_is (train_names d) (length routes) values text c.in-Some.ensures.2 in
    let p = err_from_is_err_and c.from_residual.result c.from_residual.ensures.1 in
    rw (p.1, p.2, c.in-Some.ensures.1) (step_fails (λ s. s) (λ (p : Plan). p.steps) c.in_err-steps-in-Some.field-0.0 (unread (train_names d) (length routes) values) (unknown (train_names d) (length routes) text) (read_steps (train_names d) (length routes) values) (admitted_plan d routes (planned (train_names d) (length routes) text))
    (λ q e. e ∙ ap first_of_list same) c.in_err-steps-in-Some.ensures)

pub admit-requires : goal.admit-requires
admit-requires c =
    let d = c.args.interlocking.now.design.station in
    let routes = c.args.interlocking.now.routes in
    let values = map view c.in-Some.steps.now in
    let text = c.in-Some.ensures.0 in
    let given = step_given (unread (train_names d) (length routes) values) (read_steps (train_names d) (length routes) values) c.in_ok-steps-in-Some.steps c.in_ok-steps-in-Some.ensures in
    subst (λ plan. names_only d routes plan ≡ true) (sym (given.1 ∙ read_is (train_names d) (length routes) values text c.in-Some.ensures.2)) (planned_named d routes text)

pub returns-in_ok-steps-in-Some : goal.returns-in_ok-steps-in-Some
returns-in_ok-steps-in-Some c =
    let d = c.args.interlocking.now.design.station in
    let routes = c.args.interlocking.now.routes in
    let values = map view c.in-Some.steps.now in
    let text = c.in-Some.ensures.0 in
    let given = step_given (unread (train_names d) (length routes) values) (read_steps (train_names d) (length routes) values) c.in_ok-steps-in-Some.steps c.in_ok-steps-in-Some.ensures in
    let plan = given.1 ∙ read_is (train_names d) (length routes) values text c.in-Some.ensures.2 in
    let free = given.0 ∙ ap first_of_list (unread_is (train_names d) (length routes) values text c.in-Some.ensures.2) in
    let whole = ap (plan_of_text d routes) c.in-Some.ensures.1 ∙ unless_none P2 (unknown (train_names d) (length routes) text) (admitted_plan d routes (planned (train_names d) (length routes) text)) free ∙ ap (admitted_plan d routes) (sym plan) in
    subst (λ answer. GivesOrFails (λ p. p.steps) c.admit.result answer) (sym whole) c.admit.ensures
