-- Before the horizon, and after it, no grant and no visit is looked for.
use Rattle.std.proofs.Common.{◌≡◌, Some, MatchOption, find, sym, ◌∙◌, rules}
use Rattle.rail_require.specs.Violations.{is_certain, grant_violations, visit_violations}
use Rattle.rail_require.proofs.Finding.{find-or_else}
use Rattle.rail_require.proofs.Missing.{find-not_due}
use Rattle.rail_require.proofs.first_missing.Goals as goal

pub returns : goal.returns
returns c =
    let d = c.args.design.now.station in
    let h = c.args.history.now in
    let grant : c.missing_grant.result ≡ find (is_certain d h c.args.tick) (grant_violations h) = search rules in
    let visit : MatchOption c.missing_grant.result (c.or_else.result ≡ find (is_certain d h c.args.tick) (visit_violations h)) (λ x. c.or_else.result ≡ Some x) = search rules in
    find-or_else (is_certain d h c.args.tick) (grant_violations h) (visit_violations h) c.missing_grant.result c.or_else.result grant visit

pub returns-then-tick-horizon : goal.returns-then-tick-horizon
returns-then-tick-horizon c = sym (find-not_due c.args.design.now.station c.args.history.now c.args.tick (λ e. c.if-tick-horizon.true (e ∙ sym c.horizon.ensures.value)))
