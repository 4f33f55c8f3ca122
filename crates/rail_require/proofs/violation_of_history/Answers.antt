-- The kinds are looked for in turn, and a history of the run shows what happens in the run.
use Rattle.std.proofs.Common.{◌≡◌, ◌++◌, Some, MatchOption, find, sym, ap, ◌∙◌, append_assoc, rules}
use Rattle.rail_base.proofs.Admitting.{admitted}
use Rattle.rail_require.specs.Violations.{is_certain, within_violations, order_violations, grant_violations, visit_violations, violation_in}
use Rattle.rail_require.proofs.Finding.{find-or_else}
use Rattle.rail_require.proofs.Agreeing.{violation_told}
use Rattle.rail_require.proofs.violation_of_history.Goals as goal

pub returns-clause-value : goal.returns-clause-value
returns-clause-value c =
    let d = c.args.design.now.station in
    let h = c.args.history.now in
    let order : MatchOption c.late_within.result (c.or_else.result ≡ find (is_certain d h c.args.tick) (order_violations d)) (λ x. c.or_else.result ≡ Some x) = search rules in
    let missing : MatchOption c.or_else.result (c.or_else-2.result ≡ find (is_certain d h c.args.tick) (grant_violations h ++ visit_violations h)) (λ x. c.or_else-2.result ≡ Some x) = search rules in
    let two = find-or_else (is_certain d h c.args.tick) (within_violations d) (order_violations d) c.late_within.result c.or_else.result c.late_within.ensures order in
    find-or_else (is_certain d h c.args.tick) (within_violations d ++ order_violations d) (grant_violations h ++ visit_violations h) c.or_else.result c.or_else-2.result two missing
    ∙ ap (find (is_certain d h c.args.tick)) (sym (append_assoc (within_violations d ++ order_violations d) (grant_violations h) (visit_violations h)))

pub returns-clause-run : goal.returns-clause-run
returns-clause-run c = λ routes plan low told.
    let d = c.args.design.now.station in
    returns-clause-value c ∙ ap (λ h. violation_in d h c.args.tick) told ∙ violation_told d routes plan (admitted d c.args.design.now.admitted) c.args.tick low
