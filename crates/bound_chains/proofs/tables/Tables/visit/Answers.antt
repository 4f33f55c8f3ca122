use Rattle.std.proofs.Common.{◌≡◌, suc, ◌-◌, ◌∙◌, ap, arith}
use Rattle.bound_chains.specs.Tables.{list_of}
use Rattle.bound_chains.proofs.Listed.{listed}
use Rattle.bound_chains.proofs.tables.Tables.visit.Goals as goal

pub returns-in-Some : goal.returns-in-Some
returns-in-Some c =
    let n = c.args.number in
    let at = c.in-Some.ensures.lookup.3 in
    let next : suc (n - 1) ≡ n = omega (arith, c.if-number-eq0.false) in
    c.as_slice.ensures.value
    ∙ (listed c.visits.result.now (n - 1) n c.in-Some.routes.now next at.0 at.1 ∙ ap (λ lists. list_of lists n) c.visits.ensures)
