use Rattle.std.proofs.Common.{◌≡◌, suc, ◌-◌, ◌∙◌, arith}
use Rattle.bound_chains.proofs.Listed.{listed}
use Rattle.bound_chains.proofs.tables.list_at.Goals as goal

pub returns-in-Some : goal.returns-in-Some
returns-in-Some c =
    let n = c.args.signal in
    let at = c.in-Some.ensures.lookup.3 in
    let next : suc (n - 1) ≡ n = omega (arith, c.if-signal-eq0.false) in
    c.as_slice.ensures.value ∙ listed c.args.lists.now (n - 1) n c.in-Some.list.now next at.0 at.1
