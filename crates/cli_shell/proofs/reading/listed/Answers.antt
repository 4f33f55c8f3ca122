use Rattle.cli_shell.proofs.Refusing.{again_refused, found_again}
use Rattle.cli_shell.proofs.reading.listed.Goals as goal

pub returns-in-Err-RepeatsEdge-clause-reads : goal.returns-in-Err-RepeatsEdge-clause-reads
returns-in-Err-RepeatsEdge-clause-reads c =
    let d = c.args.design.station in
    let found = found_again d c.in-Err-RepeatsEdge.field-0 c.in-Err-RepeatsEdge.edge c.in-Err-RepeatsEdge.field-0-is c.in-Err-RepeatsEdge.ensures.fault in
    rw c.from.ensures (again_refused d c.in-Err-RepeatsEdge.edge found)
