use Rattle.clause_spec.specs.declared.question.BaseKind.TheVariants.{Normal, Plain}
use Rattle.clause_spec.specs.Clauses.{base_clauses}
use Rattle.plan_encoding.specs.Bases.{IsRefused, speaks_of}
use Rattle.plan_encoding.specs.Normal.{normal_part}
use Rattle.plan_encoding.proofs.Emission.{handed_on}
use Rattle.plan_encoding.proofs.Behind.{base_few, behind_made, behind_refused}
use Rattle.plan_encoding.proofs.make.with_normal.Goals as goal

pub behind-sink-requires : goal.behind-sink-requires
behind-sink-requires c =
    let d = c.args.interlocking.now.design.station in
    let routes = c.args.interlocking.now.routes in
    let n = c.args.base.numbering.steps in
    base_few (speaks_of Plain d routes) (base_clauses d routes n) d routes n c.args.base c.requires.base

pub emit_normal-requires : goal.emit_normal-requires
emit_normal-requires c = c.requires.base.numbering

pub returns-in_err-emit_normal-clause-fault : goal.returns-in_err-emit_normal-clause-fault
returns-in_err-emit_normal-clause-fault c =
    let d = c.args.interlocking.now.design.station in
    let routes = c.args.interlocking.now.routes in
    let n = c.args.base.numbering.steps in
    let e = c.in_err-emit_normal.field-0.0 in
    handed_on (IsRefused Normal d routes n) c.from_residual.result e c.from_residual.ensures.1
    (behind_refused (speaks_of Plain d routes) (base_clauses d routes n) d routes n c.args.base c.requires.base (normal_part d routes n) c.behind-sink.result c.behind-sink.ensures e c.in_err-emit_normal.ensures.err)

pub returns-clause-base : goal.returns-clause-base
returns-clause-base c =
    let d = c.args.interlocking.now.design.station in
    let routes = c.args.interlocking.now.routes in
    let n = c.args.base.numbering.steps in
    behind_made (speaks_of Plain d routes) (base_clauses d routes n) d routes n c.args.base c.requires.base (normal_part d routes n) c.behind-sink.result c.behind-sink.ensures c.emit_normal.new.sink c.in_ok-emit_normal.ensures.ok
    _ c.requires.base.numbering c.into_clauses.ensures c.literals-literals.ensures
