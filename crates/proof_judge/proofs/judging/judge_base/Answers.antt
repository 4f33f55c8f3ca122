use Rattle.std.proofs.Common.{◌≡◌, List, IfOk, sym, ap, subst, ◌∙◌}
use Rattle.base_spec.specs.Bases.{variables_of}
use Rattle.clause_spec.specs.declared.question.BaseKind.{BaseKind}
use Rattle.log_checker.specs.Verdict.{log_verdict}
use Rattle.rail_base.specs.declared.route.Route.{Route}
use Rattle.rail_spec.specs.Track.{routes_of}
use Rattle.plan_encoding.specs.Bases.{IsBaseOf, speaks_of}
use Rattle.plan_encoding.specs.Numberings.{IsNumberingOf}
use Rattle.plan_encoding.proofs.Lefts.{of_design, paired}
use Rattle.proof_log.specs.Heads.{base_of}
use Rattle.proof_judge.specs.Judged.{refuted}
use Rattle.proof_judge.proofs.Under.{under}
use Rattle.proof_judge.proofs.judging.judge_base.Goals as goal

pub invariant_of-contention : goal.invariant_of-contention
invariant_of-contention c =
    let i = c.args.interlocking.now in
    let d = i.design.station in
    let n = c.args.base.numbering.steps in
    let live = speaks_of (base_of c.args.head) d i.routes in
    record {
      of_design = rw c.pairs.ensures.commands (of_design live d i.routes n c.args.base.numbering c.requires.base.numbering);
      paired = rw c.pairs.ensures.commands (c.pairs.ensures.pairs ∙ paired live d i.routes n c.args.base.numbering c.requires.base.numbering);
      at_most_8000000 = c.pairs.ensures.bound;
    }

pub invariant_of-design : goal.invariant_of-design
invariant_of-design c =
    let i = c.args.interlocking.now in
    record { speaks = rw c.base-kind.ensures (c.pairs.ensures.commands ∙ c.requires.base.numbering.commands) }

pub returns : goal.returns
returns c =
    let i = c.args.interlocking.now in
    let d = i.design.station in
    let n = c.args.base.numbering.steps in
    let head = c.args.head in
    let base : IsBaseOf (base_of head) d (routes_of d) n c.args.base =
    subst (λ (rs : List Route). IsBaseOf (base_of head) d rs n c.args.base) i.table c.requires.base in
    let numbering = subst (λ (k : BaseKind). IsNumberingOf (speaks_of k d (routes_of d)) d (routes_of d) n c.args.base.numbering) (sym c.base-kind.ensures) base.numbering in
    under d n c.args.bytes.now c.judge_clauses.result head c.steps.result.count c.variables-variables.result c.args.base.clauses c.steps.ensures
    (c.variables-variables.ensures d (routes_of d) n numbering ∙ ap (λ (k : BaseKind). variables_of k d (routes_of d) n) c.base-kind.ensures) base.clauses
    (subst (λ (k : BaseKind). IfOk c.judge_clauses.result (λ shown. shown ≡ log_verdict head (refuted k d c.steps.result.count) c.variables-variables.result c.args.base.clauses c.args.bytes.now)) c.base-kind.ensures c.judge_clauses.ensures)
