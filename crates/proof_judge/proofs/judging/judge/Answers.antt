use Rattle.std.proofs.Common.{◌≡◌, ℕ, ◌≤◌, ◌∙◌, List, Result, Ok, None, Some, ap, sym, subst, IfOk}
use Rattle.rail_text.specs.Pieces.{pieces}
use Rattle.log_checker.specs.declared.check_result.CheckResult.{CheckResult}
use Rattle.log_checker.specs.declared.check_result.CheckResult.TheVariants.{Yes}
use Rattle.log_checker.specs.Verdict.{head_in}
use Rattle.proof_log.specs.declared.head.Head.TheVariants.{Unnamed, Of}
use Rattle.rail_base.specs.declared.station.Station.{Station}
use Rattle.rail_base.specs.Admitted.{IsAdmitted}
use Rattle.rail_base.proofs.Admitting.{admitted}
use Rattle.rail_spec.specs.Feasible.{IsInfeasible}
use Rattle.proof_judge.specs.Judged.{judged}
use Rattle.proof_judge.proofs.Sound.{yes_infeasible}
use Rattle.proof_judge.proofs.Under.{by_head, fault_so, fits_so}
use Rattle.proof_judge.proofs.judging.judge.Goals as goal

sound : {E : Type 0} (d : Station) → IsAdmitted d → (n : ℕ) (bytes : List ℕ) → 1 ≤ n → (r : Result CheckResult E) → IfOk r (λ shown. shown ≡ judged d n bytes) → (k : ℕ) → r ≡ Ok (Yes k) → IsInfeasible d k
sound d good n bytes some r value k e = (yes_infeasible d good n k bytes some (sym (subst (λ z. IfOk z (λ shown. shown ≡ judged d n bytes)) e value))).1.1

pub returns-in-Some-Of-clause-sound : goal.returns-in-Some-Of-clause-sound
returns-in-Some-Of-clause-sound c =
    let i = c.args.interlocking.now in
    let d = i.design.station in
    let n = c.args.steps.count in
    sound d (admitted d i.design.admitted) n c.args.bytes.now c.args.steps.at_least_one c.judge_question.result
    (by_head d n c.args.bytes.now c.judge_question.result (head_in (pieces c.args.bytes.now)) (Some (Of c.in-Some-Of.question)) (sym c.head_in.ensures ∙ (c.in-Some-Of.is ∙ ap Some c.in-Some-Of.field-0-is)) c.judge_question.ensures.value)

pub returns-in-Some-Unnamed-clause-fits : goal.returns-in-Some-Unnamed-clause-fits
returns-in-Some-Unnamed-clause-fits c =
    let i = c.args.interlocking.now in
    fits_so i.design.station c.args.steps.count c.args.bytes.now i.routes i.table (Some Unnamed) (sym c.head_in.ensures ∙ (c.in-Some-Unnamed.is ∙ ap Some c.in-Some-Unnamed.field-0-is)) c.judge_unnamed.result c.judge_unnamed.ensures.fits

pub returns-in-Some-Unnamed-clause-fault : goal.returns-in-Some-Unnamed-clause-fault
returns-in-Some-Unnamed-clause-fault c =
    let i = c.args.interlocking.now in
    fault_so i.design.station c.args.steps.count c.args.bytes.now i.routes i.table (Some Unnamed) (sym c.head_in.ensures ∙ (c.in-Some-Unnamed.is ∙ ap Some c.in-Some-Unnamed.field-0-is)) c.judge_unnamed.result c.judge_unnamed.ensures.fault

pub returns-in-Some-Unnamed-clause-sound : goal.returns-in-Some-Unnamed-clause-sound
returns-in-Some-Unnamed-clause-sound c =
    let i = c.args.interlocking.now in
    let d = i.design.station in
    let n = c.args.steps.count in
    sound d (admitted d i.design.admitted) n c.args.bytes.now c.args.steps.at_least_one c.judge_unnamed.result
    (by_head d n c.args.bytes.now c.judge_unnamed.result (head_in (pieces c.args.bytes.now)) (Some Unnamed) (sym c.head_in.ensures ∙ (c.in-Some-Unnamed.is ∙ ap Some c.in-Some-Unnamed.field-0-is)) c.judge_unnamed.ensures.value)

pub returns-in-None-clause-fits : goal.returns-in-None-clause-fits
returns-in-None-clause-fits c =
    let i = c.args.interlocking.now in
    fits_so i.design.station c.args.steps.count c.args.bytes.now i.routes i.table None (sym c.head_in.ensures ∙ c.in-None.is) c.judge_unnamed-in-None.result c.judge_unnamed-in-None.ensures.fits

pub returns-in-None-clause-fault : goal.returns-in-None-clause-fault
returns-in-None-clause-fault c =
    let i = c.args.interlocking.now in
    fault_so i.design.station c.args.steps.count c.args.bytes.now i.routes i.table None (sym c.head_in.ensures ∙ c.in-None.is) c.judge_unnamed-in-None.result c.judge_unnamed-in-None.ensures.fault

pub returns-in-None-clause-sound : goal.returns-in-None-clause-sound
returns-in-None-clause-sound c =
    let i = c.args.interlocking.now in
    let d = i.design.station in
    let n = c.args.steps.count in
    sound d (admitted d i.design.admitted) n c.args.bytes.now c.args.steps.at_least_one c.judge_unnamed-in-None.result
    (by_head d n c.args.bytes.now c.judge_unnamed-in-None.result (head_in (pieces c.args.bytes.now)) None (sym c.head_in.ensures ∙ c.in-None.is) c.judge_unnamed-in-None.ensures.value)
