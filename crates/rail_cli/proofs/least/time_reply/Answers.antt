use Rattle.std.proofs.Common.{rules, Err, refl, ap, sym, ◌∙◌, subst}
use Rattle.clause_spec.specs.declared.question.BaseKind.{BaseKind}
use Rattle.interlocking.specs.declared.railway.Interlocking.{Interlocking}
use Rattle.rail_base.specs.declared.station.Station.{Station}
use Rattle.cli_shell.specs.Answers.{and_then, design_in, with_within}
use Rattle.cli_shell.specs.Replies.{ReadsOrEnds}
use Rattle.proof_shell.specs.Answers.{with_clauses}
use Rattle.cli_shell.proofs.Asking.{first_of_two, second_of_two}
use Rattle.rail_cli.proofs.Telling.{design_timed}
use Rattle.rail_cli.proofs.TimeFinding.{time_unfetched, time_unfetched_some, time_unread, time_unread_some, time_refused, time_refused_some, time_ended_some, time_ended_so, time_spelled}
use Rattle.rail_cli.proofs.least.time_reply.Goals as goal

pub returns-in_err-bytes-clause-replies : goal.returns-in_err-bytes-clause-replies
returns-in_err-bytes-clause-replies g c = λ files reply_for. time_unfetched c.from_residual.result c.args.steps c.args.bounds c.args.within c.args.budgets c.args.design.now c.args.proof.now files c.in_err-bytes.field-0.0 (search rules) (c.in_err-bytes.ensures.reads files reply_for)

pub returns-in_err-bytes-clause-for_some_files : goal.returns-in_err-bytes-clause-for_some_files
returns-in_err-bytes-clause-for_some_files g c = time_unfetched_some c.from_residual.result c.args.steps c.args.bounds c.args.within c.args.budgets c.args.design.now c.args.proof.now c.in_err-bytes.field-0.0 (search rules) c.in_err-bytes.ensures.for_some_bytes

pub returns-in_err-bytes-clause-uses : goal.returns-in_err-bytes-clause-uses
returns-in_err-bytes-clause-uses g c = record { cause = (search rules); never_falls = (search rules); asks = first_of_two _ _ _ _ c.fetch.ensures.uses.asks }

pub returns-in_err-interlocking-clause-replies : goal.returns-in_err-interlocking-clause-replies
returns-in_err-interlocking-clause-replies g c = λ files reply_for.
    time_unread c.from_residual-in_err-interlocking.result c.args.steps c.args.bounds c.args.within c.args.budgets c.args.design.now c.args.proof.now c.in_ok-bytes.bytes.items files (c.in_ok-bytes.ensures.reads files reply_for) (λ (i : Interlocking). i.design.station) c.in_err-interlocking.field-0.0 (search rules) (rw c.as_slice.ensures.value at c.in_err-interlocking.ensures.reads)

pub returns-in_err-interlocking-clause-for_some_files : goal.returns-in_err-interlocking-clause-for_some_files
returns-in_err-interlocking-clause-for_some_files g c =
    time_unread_some c.from_residual-in_err-interlocking.result c.args.steps c.args.bounds c.args.within c.args.budgets c.args.design.now c.args.proof.now c.in_ok-bytes.bytes.items c.in_ok-bytes.ensures.for_some_bytes (λ (i : Interlocking). i.design.station) c.in_err-interlocking.field-0.0 (search rules) (rw c.as_slice.ensures.value at c.in_err-interlocking.ensures.reads)

pub returns-then-within-len-clause-replies : goal.returns-then-within-len-clause-replies
returns-then-within-len-clause-replies g c = λ files reply_for.
    time_ended_so c.timed_in.result c.args.steps c.args.bounds c.args.within c.args.budgets c.args.design.now c.args.proof.now c.in_ok-bytes.bytes.items files c.in_ok-interlocking.interlocking.design (c.in_ok-bytes.ensures.reads files reply_for) (ap design_in (sym c.as_slice.ensures.value) ∙ c.in_ok-interlocking.ensures.reads) c.requires.room c.timed_in.ensures.replies

pub returns-then-within-len-clause-for_some_files : goal.returns-then-within-len-clause-for_some_files
returns-then-within-len-clause-for_some_files g c =
    time_ended_some c.timed_in.result c.args.steps c.args.bounds c.args.within c.args.budgets c.args.design.now c.args.proof.now c.in_ok-bytes.bytes.items c.in_ok-interlocking.interlocking.design.station (ap design_in (sym c.as_slice.ensures.value) ∙ c.in_ok-interlocking.ensures.reads) c.in_ok-bytes.ensures.for_some_bytes c.requires.room c.timed_in.ensures.replies

pub returns-then-within-len-clause-stored : goal.returns-then-within-len-clause-stored
returns-then-within-len-clause-stored g c = λ files reply_for.
    c.timed_in.ensures.stored files c.args.design.now (c.fetch.ensures.uses.files_stay ∙ reply_for) (time_spelled c.timed_in.result c.args.steps c.args.bounds c.args.within c.args.budgets c.args.design.now c.args.proof.now c.in_ok-bytes.bytes.items files c.in_ok-interlocking.interlocking.design.station (c.in_ok-bytes.ensures.reads files reply_for) (ap design_in (sym c.as_slice.ensures.value) ∙ c.in_ok-interlocking.ensures.reads))

pub returns-then-within-len-clause-uses : goal.returns-then-within-len-clause-uses
returns-then-within-len-clause-uses g c = record { cause = (search rules); never_falls = (search rules); asks = second_of_two _ _ _ _ _ c.in_ok-bytes.ensures.asked c.timed_in.ensures.uses.asks }

pub returns-then-within-len-clause-tells : goal.returns-then-within-len-clause-tells
returns-then-within-len-clause-tells g c = λ files reply_for.
    design_timed c.args.bounds c.args.within (files c.args.design.now) c.in_ok-interlocking.interlocking.design.station c.args.steps _ _ (time_spelled c.timed_in.result c.args.steps c.args.bounds c.args.within c.args.budgets c.args.design.now c.args.proof.now c.in_ok-bytes.bytes.items files c.in_ok-interlocking.interlocking.design.station (c.in_ok-bytes.ensures.reads files reply_for) (ap design_in (sym c.as_slice.ensures.value) ∙ c.in_ok-interlocking.ensures.reads)) c.timed_in.ensures.tells

pub returns-clause-replies : goal.returns-clause-replies
returns-clause-replies g c = λ files reply_for.
    time_refused (Err c.without_within.result) c.args.steps c.args.bounds c.args.within c.args.budgets c.args.design.now c.args.proof.now c.in_ok-bytes.bytes.items c.in_ok-interlocking.interlocking.design.station (ap design_in (sym c.as_slice.ensures.value) ∙ c.in_ok-interlocking.ensures.reads) files (c.in_ok-bytes.ensures.reads files reply_for) c.without_within.result refl
    (subst (λ (kind : BaseKind). ReadsOrEnds (λ (x : Station). x) (Err c.without_within.result) (and_then (with_clauses kind c.args.steps c.in_ok-interlocking.interlocking.design.station) (with_within c.args.within))) c.base_for.ensures c.without_within.ensures.reads)

pub returns-clause-for_some_files : goal.returns-clause-for_some_files
returns-clause-for_some_files g c =
    time_refused_some (Err c.without_within.result) c.args.steps c.args.bounds c.args.within c.args.budgets c.args.design.now c.args.proof.now c.in_ok-bytes.bytes.items c.in_ok-interlocking.interlocking.design.station (ap design_in (sym c.as_slice.ensures.value) ∙ c.in_ok-interlocking.ensures.reads) c.in_ok-bytes.ensures.for_some_bytes c.without_within.result refl
    (subst (λ (kind : BaseKind). ReadsOrEnds (λ (x : Station). x) (Err c.without_within.result) (and_then (with_clauses kind c.args.steps c.in_ok-interlocking.interlocking.design.station) (with_within c.args.within))) c.base_for.ensures c.without_within.ensures.reads)
