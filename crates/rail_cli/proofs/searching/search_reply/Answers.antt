use Rattle.std.proofs.Common.{◌≡◌, rules, true, ℕ, Vec, Global, ap, sym, ◌∙◌, subst}
use Rattle.interlocking.specs.declared.railway.Interlocking.{Interlocking}
use Rattle.cli_shell.specs.Answers.{design_in}
use Rattle.cli_shell.proofs.Asking.{first_of_two, second_of_two}
use Rattle.rail_cli.proofs.Finding.{RepliesBy, unfetched_so, unread_so, spelled_so, ended_so}
use Rattle.proof_judge.specs.Judged.{names_within}
use Rattle.rail_cli.proofs.Leaving.{early_leaves, modes_named}
use Rattle.rail_cli.proofs.AnyShelf.{unsearched, unsearched_design, all_searched}
use Rattle.rail_cli.specs.Answers.{aim_of}
use Rattle.verify_loop.specs.declared.outcome.Aim.{Aim}
use Rattle.verify_loop.specs.Telling.{TellsHowFar}
use Rattle.rail_cli.proofs.Telling.{none_of, design_tells}
use Rattle.rail_cli.proofs.searching.search_reply.Goals as goal

pub returns-in_err-bytes-clause-replies : goal.returns-in_err-bytes-clause-replies
returns-in_err-bytes-clause-replies g c = λ files reply_for.
    unfetched_so files c.args.steps c.args.mode c.args.budgets c.args.design.now c.args.proof.now (λ (v : Vec ℕ Global). v.items) c.in_err-bytes.field-0.0 c.from_residual.result (search rules) (c.in_err-bytes.ensures.reads files reply_for)

pub returns-in_err-bytes-clause-stored : goal.returns-in_err-bytes-clause-stored
returns-in_err-bytes-clause-stored g c = λ files reply_for.
    early_leaves files c.args.steps c.args.design.now c.args.proof.now _ c.from_residual.result c.in_err-bytes.field-0.0 (search rules) (search rules) (c.fetch.ensures.uses.files_stay ∙ reply_for)

pub returns-in_err-bytes-clause-uses : goal.returns-in_err-bytes-clause-uses
returns-in_err-bytes-clause-uses g c = record { cause = (search rules); never_falls = (search rules); asks = first_of_two _ _ _ _ c.fetch.ensures.uses.asks }

pub returns-in_err-interlocking-clause-replies : goal.returns-in_err-interlocking-clause-replies
returns-in_err-interlocking-clause-replies g c = λ files reply_for.
    unread_so files c.args.steps c.args.mode c.args.budgets c.args.design.now c.args.proof.now c.in_ok-bytes.bytes.items (c.in_ok-bytes.ensures.reads files reply_for) (λ (i : Interlocking). i.design.station) c.in_err-interlocking.field-0.0 c.from_residual-in_err-interlocking.result (search rules) (rw c.as_slice.ensures.value at c.in_err-interlocking.ensures.reads)

pub returns-clause-replies : goal.returns-clause-replies
returns-clause-replies g c = λ files reply_for.
    ended_so files c.args.steps c.args.mode c.args.budgets c.args.design.now c.args.proof.now c.in_ok-bytes.bytes.items (c.in_ok-bytes.ensures.reads files reply_for) c.in_ok-interlocking.interlocking.design c.searched_in.result c.requires.room
    (ap design_in (sym c.as_slice.ensures.value) ∙ c.in_ok-interlocking.ensures.reads) (subst (RepliesBy c.searched_in.result c.in_ok-interlocking.interlocking.design.station c.args.steps c.args.budgets) c.aim_of-aim.ensures c.searched_in.ensures.replies)

pub returns-clause-stored : goal.returns-clause-stored
returns-clause-stored g c = λ files reply_for.
    c.searched_in.ensures.stored files c.args.design.now (c.fetch.ensures.uses.files_stay ∙ reply_for)
    (spelled_so files c.args.steps c.args.mode c.args.budgets c.args.design.now c.args.proof.now c.in_ok-bytes.bytes.items (c.in_ok-bytes.ensures.reads files reply_for) c.in_ok-interlocking.interlocking.design.station (ap design_in (sym c.as_slice.ensures.value) ∙ c.in_ok-interlocking.ensures.reads))

pub returns-clause-uses : goal.returns-clause-uses
returns-clause-uses g c = record { cause = (search rules); never_falls = (search rules); asks = second_of_two _ _ _ _ _ c.in_ok-bytes.ensures.asked c.searched_in.ensures.uses.asks }

pub returns-in_err-bytes-clause-for_some_files : goal.returns-in_err-bytes-clause-for_some_files
returns-in_err-bytes-clause-for_some_files g c = unsearched c.from_residual.result c.args.steps c.args.mode c.args.budgets c.args.design.now c.args.proof.now c.in_err-bytes.field-0.0 (search rules) c.in_err-bytes.ensures.for_some_bytes

pub returns-in_err-interlocking-clause-for_some_files : goal.returns-in_err-interlocking-clause-for_some_files
returns-in_err-interlocking-clause-for_some_files g c =
    unsearched_design c.from_residual-in_err-interlocking.result c.args.steps c.args.mode c.args.budgets c.args.design.now c.args.proof.now c.in_ok-bytes.bytes.items c.in_ok-bytes.ensures.for_some_bytes (λ (i : Interlocking). i.design.station) c.in_err-interlocking.field-0.0 (search rules) (rw c.as_slice.ensures.value at c.in_err-interlocking.ensures.reads)

pub returns-clause-for_some_files : goal.returns-clause-for_some_files
returns-clause-for_some_files g c =
    all_searched c.searched_in.result c.args.steps c.args.mode c.args.budgets c.args.design.now c.args.proof.now c.in_ok-bytes.bytes.items c.in_ok-bytes.ensures.for_some_bytes c.in_ok-interlocking.interlocking.design.station c.requires.room
    (ap design_in (sym c.as_slice.ensures.value) ∙ c.in_ok-interlocking.ensures.reads) (subst (RepliesBy c.searched_in.result c.in_ok-interlocking.interlocking.design.station c.args.steps c.args.budgets) c.aim_of-aim.ensures c.searched_in.ensures.replies)

pub returns-in_err-bytes-clause-tells : goal.returns-in_err-bytes-clause-tells
returns-in_err-bytes-clause-tells g c = λ files reply_for d read. none_of (aim_of c.args.mode) d c.args.steps _

pub returns-in_err-interlocking-clause-tells : goal.returns-in_err-interlocking-clause-tells
returns-in_err-interlocking-clause-tells g c = λ files reply_for d read. none_of (aim_of c.args.mode) d c.args.steps _

pub returns-clause-tells : goal.returns-clause-tells
returns-clause-tells g c = λ files reply_for.
    design_tells (aim_of c.args.mode) (files c.args.design.now) c.in_ok-interlocking.interlocking.design.station c.args.steps _ _
    (spelled_so files c.args.steps c.args.mode c.args.budgets c.args.design.now c.args.proof.now c.in_ok-bytes.bytes.items (c.in_ok-bytes.ensures.reads files reply_for) c.in_ok-interlocking.interlocking.design.station (ap design_in (sym c.as_slice.ensures.value) ∙ c.in_ok-interlocking.ensures.reads))
    (subst (λ (m : Aim). TellsHowFar m c.in_ok-interlocking.interlocking.design.station c.args.steps (g.P.Sink.puts c.args.progress.now) (g.P.Sink.puts c.searched_in.new.progress)) c.aim_of-aim.ensures c.searched_in.ensures.tells)

pub searched_in-requires : goal.searched_in-requires
searched_in-requires g c = record {
  room = c.requires.room;
  named = subst (λ (m : Aim). names_within m.base c.in_ok-interlocking.interlocking.design.station ≡ true) (sym c.aim_of-aim.ensures) (modes_named c.args.mode c.in_ok-interlocking.interlocking.design.station);
}
