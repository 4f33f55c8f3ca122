use Rattle.std.proofs.Common.{◌≡◌, ◌*◌, rules, Ok, ap, refl, sym, subst, ◌∙◌}
use Rattle.rail_base.specs.declared.design.Design.{Design}
use Rattle.rail_base.specs.declared.station.Station.{Station}
use Rattle.interlocking.specs.declared.railway.Interlocking.{Interlocking}
use Rattle.cli_shell.specs.Answers.{with_routes, design_or_answer}
use Rattle.cli_shell.specs.Replies.{ReadsOrEnds}
use Rattle.rail_cli.proofs.Trying.{want_trial, unlisted_so, listed_so}
use Rattle.rail_cli.specs.Answers.{aim_of}
use Rattle.rail_words.specs.declared.request.SearchMode.TheVariants.{Plain}
use Rattle.verify_loop.specs.Telling.{TellsHowFar}
use Rattle.rail_cli.proofs.Telling.{none_of}
use Rattle.workload.specs.Made.{made}
use Rattle.rail_cli.proofs.trial.trial_reply.Goals as goal

pub returns-in_err-design-clause-replies : goal.returns-in_err-design-clause-replies
returns-in_err-design-clause-replies g c = want_trial c.args.seed c.args.size c.from_residual.result (search rules)

pub returns-in_err-interlocking-clause-replies : goal.returns-in_err-interlocking-clause-replies
returns-in_err-interlocking-clause-replies g c =
    unlisted_so c.args.seed c.args.size (λ (i : Interlocking). i.design.station) c.in_ok-design.design.station c.in_err-interlocking.field-0.0 c.from_residual-in_err-interlocking.result c.in_ok-design.ensures (search rules) c.in_err-interlocking.ensures.reads

pub returns-in_err-tried_in-clause-replies : goal.returns-in_err-tried_in-clause-replies
returns-in_err-tried_in-clause-replies g c = want_trial c.args.seed c.args.size c.from_residual-in_err-tried_in.result (search (rules, c.from_residual-in_err-tried_in.ensures))

pub returns-clause-replies : goal.returns-clause-replies
returns-clause-replies g c =
    let made = c.in_ok-interlocking.interlocking in
    let view : Interlocking → Station = λ i. i.design.station in
    let same : made.design.station ≡ c.in_ok-design.design.station = ap (λ (d : Design). d.station) c.in_ok-interlocking.ensures.same in
    listed_so c.args.seed c.args.size view made.design.station made c.in_ok-tried_in.field-0 (same ∙ c.in_ok-design.ensures) refl
    (subst (λ (d : Station). ReadsOrEnds view (Ok made) (design_or_answer (with_routes d))) (sym same) c.in_ok-interlocking.ensures.reads) c.in_ok-tried_in.ensures.replies

pub returns-in_err-design-clause-tells : goal.returns-in_err-design-clause-tells
returns-in_err-design-clause-tells g c = none_of (aim_of Plain) (made c.args.seed c.args.size) (2 * c.args.size) _

pub returns-in_err-interlocking-clause-tells : goal.returns-in_err-interlocking-clause-tells
returns-in_err-interlocking-clause-tells g c = none_of (aim_of Plain) (made c.args.seed c.args.size) (2 * c.args.size) _

pub returns-in_err-tried_in-clause-tells : goal.returns-in_err-tried_in-clause-tells
returns-in_err-tried_in-clause-tells g c =
    let same : c.in_ok-interlocking.interlocking.design.station ≡ made c.args.seed c.args.size = ap (λ (d : Design). d.station) c.in_ok-interlocking.ensures.same ∙ c.in_ok-design.ensures in
    subst (λ (d : Station). TellsHowFar (aim_of Plain) d (2 * c.args.size) (g.P.Sink.puts c.args.progress.now) (g.P.Sink.puts c.tried_in.new.progress)) same c.tried_in.ensures.tells

pub returns-clause-tells : goal.returns-clause-tells
returns-clause-tells g c =
    let same : c.in_ok-interlocking.interlocking.design.station ≡ made c.args.seed c.args.size = ap (λ (d : Design). d.station) c.in_ok-interlocking.ensures.same ∙ c.in_ok-design.ensures in
    subst (λ (d : Station). TellsHowFar (aim_of Plain) d (2 * c.args.size) (g.P.Sink.puts c.args.progress.now) (g.P.Sink.puts c.tried_in.new.progress)) same c.tried_in.ensures.tells
