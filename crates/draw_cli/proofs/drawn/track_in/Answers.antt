use Rattle.std.proofs.Common.{rules, Ok}
use Rattle.interlocking.specs.declared.railway.Interlocking.{Interlocking}
use Rattle.cli_shell.specs.declared.reply.Reply.{Reply}
use Rattle.cli_shell.specs.Answers.{design_in}
use Rattle.cli_shell.specs.Replies.{reply_seen}
use Rattle.draw_cli.specs.Answers.{IsTrackDrawing, TrackAnswers}
use Rattle.draw_cli.proofs.Answering.{read_so, refused_so, wanting}
use Rattle.draw_cli.proofs.drawn.track_in.Goals as goal

pub returns-in_err-interlocking-clause-replies : goal.returns-in_err-interlocking-clause-replies
returns-in_err-interlocking-clause-replies c =
    refused_so c.from_residual.result (λ (i : Interlocking). i.design.station) c.in_err-interlocking.field-0.0 (design_in c.args.text.now) IsTrackDrawing (search rules) c.in_err-interlocking.ensures.reads

pub returns-in_err-track_drawn-clause-replies : goal.returns-in_err-track_drawn-clause-replies
returns-in_err-track_drawn-clause-replies c = wanting c.from_residual-in_err-track_drawn.result (λ (reply : Reply). TrackAnswers c.args.text.now (reply_seen reply)) (search rules)

pub returns-clause-replies : goal.returns-clause-replies
returns-clause-replies c =
    read_so (Ok c.in_ok-track_drawn.field-0) (design_in c.args.text.now) c.in_ok-interlocking.interlocking.design.station IsTrackDrawing c.in_ok-interlocking.ensures.reads c.in_ok-track_drawn.ensures
