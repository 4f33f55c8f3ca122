use Rattle.std.proofs.Common.{rules}
use Rattle.draw_cli.specs.Words.{wanted_by}
use Rattle.draw_cli.proofs.Answering.{run_replies, track_replies}
use Rattle.draw_cli.proofs.Stopping.{run_stops, track_stops}
use Rattle.draw_cli.proofs.drawn.reply_to.Goals as goal

pub returns-in-Track-clause-replies : goal.returns-in-Track-clause-replies
returns-in-Track-clause-replies g c = track_replies _ (wanted_by c.args.wanted) c.track.result c.in-Track.design.now (search rules) c.track.ensures.replies

pub returns-in-Track-clause-stops : goal.returns-in-Track-clause-stops
returns-in-Track-clause-stops g c = track_stops c.track.result _ _ _ (wanted_by c.args.wanted) c.in-Track.design.now (search rules) c.track.ensures.replies c.track.ensures.uses.asks

pub returns-in-Run-clause-replies : goal.returns-in-Run-clause-replies
returns-in-Run-clause-replies g c = run_replies _ (wanted_by c.args.wanted) c.run.result c.in-Run.design.now c.in-Run.plan.now (search rules) c.run.ensures.replies

pub returns-in-Run-clause-stops : goal.returns-in-Run-clause-stops
returns-in-Run-clause-stops g c = run_stops c.run.result _ _ (wanted_by c.args.wanted) c.in-Run.design.now c.in-Run.plan.now (search rules) c.run.ensures.stops
