use Rattle.rail_base.proofs.Admitting.{admitted}
use Rattle.verify_loop.specs.Tightening.{base_for}
use Rattle.rail_cli.proofs.TimeFinding.{timed_reply}
use Rattle.rail_cli.proofs.least.timed_in.Goals as goal

pub returns-clause-replies : goal.returns-clause-replies
returns-clause-replies g c = (
  c.tightest-found.result,
  c.tightest-found.ensures.says,
  c.tightest-found.ensures.fits,
  timed_reply c.args.bounds c.args.interlocking.design.station c.args.within c.requires.from_1 c.requires.there c.args.steps.count c.args.budgets c.settle.result c.tightest-found.result (c.tightest-found.ensures.says, c.tightest-found.ensures.fits) c.settle.ensures.replies,
)

pub returns-clause-stored : goal.returns-clause-stored
returns-clause-stored g c = λ files name reply_for parsed.
    c.settle.ensures.stored files name c.args.interlocking.design.station reply_for parsed (admitted c.args.interlocking.design.station c.args.interlocking.design.admitted) c.requires.there (c.args.bounds, c.tightest-found.ensures.says)

pub settle-requires : goal.settle-requires
settle-requires g c = record {
  from_1 = c.requires.from_1;
  says = (base_for c.args.bounds c.args.within, c.args.interlocking.design.station, c.requires.there, c.tightest-found.ensures.says);
  room = c.requires.room;
}
