use Rattle.std.proofs.Common.{refl, arith}
use Rattle.verify_loop.proofs.Fewer.{none_below_more}
use Rattle.verify_loop.proofs.rounds.PlanSearch.longer.Goals as goal

pub returns : goal.returns
returns c =
    let d = c.args.self.now.interlocking.now.design.station in
    let r = c.requires.state in
    let s = r.3 in
    let less = c.requires.less in (
      (
        r.0,
        r.1,
        r.2,
        record {
          lines = s.lines;
          rs = s.rs;
          clauses = s.clauses;
          numbers = s.numbers;
          log = s.log;
          limit = s.limit;
          same_vars = s.same_vars;
          below_2_32 = s.below_2_32;
          below = s.below;
          derived = s.derived;
          learnt = s.learnt;
          plans = s.plans;
          cost = s.cost;
          left = s.left;
          at_least_one = omega arith;
          at_most_n = omega (arith, less);
          fewer = none_below_more c.args.self.now.aim.wanted d c.args.search.steps _ refl s.fewer c.requires.known;
        },
      ),
      omega arith,
    )
