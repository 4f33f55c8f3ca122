use Rattle.std.proofs.Common.{◌≡◌, ℕ, List, [], ◌∷◌, ◌++◌, Option, subst, sym, ap, ◌∙◌}
use Rattle.rail_base.specs.declared.history.Verdict.{Verdict}
use Rattle.verify_loop.specs.declared.outcome.Tried.{Tried}
use Rattle.verify_loop.specs.Lessening.{ShowsLast}
use Rattle.verify_loop.proofs.LessTime as less
use Rattle.verify_loop.proofs.asked.TimeSearch.after_denial.Goals as goal

pub returns-in_default : goal.returns-in_default
returns-in_default c =
    let t = c.args.self.now in
    let a = c.args.asked in
    let r = c.requires.1 in
    let empty : a.tried.items ≡ [] = subst (λ (o : Option Verdict). ShowsLast t a o a.tried.items) c.in_default.is r.0.shown in
    let both = less.nothing_tried t a r.0 r.1.0 r.1.1 r.1.2 r.1.3.0 c.args.log.items r.1.3.1 r.1.3.2 empty in
    (both.0, both.1, r.1.3.2)

pub least-requires-clause-by_horizon : goal.least-requires-clause-by_horizon
least-requires-clause-by_horizon c =
    let t = c.args.self.now in
    let a = c.args.asked in
    let r = c.requires.1 in
    let shows = subst (λ (o : Option Verdict). ShowsLast t a o a.tried.items) c.in-Some.is r.0.shown in
    (less.something_tried t a r.0 r.1.0 r.1.1 r.1.2 r.1.3.0 c.args.log.items r.1.3.1 r.1.3.2 c.pop.new.self.items c.in-Some-pop.last c.in-Some-pop.ensures.items c.in-Some.verdict shows).0

pub least-requires-clause-time : goal.least-requires-clause-time
least-requires-clause-time c =
    let t = c.args.self.now in
    let a = c.args.asked in
    let r = c.requires.1 in
    let shows = subst (λ (o : Option Verdict). ShowsLast t a o a.tried.items) c.in-Some.is r.0.shown in
    (less.something_tried t a r.0 r.1.0 r.1.1 r.1.2 r.1.3.0 c.args.log.items r.1.3.1 r.1.3.2 c.pop.new.self.items c.in-Some-pop.last c.in-Some-pop.ensures.items c.in-Some.verdict shows).1

pub least-requires-clause-least : goal.least-requires-clause-least
least-requires-clause-least c =
    let t = c.args.self.now in
    let a = c.args.asked in
    let r = c.requires.1 in
    let shows = subst (λ (o : Option Verdict). ShowsLast t a o a.tried.items) c.in-Some.is r.0.shown in
    (less.something_tried t a r.0 r.1.0 r.1.1 r.1.2 r.1.3.0 c.args.log.items r.1.3.1 r.1.3.2 c.pop.new.self.items c.in-Some-pop.last c.in-Some-pop.ensures.items c.in-Some.verdict shows).2
