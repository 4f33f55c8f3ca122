use Rattle.std.proofs.Common.{◌≡◌, ℕ, ◌*◌, ◌≤◌, List, refl, sym, ap, subst, ◌∙◌, arith}
use Rattle.rail_base.specs.declared.history.Verdict.TheVariants.{Met}
use Rattle.verify_loop.proofs.LessTime as less
use Rattle.verify_loop.proofs.Quickest.{quickest_so, time_so}
use Rattle.verify_loop.proofs.Watched.{taken_told}
use Rattle.verify_loop.proofs.asked.TimeSearch.after_plan.Goals as goal

pub ask_less-requires-clause-takes : goal.ask_less-requires-clause-takes
ask_less-requires-clause-takes c =
    let t = c.args.self.now in
    let a = c.args.asked in
    let r = c.requires in
    let k = r.0.0 in
    c.ticks_between-taken.ensures ∙ taken_told a.interlocking.design.station (less.good t a k) t.numbering.now.steps c.args.plan.steps r.1 c.args.history c.args.tick r.2 t.within k.from_1 k.there

pub least-requires-clause-time : goal.least-requires-clause-time
least-requires-clause-time c =
    let t = c.args.self.now in
    let a = c.args.asked in
    let r = c.requires in
    let k = r.0.0 in
    let takes = taken_told a.interlocking.design.station (less.good t a k) t.numbering.now.steps c.args.plan.steps r.1 c.args.history c.args.tick r.2 t.within k.from_1 k.there in
    time_so t a k c.args.plan r.1 (sym (c.ticks_between-taken.ensures ∙ takes) ∙ c.if-taken-eq0.true) (Met c.args.history c.args.tick) r.2

pub least-requires-clause-least : goal.least-requires-clause-least
least-requires-clause-least c =
    let t = c.args.self.now in
    let a = c.args.asked in
    let r = c.requires in
    let k = r.0.0 in
    let p = r.0.1 in
    let s = c.args.search in
    let takes = taken_told a.interlocking.design.station (less.good t a k) t.numbering.now.steps c.args.plan.steps r.1 c.args.history c.args.tick r.2 t.within k.from_1 k.there in
    (refl, quickest_so t a k p.0 p.1 p.2 s c.args.plan.steps p.3 r.1 c.args.tick r.3 r.4 (sym (c.ticks_between-taken.ensures ∙ takes) ∙ c.if-taken-eq0.true))
