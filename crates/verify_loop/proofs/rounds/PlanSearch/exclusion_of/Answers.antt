use Rattle.std.proofs.Common.{◌≡◌, ℕ, sym, subst}
use Rattle.interlocking.specs.declared.railway.Interlocking.{Interlocking}
use Rattle.live_clause_spec.specs.Variables.{live_commands}
use Rattle.plan_encoding.specs.Bases.{speaks_of}
use Rattle.plan_exclusion.specs.Failures.{AreValuesOfPlan, FailsSo}
use Rattle.rail_base.proofs.Admitting.{admitted}
use Rattle.rail_spec.specs.Feasible.{IsRunnable}
use Rattle.rail_spec.specs.Track.{routes_of}
use Rattle.slice_spec.specs.Holders.{GivesEach}
use Rattle.verify_loop.proofs.Each.{each_given}
use Rattle.verify_loop.proofs.Spoken.{spoken}
use Rattle.verify_loop.proofs.rounds.PlanSearch.exclusion_of.Goals as goal

pub invariant_of-failed : goal.invariant_of-failed
invariant_of-failed c =
    let q = c.args.self.now in
    let m = q.aim in
    let j = q.interlocking.now in
    let d = j.design.station in
    let n = q.numbering.now.steps in
    let plan = c.args.plan.now.steps in
    let count = c.steps.result.count in
    let commands = c.contention.result.pairs.now.commands in
    let found = c.requires.found in
    let same : j ≡ c.contention.result.interlocking.now = sym c.contention.ensures.interlocking in record {
      runs = subst (λ (z : Interlocking). IsRunnable z.design.station (routes_of z.design.station) count plan) same (subst (λ (k : ℕ). IsRunnable d (routes_of d) k plan) (sym c.steps.ensures) found.1.runnable);
      each = subst (λ (z : Interlocking). GivesEach z.design.station plan) same (each_given m.base d n (admitted d j.design.admitted) q.at_least_one found.0 plan found.1);
      fails = subst (λ (z : Interlocking). FailsSo z.design.station plan c.args.history.now c.args.tick c.args.violation) same c.requires.fails;
      decoded = subst (λ (z : Interlocking). AreValuesOfPlan m.base z.design.station count c.args.values.now plan) same (subst (λ (k : ℕ). AreValuesOfPlan m.base d k c.args.values.now plan) (sym c.steps.ensures) c.requires.are_values);
      speaks = subst (λ (z : Interlocking). commands ≡ live_commands (speaks_of m.base z.design.station z.routes) z.design.station z.routes) same (spoken m.base j q.numbering.now q.numbers j.table commands c.contention.ensures.commands);
    }
