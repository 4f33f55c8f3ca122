use Rattle.std.proofs.Common.{◌≡◌, true, List, [], ◌∷◌, ◌++◌, ◌==◌, cond, sym, ap, ◌∙◌}
use Rattle.std.specs.List.{list_any}
use Rattle.rail_base.specs.declared.station.SignalNo.{SignalNo}
use Rattle.rail_base.specs.declared.route.Start.TheVariants as start
use Rattle.train_ways.specs.Reached.{with_start}
use Rattle.train_ways.proofs.reached.add_start.Goals as goal

there_already : (signals slice : List SignalNo) (s : SignalNo) → slice ≡ signals → true ≡ list_any (λ q. q.0 == s.0) slice → signals ≡ with_start signals (start.Signal s)
there_already signals slice s same h =
    let e : list_any (λ q. q.0 == s.0) signals ≡ true = sym (ap (list_any (λ (q : SignalNo). q.0 == s.0)) same) ∙ sym h in
    sym (ap (λ b. cond b signals (signals ++ s ∷ [])) e)

pub returns-else-not-has_signal : goal.returns-else-not-has_signal
returns-else-not-has_signal c = there_already c.args.signals.now.items c.deref.result.now c.in-Signal.signal c.deref.ensures.value c.if-not-has_signal.ensures ∙ ap (with_start c.args.signals.now.items) (sym c.in-Signal.is)
