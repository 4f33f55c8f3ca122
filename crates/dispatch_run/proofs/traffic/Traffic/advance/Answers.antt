use Rattle.std.proofs.Common.{◌≡◌, ◌≤◌, map, ap₂, sym, subst, ◌∙◌, arith}
use Rattle.rail_base.specs.Members.{In}
use Rattle.rail_base.specs.Stations.{trains}
use Rattle.dispatch_run.specs.Looks.{IsKnown, has_looked_visit_at}
use Rattle.dispatch_run.specs.Turns.{IsTurn, looked_state, AreLookedAt, AreToBeMarked}
use Rattle.dispatch_run.proofs.Turning.{looks_ahead, turn_of, nothing_before, all_looked, all_told}
use Rattle.dispatch_run.proofs.Visiting.{only_looked}
use Rattle.dispatch_run.proofs.traffic.Traffic.advance.Goals as goal

pub next_tick-tick-requires-clause-looks : goal.next_tick-tick-requires-clause-looks
next_tick-tick-requires-clause-looks g c =
    let d = c.args.self.now.interlocking.now.design.station in
    let routes = c.args.self.now.interlocking.now.routes in
    λ l m. looks_ahead d routes g.dispatch c.args.progress.tick c.args.progress.states.items c.args.progress.looks.items c.requires.1.0.known l (subst (In l) c.as_slice.ensures.value m)

pub next_states-requires : goal.next_states-requires
next_states-requires g c =
    let d = c.args.self.now.interlocking.now.design.station in
    let routes = c.args.self.now.interlocking.now.routes in
    let old = c.args.progress in
    let progress = c.requires.1.0 in
    let tick = c.next_tick-tick.result in
    let found = c.next_tick-tick.ensures in
    let early : tick ≤ 86400 = (let w = found.within in let m = c.requires.1.1.1 in omega arith) in
    let turn = turn_of d routes g.dispatch old.tick tick old.states.items old.histories.items old.looks.items progress.known progress.recorded found.after early (λ l m. found.least l (subst (In l) (sym c.as_slice.ensures.value) m)) in (
      c.requires.0,
      subst (λ s. IsTurn d routes g.dispatch tick s c.as_slice-3.result.now c.as_slice-4.result.now) (sym c.as_slice-2.ensures.value)
          (subst (λ h. IsTurn d routes g.dispatch tick old.states.items h c.as_slice-4.result.now) (sym c.as_slice-3.ensures.value)
          (subst (λ l. IsTurn d routes g.dispatch tick old.states.items old.histories.items l) (sym c.as_slice-4.ensures.value) turn)),
    )

pub next_histories-requires : goal.next_histories-requires
next_histories-requires g c =
    let d = c.args.self.now.interlocking.now.design.station in
    let routes = c.args.self.now.interlocking.now.routes in
    let old = c.args.progress in
    let progress = c.requires.1.0 in
    let tick = c.next_tick-tick.result in
    let found = c.next_tick-tick.ensures in
    let early : tick ≤ 86400 = (let w = found.within in let m = c.requires.1.1.1 in omega arith) in
    let turn = turn_of d routes g.dispatch old.tick tick old.states.items old.histories.items old.looks.items progress.known progress.recorded found.after early (λ l m. found.least l (subst (In l) (sym c.as_slice.ensures.value) m)) in
    let states : c.in_ok-states.states.items ≡ map (looked_state d routes g.dispatch tick old.states.items old.looks.items) (trains d) =
    c.in_ok-states.ensures ∙ ap₂ (λ s l. map (looked_state d routes g.dispatch tick s l) (trains d)) c.as_slice-2.ensures.value c.as_slice-4.ensures.value in (
      c.requires.0,
      subst (λ s. AreToBeMarked d routes g.dispatch tick s c.as_slice-6.result.now old.histories.items) (sym c.as_slice-5.ensures.value)
          (subst (λ l. AreToBeMarked d routes g.dispatch tick c.in_ok-states.states.items l old.histories.items) (sym c.as_slice-6.ensures.value)
          (all_told d routes g.dispatch tick old.states.items old.histories.items old.looks.items turn c.in_ok-states.states.items states)),
    )

pub next_looks-requires : goal.next_looks-requires
next_looks-requires g c =
    let d = c.args.self.now.interlocking.now.design.station in
    let routes = c.args.self.now.interlocking.now.routes in
    let old = c.args.progress in
    let progress = c.requires.1.0 in
    let tick = c.next_tick-tick.result in
    let found = c.next_tick-tick.ensures in
    let early : tick ≤ 86400 = (let w = found.within in let m = c.requires.1.1.1 in omega arith) in
    let turn = turn_of d routes g.dispatch old.tick tick old.states.items old.histories.items old.looks.items progress.known progress.recorded found.after early (λ l m. found.least l (subst (In l) (sym c.as_slice.ensures.value) m)) in
    let states : c.in_ok-states.states.items ≡ map (looked_state d routes g.dispatch tick old.states.items old.looks.items) (trains d) =
    c.in_ok-states.ensures ∙ ap₂ (λ s l. map (looked_state d routes g.dispatch tick s l) (trains d)) c.as_slice-2.ensures.value c.as_slice-4.ensures.value in (
      c.requires.0,
      (
        subst (λ s. AreLookedAt d routes g.dispatch tick s c.as_slice-11.result.now) (sym c.as_slice-9.ensures.value)
            (subst (λ l. AreLookedAt d routes g.dispatch tick c.in_ok-states.states.items l) (sym c.as_slice-11.ensures.value)
            (all_looked d routes g.dispatch tick old.states.items old.histories.items old.looks.items turn c.in_ok-states.states.items states)),
        c.as_slice-10.ensures.value ∙ c.in_ok-histories.ensures,
      ),
    )

pub returns-clause-is : goal.returns-clause-is
returns-clause-is g c =
    let d = c.args.self.now.interlocking.now.design.station in
    let routes = c.args.self.now.interlocking.now.routes in
    let old = c.args.progress in
    let progress = c.requires.1.0 in
    let tick = c.next_tick-tick.result in
    let found = c.next_tick-tick.ensures in
    let new = c.in_ok-histories.histories.items in
    let early : tick ≤ 86400 = (let w = found.within in let m = c.requires.1.1.1 in omega arith) in
    let turn = turn_of d routes g.dispatch old.tick tick old.states.items old.histories.items old.looks.items progress.known progress.recorded found.after early (λ l m. found.least l (subst (In l) (sym c.as_slice.ensures.value) m)) in
    let states : c.in_ok-states.states.items ≡ map (looked_state d routes g.dispatch tick old.states.items old.looks.items) (trains d) =
    c.in_ok-states.ensures ∙ ap₂ (λ s l. map (looked_state d routes g.dispatch tick s l) (trains d)) c.as_slice-2.ensures.value c.as_slice-4.ensures.value in
    let told = all_told d routes g.dispatch tick old.states.items old.histories.items old.looks.items turn c.in_ok-states.states.items states in
    record {
      known = subst (λ s. IsKnown d routes g.dispatch tick s c.in_ok-looks.looks.items) c.as_slice-9.ensures.value c.in_ok-looks.ensures;
      recorded = c.in_ok-histories.ensures;
      visited = c.has_looked_visit_at-visited.ensures ∙ ap₂ (has_looked_visit_at tick) c.as_slice-7.ensures.value c.as_slice-8.ensures.value
          ∙ only_looked d routes g.dispatch old.tick tick c.in_ok-states.states.items old.looks.items old.histories.items new found.after progress.known.count progress.recorded c.in_ok-histories.ensures told;
    }

pub returns-clause-quiet : goal.returns-clause-quiet
returns-clause-quiet g c =
    let d = c.args.self.now.interlocking.now.design.station in
    let routes = c.args.self.now.interlocking.now.routes in
    let old = c.args.progress in
    let progress = c.requires.1.0 in
    let tick = c.next_tick-tick.result in
    let found = c.next_tick-tick.ensures in
    λ k low high. nothing_before d routes g.dispatch old.tick tick old.states.items old.looks.items progress.known found.after found.at_0 (λ l m. found.least l (subst (In l) (sym c.as_slice.ensures.value) m)) k low high ∙ sym progress.recorded
