use Rattle.std.proofs.Common.{◌≡◌, ℕ, suc, ◌++◌, drop, map}
use Rattle.rail_course.specs.declared.journey.Journey.{Journey}
use Rattle.tick_sim.specs.Running.{IsReachedIn, moved_next, states_in}
use Rattle.tick_sim.proofs.moves.next_states.Given as goal

abbrev pub invariant-loop-journey : goal.invariant-loop-journey
invariant-loop-journey l =
    (k : ℕ) → IsReachedIn l.run k l.states l.histories
    → l.next.items ++ map (λ (j : Journey). moved_next l.run k j.train_path.train) (drop l.journey-index l.journey-items) ≡ states_in l.run (suc k)
