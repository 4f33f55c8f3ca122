use Rattle.verify_loop.specs.Asking.{quest}
use Rattle.verify_loop.specs.Outcomes.{known_after}
use Rattle.verify_loop.proofs.rounds.PlanSearch.after_failure.Goals as goal

pub exclusion_of-requires-clause-found : goal.exclusion_of-requires-clause-found
exclusion_of-requires-clause-found c =
    let q = c.args.self.now in
    let r = c.requires.at in
    (known_after (quest q r.0 r.1) q.interlocking.now.design.station q.numbering.now.steps r.3.search.rs, r.3.found)
