use Rattle.std.proofs.Common.{◌≤◌, ◌<◌, ◌⊎◌, inl, inr, ap, subst, arith}
use Rattle.std.proofs.lemmas.List.{get_or_default}
use Rattle.rail_base.proofs.Contained.{contains_of_in}
use Rattle.rail_base.proofs.Members.{below_or_not}
use Rattle.rail_course.specs.declared.milestones.Milestone.{Milestone}
use Rattle.dispatch_run.proofs.places.next_place.Goals as goal

pub returns-then-count-milestones-clause-least : goal.returns-then-count-milestones-clause-least
returns-then-count-milestones-clause-least c = λ m i.
    let at = contains_of_in c.args.milestones.now m i in
    let less = at.1 in
    let all = c.if-count-milestones.true in
    let behind = c.count_reached-count.ensures.behind at.0 m (omega arith) (omega arith) in
    inl (subst (λ (n : Milestone). n.place ≤ c.args.x) at.2 behind)

pub returns-clause-least : goal.returns-clause-least
returns-clause-least c = λ m i.
    let ms = c.args.milestones.now in
    let at = contains_of_in ms m i in
    let go : (at.0 < c.count_reached-count.result) ⊎ (c.count_reached-count.result ≤ at.0) → (m.place ≤ c.args.x) ⊎ (c.min.result ≤ m.place) = λ h. elim h [
      | inl less ↦ inl (subst (λ (n : Milestone). n.place ≤ c.args.x) at.2 (c.count_reached-count.ensures.behind at.0 m (omega arith) less))
      | inr past ↦
          let rises = c.requires.rising c.count_reached-count.result at.0 m past at.1 in
          let is = c.min.ensures in
          let same = ap (λ (n : Milestone). n.place) (get_or_default ms c.count_reached-count.result m (record { place = 0; index = 0 }) (let l = at.1 in omega arith)) in
          inr (subst (λ (n : Milestone). c.min.result ≤ n.place) at.2 (omega arith))
    ] in
    go (below_or_not at.0 c.count_reached-count.result)
