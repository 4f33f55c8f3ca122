use Rattle.std.proofs.Common.{◌≡◌, ◌++◌, flat_map, sym, ap, ◌∙◌, subst}
use Rattle.std.proofs.lemmas.List.{append-nil, drop_all}
use Rattle.rail_course.specs.declared.journey.Release.{Release}
use Rattle.rail_course.specs.Itineraries.{going_in, releases_in, route_releases_in}
use Rattle.rail_course.specs.Milestones.{ComeInTurn}
use Rattle.rail_course.proofs.Granting.{laid_out}
use Rattle.rail_course.proofs.InTurn.{releases_in_turn}
use Rattle.rail_course.proofs.itineraries.Itineraries.releases_of_train.Goals as goal

pub returns-clause-in_turn : goal.returns-clause-in_turn
returns-clause-in_turn c =
    let given = c.args.self.now in
    let interlocking = given.interlocking.now in
    let all : c.loop-number.releases.items ≡ releases_in given c.args.train_path.now.train =
    sym (append-nil c.loop-number.releases.items)
    ∙ ap (λ ns. c.loop-number.releases.items ++ flat_map (route_releases_in given c.args.train_path.now.train) ns) (sym (drop_all c.loop-number.number-index c.deref-number-items.result.now c.loop-number-test.false))
    ∙ c.loop-number.invariant in
    subst (ComeInTurn (λ (r : Release). r.event.place) (λ (r : Release). r.event.granted)) (sym all)
    (releases_in_turn interlocking.design.station interlocking.routes (laid_out interlocking) (going_in given) c.args.train_path.now.train)
