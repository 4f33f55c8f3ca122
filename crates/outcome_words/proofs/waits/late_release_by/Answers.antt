use Rattle.std.proofs.Common.{find, map, filter, sym, ap, ◌∙◌}
use Rattle.std.specs.Option.{option_or}
use Rattle.rail_base.specs.Routes.{has_section, held_sections, own_sections, route_at}
use Rattle.outcome_words.specs.Waits.{comes_late}
use Rattle.outcome_words.proofs.Releases.{late_in_turn}
use Rattle.outcome_words.proofs.waits.late_release_by.Goals as goal

pub returns-in-Some : goal.returns-in-Some
returns-in-Some c =
    let run = c.args.run.now in
    let routes = run.interlocking.now.routes in
    let e = c.args.first in
    let late = comes_late run.history.now c.args.tick in
    let has = has_section (route_at routes c.args.second.route) in
    let beside = held_sections (route_at routes e.route) in
    sym (late_in_turn late (λ z. (e, z)) has (own_sections (route_at routes e.route)) beside
    ∙ ap (λ o. option_or o (find late (map (λ z. (e, z)) (filter has beside)))) (sym c.late_own_release.ensures ∙ c.in-Some.is))

pub returns-in-None : goal.returns-in-None
returns-in-None c =
    let run = c.args.run.now in
    let routes = run.interlocking.now.routes in
    let e = c.args.first in
    let late = comes_late run.history.now c.args.tick in
    let has = has_section (route_at routes c.args.second.route) in
    let beside = held_sections (route_at routes e.route) in
    sym (late_in_turn late (λ z. (e, z)) has (own_sections (route_at routes e.route)) beside
    ∙ (ap (λ o. option_or o (find late (map (λ z. (e, z)) (filter has beside)))) (sym c.late_own_release.ensures ∙ c.in-None.is)
    ∙ sym c.late_hold_release.ensures))
