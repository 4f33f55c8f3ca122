use Rattle.std.proofs.Common.{◌≡◌, ◌+◌, ◌-◌, All, is_none, None, ◌∙◌, ap, sym, subst, true, filter, nat_abs, nat_lt, le_refl}
use Rattle.std.proofs.lemmas.List.Elements.{filter_passes}
use Rattle.rail_spec.specs.Motion.{can_brake}
use Rattle.rail_motion.specs.Track.{stretches_of}
use Rattle.rail_motion.proofs.Rising.{can_brake_is, can_brake_past}
use Rattle.rail_motion.proofs.Obstructing.{off_limits, stops_late, past_authority, stops_past, some_is}
use Rattle.rail_motion.proofs.obstacles.first_obstacle.Goals as goal

pub first_slower-requires-clause-past : goal.first_slower-requires-clause-past
first_slower-requires-clause-past c =
    subst (All (λ s. nat_lt (c.args.place - c.args.tail) (nat_abs s.end) ≡ true)) (sym (c.spans_past.ensures.past ∙ ap (λ y. filter (λ s. nat_lt y (nat_abs s.end)) c.args.spans.now) c.saturating_sub.ensures))
    (filter_passes (λ s. nat_lt (c.args.place - c.args.tail) (nat_abs s.end)) c.args.spans.now)

pub returns-in-Some-clause-none : goal.returns-in-Some-clause-none
returns-in-Some-clause-none c =
    sym (stops_late c.args.speed c.args.brake c.args.tail c.args.place _ c.args.end
    (rw (sym c.braking_distance.ensures.distance) (sym c.past_end.ensures.none ∙ ap is_none c.in-Some.is)))

pub returns-in-Some-clause-some : goal.returns-in-Some-clause-some
returns-in-Some-clause-some c =
    let past = c.past_end.ensures.some c.in-Some.obstacle c.in-Some.is in
    let before = past.3 in
    some_is _ _ (record {
      forbidden = λ moves. stops_past c.args.speed c.args.brake c.args.place c.in-Some.obstacle c.requires.brake moves past.2
          (past.1 ∙ ap (λ d. c.args.place + c.args.speed + d) c.braking_distance.ensures.distance) (rw past.1 before);
      obstructs = λ w h. past_authority w c.args.brake c.args.tail c.args.place _ c.args.end c.in-Some.obstacle past.0 h;
    })

pub returns-in-None-clause-none : goal.returns-in-None-clause-none
returns-in-None-clause-none c =
    sym (can_brake_is c.args.speed c.args.brake c.args.tail c.args.spans.now _ c.args.end c.args.place c.args.speed _ true _ c.requires.brake (le_refl _)
    (c.spans_past.ensures.past ∙ ap (λ y. filter (λ s. nat_lt y (nat_abs s.end)) c.args.spans.now) c.saturating_sub.ensures) c.braking_distance.ensures.distance
    (sym (ap is_none c.in-None.is) ∙ c.past_end.ensures.none) c.first_slower.ensures.none)

pub returns-in-None-clause-some : goal.returns-in-None-clause-some
returns-in-None-clause-some c = λ o is.
    let found = c.first_slower.ensures.some o is in
    record {
      forbidden = found.forbidden;
      obstructs = λ w h. off_limits w c.args.brake c.args.tail c.args.place _ c.args.end
          (sym (can_brake_past w c.args.brake c.args.tail c.args.spans.now c.args.place w c.requires.brake (le_refl _))
          ∙ sym (ap (λ ss. can_brake w c.args.brake c.args.tail (stretches_of ss) None c.args.place w) (c.spans_past.ensures.past ∙ ap (λ y. filter (λ s. nat_lt y (nat_abs s.end)) c.args.spans.now) c.saturating_sub.ensures)) ∙ found.obstructs w h);
    }
