use Rattle.std.proofs.Common.{◌≡◌, ◌+◌, ◌-◌, ◌++◌, List, length, sym, ap, ap₂, subst, ◌∙◌, arith}
use Rattle.rail_base.specs.declared.station.Station.{Station}
use Rattle.rail_spec.specs.Track.{Walk}
use Rattle.rail_routes.specs.Pending.{at_level, over, of_step, station_of, to_come, GoesOn, IsLonger}
use Rattle.rail_routes.specs.declared.path.Path.{Path}
use Rattle.rail_routes.specs.declared.search.Step.{Step}
use Rattle.rail_routes.specs.declared.search.Step.TheVariants as step
use Rattle.rail_routes.proofs.Searching.{few, level_walks, station_same}
use Rattle.rail_routes.proofs.search.Search.close.Goals as goal

pub loop-edge-smaller : goal.loop-edge-smaller
loop-edge-smaller c =
    let old = c.loop-edge.self in
    let taken = c.take_edge.new.self in
    let new = c.follow.new.self in
    let longer : length new.path.edges.items ≡ length taken.path.edges.items + 1 = subst (IsLonger taken.path.edges.items new.path.edges.items) c.in-On.is c.in_ok-closed.ensures.longer in
    let same = ap (λ (p : Path). length p.edges.items) c.in_ok-edge.ensures.path in
    let many = ap (λ (d : Station). length d.edges) (station_same new old (c.in_ok-closed.ensures.track ∙ c.in_ok-edge.ensures.track)) in
    let most = few (station_of new) new.path new.marks in
    omega arith

pub loop-edge-preserved : goal.loop-edge-preserved
loop-edge-preserved c =
    let old = c.loop-edge.self in
    let taken = c.take_edge.new.self in
    let new = c.follow.new.self in
    let d = station_of new in
    let on = subst (λ d. GoesOn d (step.On c.in-On.end)) (sym (station_same new taken c.in_ok-closed.ensures.track)) (subst (GoesOn (station_of taken)) c.in-On.is c.in_ok-closed.ensures.goes_on) in
    let here = c.len.ensures in
    let most = few d new.path new.marks in
    let rest = to_come new in
    let from = c.loop-edge.level.from in
    let e = c.in_ok-edge.edge in
    record {
      track = c.in_ok-closed.ensures.track ∙ c.in_ok-edge.ensures.track ∙ c.loop-edge.invariant.track;
      innermost = (here, record { on_path = omega arith; node = on.0; has_next = on.1 });
      same =
          ap (λ n. at_level d new.path.edges.items (record { after = n; from = c.in-On.end; tried = 0 }) ++ rest) here
          ∙ ap (λ (cs : List Walk). cs ++ rest) (level_walks d new.path.edges.items c.in-On.end most)
          ∙ ap (λ (s : Step). of_step d new.path.edges.items s ++ rest) (sym c.in-On.is)
          ∙ c.in_ok-closed.ensures.same
          ∙ ap₂ (λ (d : Station) (p : Path). over d (length d.edges - length p.edges.items) p.edges.items from e ++ to_come taken) (station_same taken old c.in_ok-edge.ensures.track) c.in_ok-edge.ensures.path
          ∙ c.in_ok-edge.ensures.same
          ∙ c.loop-edge.invariant.same;
    }
