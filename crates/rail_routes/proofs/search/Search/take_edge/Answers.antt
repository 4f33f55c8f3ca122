use Rattle.std.proofs.Common.{◌≡◌, ◌≤◌, ◌<◌, ◌+◌, ◌++◌, [], ◌∷◌, length, get_or, ap, ◌∙◌, arith, rules}
use Rattle.rail_base.specs.declared.station.EdgeNo.{EdgeNo}
use Rattle.rail_base.specs.Stations.{leave}
use Rattle.rail_routes.specs.Pending.{going_over, pending}
use Rattle.std.specs.Result.{is_ok}
use Rattle.rail_routes.specs.declared.track.AtEnd.{AtEnd}
use Rattle.rail_routes.specs.declared.search.Search.{Search}
use Rattle.rail_routes.proofs.Searching.{at_leave, levels_of, levels_pushed, station_same, some-place, taken_some, taken_last}
use Rattle.rail_routes.proofs.search.Search.take_edge.Goals as goal
use Rattle.rail_routes.proofs.search.Search.take_edge.Goals.{then-tried-edges+in_ok-push, else-tried-edges}

pub returns-clause-edge : goal.returns-clause-edge
returns-clause-edge c =
    let d = c.args.self.now.track.now.design.now.station in
    let level = c.args.level in
    let none : EdgeNo = record { 0 = 0 } in
    let edges : c.as_slice-edges.result.now ≡ leave d level.from = c.as_slice-edges.ensures ∙ ap (λ (a : AtEnd). a.edges) c.at.ensures in
    let e = get_or c.as_slice-edges.result.now level.tried none in
    at_leave d level.from level.tried e c.requires.1.has_next (ap (λ es. get_or es level.tried none) edges ∙ some-place (leave d level.from) level.tried none e c.requires.1.has_next)

pub returns-clause-same : goal.returns-clause-same
returns-clause-same c =
    let d = c.args.self.now.track.now.design.now.station in
    let s = c.args.self.now in
    let t = c.if-tried-edges.self in
    let level = c.args.level in
    let none : EdgeNo = record { 0 = 0 } in
    let edges : c.as_slice-edges.result.now ≡ leave d level.from = c.as_slice-edges.ensures ∙ ap (λ (a : AtEnd). a.edges) c.at.ensures in
    let many = ap length edges in
    let e = get_or c.as_slice-edges.result.now level.tried none in
    let is = ap (λ es. get_or es level.tried none) edges ∙ some-place (leave d level.from) level.tried none e c.requires.1.has_next in
    elim c.if-tried-edges.branch [
      | then-tried-edges+in_ok-push w ↦
          let pushed : w.push.new.self.items ≡ s.levels.items ++ record level { tried = level.tried + 1 } ∷ [] = search rules in
          ap (λ k. going_over s level.from e ++ pending k t.path.edges.items t.levels.items) (station_same t s (ap (λ (q : Search). q.track) w.self-is))
          ∙ taken_some d s.path t.path s.levels.items t.levels.items level e (ap (λ (q : Search). q.path) w.self-is) (ap (λ (q : Search). q.levels.items) w.self-is ∙ pushed) c.requires.0 c.requires.1.has_next is
      | else-tried-edges w ↦
          let last : length (leave d level.from) ≤ level.tried + 1 = omega arith in
          ap (λ k. going_over s level.from e ++ pending k t.path.edges.items t.levels.items) (station_same t s (ap (λ (q : Search). q.track) w.self-is))
          ∙ taken_last d s.path t.path s.levels.items t.levels.items level e (ap (λ (q : Search). q.path) w.self-is) (ap (λ (q : Search). q.levels.items) w.self-is) c.requires.0 c.requires.1.has_next last is
    ]

pub invariant_of-self : goal.invariant_of-self
invariant_of-self c =
    let s = c.args.self.now in
    let d = s.track.now.design.now.station in
    let level = c.args.level in
    let n = length s.path.edges.items in
    let edges : c.as_slice-edges.result.now ≡ leave d level.from = c.as_slice-edges.ensures ∙ ap (λ (a : AtEnd). a.edges) c.at.ensures in
    let many = ap length edges in
    let test = c.if-tried-edges.true in
    let more : level.tried + 1 < length (leave d level.from) = omega arith in
    let open_ = c.requires.1 in
    let levels = levels_pushed d n (is_ok c.push.result) s.levels.items c.push.new.self.items (record level { tried = level.tried + 1 }) (levels_of s) c.push.ensures.items c.requires.0 (record { on_path = open_.on_path; node = open_.node; has_next = more }) in
    record { marks = s.marks; tried = levels.tried; nested = levels.nested }
