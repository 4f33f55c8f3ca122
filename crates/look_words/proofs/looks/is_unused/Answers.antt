use Rattle.std.proofs.Common.{◌≡◌, not, ◌&&◌, true, List, ap, sym, ◌∙◌}
use Rattle.std.specs.List.{list_any}
use Rattle.rail_base.specs.declared.station.Train.{Train}
use Rattle.rail_base.specs.Stations.{node_of}
use Rattle.rail_spec.specs.Plans.{has_node}
use Rattle.look_words.specs.Looks.{is_used}
use Rattle.look_words.proofs.looks.is_unused.Goals as goal

pub returns-then-is_boundary : goal.returns-then-is_boundary
returns-then-is_boundary c =
    let d = c.args.design.now.station in
    let n = c.args.node in
    let boundary : (node_of d n).boundary ≡ true = sym c.is_boundary.ensures ∙ c.if-is_boundary.true in
    let used : c.is_used.result ≡ is_used d n =
    c.is_used.ensures ∙ ap (λ (ts : List Train). list_any (λ (t : Train). list_any (λ set. has_node set n) t.visits) ts) c.as_slice.ensures in
    ap not used ∙ sym (ap (λ b. b && not (is_used d n)) boundary)
