use Rattle.std.proofs.Common.{◌≡◌, ◌+◌, ◌-◌, ◌∷◌, ◌++◌, drop, take, length, ap, sym, ◌∙◌}
use Rattle.std.proofs.lemmas.List.{drop_more}
use Rattle.rail_course.proofs.Walking.{visits_step}
use Rattle.rail_course.proofs.path_nodes.visits_of.Goals as goal
use Rattle.rail_spec.specs.Places.{visits_at}

pub loop-nodes-preserved : goal.loop-nodes-preserved
loop-nodes-preserved c =
    let later = take (length c.args.visits.now - 1) (drop 1 c.args.visits.now) in
    let rest = drop (c.loop-nodes.nodes-index + 1) later in
    let cut : drop c.loop-nodes.nodes-index later ≡ c.nodes-item.result ∷ rest = drop_more later c.loop-nodes.nodes-index c.nodes-item.result c.loop-nodes-test.true ∙ ap (λ x. x ∷ rest) (sym c.nodes-item.is) in
    visits_step c.loop-nodes.made.items c.push-in-loop-nodes.new.self.items _ c.nodes-item.result rest c.loop-nodes.left.now c.after_first-left-in-loop-nodes.result.now c.from_first-here.result.now c.first_of-in-loop-nodes.result
    c.from_first-here.ensures c.first_of-in-loop-nodes.ensures c.after_first-left-in-loop-nodes.ensures c.in_ok-push-2.ensures.items
    (ap (λ ns. c.loop-nodes.made.items ++ visits_at ns c.loop-nodes.left.now) (sym cut) ∙ c.loop-nodes.invariant)
