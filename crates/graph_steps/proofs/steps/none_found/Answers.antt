use Rattle.std.proofs.Common.{◌≡◌, ℕ, List, [], ◌∷◌, ◌++◌, Option, None, replicate, ap, subst, ◌∙◌, arith}
use Rattle.std.proofs.lemmas.List.{replicate-append-replicate}
use Rattle.graph_steps.proofs.steps.none_found.Goals as goal

pub loop-node-init : goal.loop-node-init
loop-node-init c = c.new-found.ensures.items

pub loop-node-preserved : goal.loop-node-preserved
loop-node-preserved c = c.in_ok-push.ensures.items ∙ ap (λ (ls : List (Option ℕ)). ls ++ None ∷ []) c.loop-node.invariant ∙ replicate-append-replicate c.loop-node._node 1 None

pub returns : goal.returns
returns c = let e : c.loop-node._node ≡ c.args.count = omega arith in subst (λ n. c.loop-node.found.items ≡ replicate n None) e c.loop-node.invariant
