use Rattle.std.proofs.Common.{◌≡◌, ℕ, List, [], ◌∷◌, ◌++◌, replicate, ap₂, subst, ◌∙◌, arith}
use Rattle.std.proofs.lemmas.List.{replicate-append-replicate}
use Rattle.graph_steps.proofs.back.empty_lists.Goals as goal

pub loop-node-init : goal.loop-node-init
loop-node-init c = c.new-lists.ensures.items

pub loop-node-preserved : goal.loop-node-preserved
loop-node-preserved c = c.in_ok-push.ensures.items ∙ ap₂ (λ (ls : List (List ℕ)) (x : List ℕ). ls ++ x ∷ []) c.loop-node.invariant c.new.ensures ∙ replicate-append-replicate c.loop-node._node 1 []

pub returns : goal.returns
returns c = let e : c.loop-node._node ≡ c.args.count = omega arith in subst (λ n. c.loop-node.lists.items ≡ replicate n []) e c.loop-node.invariant
