use Rattle.std.proofs.Common.{◌∙◌, sym, true≢false}
use Rattle.bound_chains.proofs.Sharing.{apart-first, apart-second}
use Rattle.bound_chains.proofs.known.share.Goals.{then-is_route, else-is_route}
use Rattle.bound_chains.proofs.known.share.Goals as goal

pub returns-else-is_route-2 : goal.returns-else-is_route-2
returns-else-is_route-2 c =
    let routes = c.args.interlocking.now.routes in
    let none = c.if-is_route-2.false in
    elim c.if-is_route.branch [
      | then-is_route w ↦ none ∙ apart-second routes c.args.one c.args.other
          (λ k. true≢false (sym (w.is_route-then-is_route.ensures.all k) ∙ (sym w.value-is ∙ none)))
      | else-is_route w ↦ none ∙ apart-first routes c.args.one c.args.other
          (λ k. true≢false (sym (c.is_route.ensures.all k) ∙ w.if-is_route.false))
    ]
