use Rattle.std.proofs.Common.{◌≡◌, ◌-◌, ◌≤◌, true, is_some, get_or, length, subst}
use Rattle.dispatch_run.proofs.InTurn.{grants_stay}
use Rattle.dispatch_run.proofs.marks.mark_grants.Goals as goal

pub returns-then-are_marked : goal.returns-then-are_marked
returns-then-are_marked c =
    let same = c.deref.ensures.value in
    grants_stay c.args.granted c.args.tick c.args.old.items c.requires
    (subst (λ gs. c.args.granted ≤ length gs) same (c.are_marked.ensures.within c.if-are_marked.true))
    (λ d some. subst (λ gs. is_some (get_or gs (c.args.granted - 1) d).1 ≡ true) same (c.are_marked.ensures.last c.if-are_marked.true d some))
