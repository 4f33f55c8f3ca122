use Rattle.std.proofs.Common.{[], ◌∷◌, ◌++◌, refl}
use Rattle.dispatcher.proofs.Gathering.{entry_edit}
use Rattle.dispatcher.proofs.lists.put.Goals as goal

pub returns-clause-put : goal.returns-clause-put
returns-clause-put g c = λ n. entry_edit c.args.lists.now.items c.args.number _ c.index_mut.result.now c.push.new.self (λ q. q ++ c.args.item ∷ []) c.requires.at_least_one c.requires.within refl c.index_mut.ensures.value c.in_ok-push.ensures.ok n
