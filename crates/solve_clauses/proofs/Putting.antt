-- What a put that failed leaves of a line.
use Rattle.std.proofs.Common.{◌≡◌, ℕ, List, Option, Some, Result, Err, subst}
use Rattle.rail_outside.specs.Growth.{GrowsByPrefix}
use Rattle.rail_outside.specs.Putting.{PutLeaves}
use Rattle.rail_outside.specs.declared.sink.SinkFault.{SinkFault}
use Rattle.rail_outside.specs.declared.sink.SinkFault.TheVariants.{Failed}

-- a prefix of it
pub put_failed : {X : Type 0} (result : Result X SinkFault) (old new : Option (List ℕ)) (bytes line before : List ℕ) → PutLeaves result old new bytes → result ≡ Err Failed → bytes ≡ line → old ≡ Some before → GrowsByPrefix (Some before) new line
put_failed result old new bytes line before leaves is same reply_for =
    subst (λ l. GrowsByPrefix (Some before) new l) same (subst (λ o. GrowsByPrefix o new bytes) reply_for (subst (λ r. PutLeaves r old new bytes) is leaves))
