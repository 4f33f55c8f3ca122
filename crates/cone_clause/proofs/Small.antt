-- The numbers of places are small.
use Rattle.std.proofs.Common.{ℕ, ◌≤◌, ◌<◌, List, length, get_or}
use Rattle.cone_form.proofs.Orders.{member_at}
use Rattle.cone_clause.specs.declared.numbered.NumberedCone.{NumberedCone}
use Rattle.cone_clause.specs.Places.{AreSaid}
use Rattle.cone_clause.proofs.Said.{place_inside}

-- a place of which the clause says something is one of the pairs, and they are few
pub said_inside : (c : NumberedCone) (places : List ℕ) → AreSaid c.contention.pairs.now.pairs c.cone.now places → (i : ℕ) → i < length places
    → (get_or places i 0 < length c.contention.pairs.now.pairs) × (length c.contention.pairs.now.pairs ≤ 8000000)
said_inside c places said i inside =
    let here = said.only (get_or places i 0) (member_at places i 0 inside) in
    (place_inside c.contention.pairs.now.pairs (get_or places i 0) here.0 here.1, c.contention.at_most_8000000)
