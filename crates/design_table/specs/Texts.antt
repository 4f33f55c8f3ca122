-- Texts of the document by their bytes.
use Rattle.std.specs.Prelude.{ℕ, List, map}
use Rattle.std.specs.Borrow.{Bor}
use Rattle.std.specs.Global.{Vec}

-- texts by their bytes
abbrev pub texts : List (Bor (List ℕ)) → List (List ℕ)
texts = map (λ text. text.now)

-- the names of each visit
abbrev pub visits_seen : List (Vec (Bor (List ℕ))) → List (List (List ℕ))
visits_seen = map (λ visit. texts visit.items)
