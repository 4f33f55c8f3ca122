-- Texts by their bytes.
use Rattle.std.specs.Prelude.{ℕ, List, map}
use Rattle.std.specs.Borrow.{Bor}

abbrev pub texts : List (Bor (List ℕ)) → List (List ℕ)
texts = map (λ text. text.now)
