-- Lines to be printed.
use Rattle.std.specs.Prelude.{ℕ, List, map, Vec}
use Rattle.std.specs.declared.alloc.Global.{Global}

-- each line as its bytes
abbrev pub lines_of : List (Vec ℕ Global) → List (List ℕ)
lines_of lines = map (λ line. line.items) lines
