-- Texts that grow.
use Rattle.std.specs.Prelude.{◌≡◌, ℕ, ◌++◌, List, map, Vec}
use Rattle.std.specs.declared.alloc.Global.{Global}

-- this text is added
abbrev pub AddsText : Vec ℕ Global → Vec ℕ Global → List ℕ → Type 0
AddsText before after more = after.items ≡ before.items ++ more

-- these lines are added
abbrev pub AddsLines : Vec (Vec ℕ Global) Global → Vec (Vec ℕ Global) Global → List (List ℕ) → Type 0
AddsLines before after more = map (λ line. line.items) after.items ≡ map (λ line. line.items) before.items ++ more
