-- What becomes of a sink when clauses are listed.
use Rattle.std.specs.Prelude.{ℕ, ◌+◌, ◌≡◌, Bool, true, List, [], ◌∷◌, ◌++◌, if◌then◌else◌, length, nat_lt}
use Rattle.sat_clause.specs.declared.lit.Lit.{Lit}
use Rattle.sat_clause.specs.Clauses.{Store}
use Rattle.plan_encoding.specs.declared.sink.BaseFault.{BaseFault}
use Rattle.plan_encoding.specs.declared.sink.BaseFault.TheVariants.{TooLarge, Memory}

-- how many literals were listed, whether their clauses are kept, and those that were
pub record SinkView : Type 0 where
  pub keep : Bool
  pub literals : ℕ
  pub clauses : Store

-- clauses have been listed, or there are too many literals, so many up to the first clause that is too much
pub data Emission : Type 0 where
  Emitted : SinkView → Emission
  TooMany : ℕ → Emission

-- one clause more
abbrev pub with_clause : SinkView → List Lit → SinkView
with_clause d c = record {
  keep = d.keep;
  literals = d.literals + length c;
  clauses = if d.keep then d.clauses ++ (c, true) ∷ [] else d.clauses;
}

-- clauses one after the other, up to the limit on literals
abbrev pub emitted : SinkView → List (List Lit) → Emission
emitted d [] = Emitted d
emitted d (c ∷ cs) =
    let rest = emitted (with_clause d c) cs in
    if nat_lt 16000000 (d.literals + length c) then TooMany (d.literals + length c) else rest

-- the fault says how many literals there are, where there are too many
abbrev pub FaultSays : Emission → BaseFault → Type 0
FaultSays l (TooLarge k) = l ≡ TooMany k
FaultSays l Memory = Unit {0}
