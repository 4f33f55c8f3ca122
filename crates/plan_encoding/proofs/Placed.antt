-- The places of commands and of pairs.
use Rattle.std.proofs.Common.{◌≡◌, ℕ, Bool, true, false, refl, if◌then◌else◌, List, length, Option, Some, None, ap, ◌∙◌}
use Rattle.std.specs.List.{list_any}
use Rattle.rail_base.specs.declared.plan.Command.{Command}
use Rattle.rail_base.specs.Numbering.{before_first}
use Rattle.rail_spec.specs.Plans.{is_command}
use Rattle.command_set.specs.Commands.{first_place, is_among}

-- a command of a set has a place
pub place_is : (cs : List Command) (c : Command) (o : Option ℕ) → o ≡ first_place (is_command c) cs → is_among cs c ≡ true → o ≡ Some (length (before_first (is_command c) cs))
place_is cs c o e h = e ∙ ap (λ (b : Bool). if b then Some (length (before_first (is_command c) cs)) else None) h

-- what is made of the place of the first that passes
pub place_made : {X L : Type 0} (test : X → Bool) (xs : List X) (made : ℕ → L) (k : ℕ) → Some k ≡ first_place test xs → Some (made k) ≡ (if list_any test xs then Some (made (length (before_first test xs))) else None)
place_made {X} {L} test xs made k h = go (list_any test xs) h
  where
    go : (b : Bool) → Some k ≡ (if b then Some (length (before_first test xs)) else None) → Some (made k) ≡ (if b then Some (made (length (before_first test xs))) else None)
    go true e = let same : k ≡ length (before_first test xs) = cc in ap (λ m. Some (made m)) same
    go false e = absurd (cc)

pub no_place : {X L : Type 0} (test : X → Bool) (xs : List X) (made : L) → None ≡ first_place test xs → None ≡ (if list_any test xs then Some made else None)
no_place {X} {L} test xs made h = go (list_any test xs) h
  where
    go : (b : Bool) → None ≡ (if b then Some (length (before_first test xs)) else None) → None ≡ (if b then Some made else None)
    go true e = absurd (cc)
    go false e = refl
