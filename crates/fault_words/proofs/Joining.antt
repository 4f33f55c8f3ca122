-- Texts that are put after one another.
use Rattle.std.proofs.Common.{◌≡◌, List, ◌++◌, ap, ◌∙◌, append_assoc}

-- the first text, which is another one
pub first_as : {X : Type 0} (old a b new : List X) → new ≡ old ++ a → a ≡ b → new ≡ old ++ b
first_as old a b new first same = first ∙ ap (λ ys. old ++ ys) same

-- one text more
pub more_as : {X : Type 0} (old a b c mid new : List X) → mid ≡ old ++ a → new ≡ mid ++ b → b ≡ c → new ≡ old ++ (a ++ c)
more_as old a b c mid new first then same =
    first_as old (a ++ b) (a ++ c) new (then ∙ ap (λ ys. ys ++ b) first ∙ append_assoc old a b) (ap (λ ys. a ++ ys) same)
