-- The first of a list and the rest of it, joined.
use Rattle.std.proofs.Common.{◌≡◌, ℕ, ◌+◌, ◌-◌, ◌≤◌, ◌<◌, List, [], ◌∷◌, ◌++◌, take, drop, length, get_or, flat_map, ap, sym, ◌∙◌, arith, append_assoc}
use Rattle.std.proofs.lemmas.List.{take_all, take_more, flat_map_more, append-nil}
use Rattle.cone_words.specs.Phrases.{joined, each_after}

pub rest_is : {X : Type 0} (x : X) (xs : List X) → take (length (x ∷ xs) - 1) (drop 1 (x ∷ xs)) ≡ xs
rest_is x xs = take_all (length (x ∷ xs) - 1) xs (omega arith)

first_joined : {X : Type 0} (between : List ℕ) (text : X → List ℕ) (xs : List X) (other : X) → 1 ≤ length xs
    → text (get_or xs 0 other) ++ each_after between text (take (length xs - 1) (drop 1 xs)) ≡ joined between text xs
first_joined between text [] other some = absurd (omega arith)
first_joined between text (x ∷ xs) other some = ap (λ ys. text x ++ each_after between text ys) (rest_is x xs)

-- the first put, and then the rest
pub put_joined : {X : Type 0} (between : List ℕ) (text : X → List ℕ) (xs : List X) (other : X) (old mid new : List ℕ) → 1 ≤ length xs
    → mid ≡ old ++ text (get_or xs 0 other) → new ≡ mid ++ each_after between text (take (length xs - 1) (drop 1 xs)) → new ≡ old ++ joined between text xs
put_joined between text xs other old mid new some first more =
    more ∙ ap (λ ys. ys ++ each_after between text (take (length xs - 1) (drop 1 xs))) first
    ∙ append_assoc old (text (get_or xs 0 other)) (each_after between text (take (length xs - 1) (drop 1 xs)))
    ∙ ap (λ ys. old ++ ys) (first_joined between text xs other some)

-- nothing put
pub none_joined : {X : Type 0} (between : List ℕ) (text : X → List ℕ) (xs : List X) (old : List ℕ) → length xs < 1 → old ≡ old ++ joined between text xs
none_joined between text [] old none = sym (append-nil old)
none_joined between text (x ∷ xs) old none = absurd (omega arith)

-- one text put after another
pub more : {X : Type 0} (old a b mid new : List X) → mid ≡ old ++ a → new ≡ mid ++ b → new ≡ old ++ (a ++ b)
more old a b mid new first then = then ∙ ap (λ ys. ys ++ b) first ∙ append_assoc old a b

-- the same, where the text is another one
pub first_as : {X : Type 0} (old a b new : List X) → new ≡ old ++ a → a ≡ b → new ≡ old ++ b
first_as old a b new first same = first ∙ ap (λ ys. old ++ ys) same

pub more_as : {X : Type 0} (old a b c mid new : List X) → mid ≡ old ++ a → new ≡ mid ++ b → b ≡ c → new ≡ old ++ (a ++ c)
more_as old a b c mid new first then same = first_as old (a ++ b) (a ++ c) new (more old a b mid new first then) (ap (λ ys. a ++ ys) same)

-- one text put after a whole one
pub then_as : {X : Type 0} (a b c mid new : List X) → mid ≡ a → new ≡ mid ++ b → b ≡ c → new ≡ a ++ c
then_as a b c mid new first then same = then ∙ ap (λ ys. ys ++ b) first ∙ ap (λ ys. a ++ ys) same

-- all texts of the member at place i put after those of the members before it
pub one_told : {X Y : Type 0} (tell : X → List Y) (xs : List X) (i : ℕ) (x : X) → i < length xs → get_or xs i x ≡ x
    → (old mid new : List Y) → mid ≡ old ++ flat_map tell (take i xs) → new ≡ mid ++ tell x → new ≡ old ++ flat_map tell (take (i + 1) xs)
one_told tell xs i x lt at old mid new before then =
    let one : take (i + 1) xs ≡ take i xs ++ x ∷ [] = take_more xs i x lt ∙ ap (λ y. take i xs ++ y ∷ []) at in
    then ∙ rw (before, one) (flat_map_more tell old (take i xs) x)
