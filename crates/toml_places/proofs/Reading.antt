-- What was read, where only want of memory is an error, and the starts with one more.
use Rattle.std.proofs.Common.{◌≡◌, ℕ, ◌<◌, List, [], ◌∷◌, ◌++◌, length, Option, Some, None, Result, Ok, IfOk, ap, subst, sym, ◌∙◌}
use Rattle.std.proofs.lemmas.Option.{none-some, same_Some}
use Rattle.std.specs.Borrow.{Bor}
use Rattle.toml_parser.specs.declared.error.ParseError.{ParseError}
use Rattle.toml_parser.specs.Reading.{Gives}
use Rattle.toml_places.specs.Answers.{Answers}
use Rattle.toml_places.specs.Texts.{texts}

pub read_some : (r : Result (Bor (List ℕ)) ParseError) (o : Option (Bor (List ℕ))) (after : Bor (List ℕ)) (expected : Option (List ℕ)) (start : List ℕ)
    → Answers r (Ok o) → o ≡ Some after → Gives (λ rest. rest.now) r expected → IfOk r (λ rest. length rest.now < length start)
    → (expected ≡ Some after.now) × (length after.now < length start)
read_some r None after expected start answered is given shorter = absurd (none-some after is)
read_some r (Some x) after expected start answered is given shorter =
    let read : r ≡ Ok after = answered ∙ ap Ok (same_Some x after is) in
    (subst (λ r. Gives (λ rest. rest.now) r expected) read given, subst (λ r. IfOk r (λ rest. length rest.now < length start)) read shorter)

pub read_none : (r : Result (Bor (List ℕ)) ParseError) (o : Option (Bor (List ℕ))) (expected : Option (List ℕ))
    → Answers r (Ok o) → o ≡ None → Gives (λ rest. rest.now) r expected → expected ≡ None
read_none r None expected answered is given =
    let (e, refused, other) = answered in
    subst (λ r. Gives (λ rest. rest.now) r expected) refused given other
read_none r (Some x) expected answered is given = absurd (none-some x (sym is))

pub added : (xs : List (Bor (List ℕ))) (x : Bor (List ℕ)) (start : List ℕ) (more : List (List ℕ)) → x.now ≡ start
    → texts xs ++ start ∷ more ≡ texts (xs ++ x ∷ []) ++ more
added [] x start more is = ap (λ s. s ∷ more) (sym is)
added (y ∷ xs) x start more is = ap (λ ts. y.now ∷ ts) (added xs x start more is)

pub added_last : (xs : List (Bor (List ℕ))) (x : Bor (List ℕ)) (start : List ℕ) → x.now ≡ start → texts xs ++ start ∷ [] ≡ texts (xs ++ x ∷ [])
added_last [] x start is = ap (λ s. s ∷ []) (sym is)
added_last (y ∷ xs) x start is = ap (λ ts. y.now ∷ ts) (added_last xs x start is)
