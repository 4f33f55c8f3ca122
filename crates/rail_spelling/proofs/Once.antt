-- Names each once, as the reader adds them one by one.
use Rattle.std.proofs.Common.{◌≡◌, ℕ, Bool, true, false, cond, not, ◌&&◌, ◌||◌, List, [], ◌∷◌, ◌++◌, filter, fold, bytes_eq, if◌then◌else◌, refl, sym, ap, ap₂, ◌∙◌, append_assoc, append-nil}
use Rattle.std.specs.List.{list_any}
use Rattle.std.proofs.lemmas.Slice.Eq.{bytes_eq-Decides}
use Rattle.infra_reader.specs.Names.{is_among, with_name}
use Rattle.infra_reader.specs.Names as reader
use Rattle.infra_reader.proofs.Apart.{bytes_turned}
use Rattle.rail_spelling.specs.Designs.{each_once}
use Rattle.rail_spelling.proofs.Sections.{apart}

-- ---- what is kept of lists

filter_twice : {X : Type 0} (p q : X → Bool) (xs : List X) → filter p (filter q xs) ≡ filter (λ x. q x && p x) xs
filter_twice p q [] = refl
filter_twice {X} p q (x ∷ xs) = go (q x) (filter_twice p q xs)
  where
    go : (b : Bool) → filter p (filter q xs) ≡ filter (λ x. q x && p x) xs → filter p (cond b (x ∷ filter q xs) (filter q xs)) ≡ cond (b && p x) (x ∷ filter (λ x. q x && p x) xs) (filter (λ x. q x && p x) xs)
    go true e = ap (λ ys. cond (p x) (x ∷ ys) ys) e
    go false e = e

filter_same : {X : Type 0} (p q : X → Bool) (xs : List X) → ((x : X) → p x ≡ q x) → filter p xs ≡ filter q xs
filter_same p q [] same = refl
filter_same p q (x ∷ xs) same = ap₂ (λ b ys. cond b (x ∷ ys) ys) (same x) (filter_same p q xs same)

filter_all : {X : Type 0} (xs : List X) → filter (λ x. true) xs ≡ xs
filter_all [] = refl
filter_all (x ∷ xs) = ap (λ ys. x ∷ ys) (filter_all xs)

-- ---- names that are new

abbrev new : List (List ℕ) → List ℕ → Bool
new known name = not (is_among known name)

-- a new name is another than one that is known
apart_where_new : (known : List (List ℕ)) (name other : List ℕ) → is_among known name ≡ true → (apart name other && new known other) ≡ new known other
apart_where_new known name other there = go (bytes_eq name other) refl
  where
    go : (b : Bool) → bytes_eq name other ≡ b → (not b && new known other) ≡ new known other
    go false e = refl
    go true e = ap not (sym (ap (is_among known) (sym ((bytes_eq-Decides name other).0 e)) ∙ there))

any_more : {X : Type 0} (p : X → Bool) (xs : List X) (x : X) → list_any p (xs ++ x ∷ []) ≡ (p x || list_any p xs)
any_more p [] x = refl
any_more p (y ∷ ys) x = ap (λ b. p y || b) (any_more p ys x) ∙ turned (p y) (p x) (list_any p ys)
  where
    turned : (a b c : Bool) → (a || (b || c)) ≡ (b || (a || c))
    turned true true c = refl
    turned true false c = refl
    turned false b c = refl

new_after : (known : List (List ℕ)) (name other : List ℕ) → new (known ++ name ∷ []) other ≡ (apart name other && new known other)
new_after known name other = ap not (any_more (bytes_eq other) known name ∙ ap (λ b. b || is_among known other) (bytes_turned other name)) ∙ neither (bytes_eq name other) (is_among known other)
  where
    neither : (a b : Bool) → not (a || b) ≡ (not a && not b)
    neither true b = refl
    neither false b = refl

-- the names that the reader adds are those that are new, each once
added : (known names : List (List ℕ)) → fold with_name known names ≡ known ++ filter (new known) (each_once names)
added known [] = sym (append-nil known)
added known (name ∷ names) = go (is_among known name) refl (added known names) (added (known ++ name ∷ []) names)
  where
    once : List (List ℕ)
    once = each_once names

    -- those of the rest that are new
    kept : List (List ℕ)
    kept = filter (new known) (filter (apart name) once)

    both : kept ≡ filter (λ other. apart name other && new known other) once
    both = filter_twice (new known) (apart name) once

    go : (b : Bool) → is_among known name ≡ b → fold with_name known names ≡ known ++ filter (new known) once
        → fold with_name (known ++ name ∷ []) names ≡ (known ++ name ∷ []) ++ filter (new (known ++ name ∷ [])) once
        → fold with_name (if b then known else known ++ name ∷ []) names ≡ known ++ cond (not b) (name ∷ kept) kept
    go true there old more = old ∙ ap (λ ns. known ++ ns) (sym (both ∙ filter_same (λ other. apart name other && new known other) (new known) once (λ other. apart_where_new known name other there)))
    go false there old more =
        more ∙ append_assoc known (name ∷ []) (filter (new (known ++ name ∷ [])) once)
        ∙ ap (λ ns. known ++ name ∷ ns) (filter_same (new (known ++ name ∷ [])) (λ other. apart name other && new known other) once (λ other. new_after known name other) ∙ sym both)

pub same_once : (names : List (List ℕ)) → reader.each_once names ≡ each_once names
same_once names = added [] names ∙ filter_all (each_once names)
