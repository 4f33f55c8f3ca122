-- The rest of a list behind its first, and what holds of a value if there is one.
use Rattle.std.proofs.Common.{Result, Ok, Err, IfOk, ◌≡◌, ◌-◌, ◌≤◌, List, [], ◌∷◌, All, suc, subst, take, drop, length, sym, ap, arith}
use Rattle.std.proofs.lemmas.List.{take_all}

pub rest_is : {X : Type 0} (x : X) (xs : List X) → take (length (x ∷ xs) - 1) (drop 1 (x ∷ xs)) ≡ xs
rest_is x xs = take_all (length (x ∷ xs) - 1) xs (omega arith)

pub rest_long : {X : Type 0} (xs : List X) → 1 ≤ length xs → length (take (length xs - 1) (drop 1 xs)) ≡ length xs - 1
rest_long [] h = absurd (omega arith)
rest_long (x ∷ xs) h = let e = ap length (rest_is x xs) in omega arith

pub ok_more : {T E : Type 0} (P Q : T → Type 0) (r : Result T E) → ((x : T) → P x → Q x) → IfOk r P → IfOk r Q
ok_more P Q (Ok x) f h = f x h
ok_more P Q (Err e) f h = h

pub rest_all : {X : Type 0} (P : X → Type 0) (xs : List X) → All P xs → All P (take (length xs - 1) (drop 1 xs))
rest_all P [] h = λ k d l. absurd (omega arith)
rest_all P (x ∷ xs) h = subst (All P) (sym (rest_is x xs)) (λ k d l. h (suc k) d (omega arith))
