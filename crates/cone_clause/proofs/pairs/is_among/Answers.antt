use Rattle.std.proofs.Common.{◌≡◌, ℕ, zero, suc, ◌≤◌, ◌<◌, inl, inr, ◌==◌, Ok, Err, List, [], ◌∷◌, get_or, length, sym, ◌∙◌, arith, eqb-true, eq-eqb, Result, MatchResult}
use Rattle.std.specs.List.{list_any}
use Rattle.std.specs.Result.{is_ok}
use Rattle.std.proofs.lemmas.List.Sorted.{searched}
use Rattle.rail_base.specs.Members.{In}
use Rattle.rail_base.proofs.Members.{below_or_not, false_unless, list_any_from, list_any_gives}
use Rattle.cone_form.proofs.Orders.{member_at}
use Rattle.cone_clause.proofs.pairs.is_among.Goals as goal

stands_at : (xs : List ℕ) (x : ℕ) → In x xs → (k : ℕ) × (k < length xs) × (get_or xs k 0 ≡ x)
stands_at [] x m = absurd m
stands_at (y ∷ ys) x (inl e) = (zero, omega arith, e)
stands_at (y ∷ ys) x (inr m) = let k = stands_at ys x m in let l = k.1 in (suc k.0, omega arith, k.2)

found : (xs : List ℕ) (x : ℕ) (r : Result ℕ ℕ) → MatchResult r (λ i. (i < length xs) × (get_or xs i 0 ≡ x)) (λ i. (i ≤ length xs) × ((k : ℕ) → k < i → get_or xs k 0 < x) × ((k : ℕ) → i ≤ k → k < length xs → x < get_or xs k 0))
    → is_ok r ≡ list_any (λ j. j == x) xs
found xs x (Ok i) (l, e) = sym (list_any_from (λ j. j == x) xs (get_or xs i 0) (member_at xs i 0 l) (eq-eqb (get_or xs i 0) x e))
found xs x (Err i) (l, below, above) = sym (false_unless (list_any (λ j. j == x) xs) (λ h.
    let f = list_any_gives (λ j. j == x) xs h in
    let k = stands_at xs f.0 f.1 in
    let same : get_or xs k.0 0 ≡ x = k.2 ∙ eqb-true f.0 x f.2 in
    elim (below_or_not k.0 i) [
      | inl b ↦ (let low = below k.0 b in absurd (omega arith))
      | inr b ↦ (let high = above k.0 b k.1 in absurd (omega arith))
    ]))

pub returns : goal.returns
returns c = c.is_ok.ensures.value ∙ found c.args.places.now c.args.place c.binary_search.result (searched c.args.places.now c.args.place c.binary_search.result c.binary_search.ensures.position (λ i j l m. c.requires i j 0 l m))
