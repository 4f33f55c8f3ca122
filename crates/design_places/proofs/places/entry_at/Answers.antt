use Rattle.std.proofs.Common.{◌≡◌, ℕ, ◌<◌, ◌≤◌, zero, suc, List, [], ◌∷◌, length, Option, Some, None, MatchOption, ap, refl, ◌∙◌, arith}
use Rattle.std.specs.Borrow.{Bor}
use Rattle.std.specs.List.{HoldsAt, slice_get}
use Rattle.std.specs.Option.{option_copied}
use Rattle.design_places.specs.Seen.{now}
use Rattle.toml_places.specs.Texts.{texts}
use Rattle.design_places.proofs.places.entry_at.Goals as goal

got : (xs : List (Bor (List ℕ))) (n : ℕ) (o : Option (Bor (Bor (List ℕ)))) → MatchOption o (length xs ≤ n) (λ x. n < length xs × HoldsAt (λ y. x.now ≡ y) xs n)
    → now (option_copied o) ≡ slice_get (texts xs) n
got [] n None h = refl
got [] n (Some x) h = absurd (omega (arith, h.0))
got (y ∷ xs) zero None h = absurd (omega (arith, h))
got (y ∷ xs) zero (Some x) h = ap (λ (t : Bor (List ℕ)). Some t.now) (h.1 y)
got (y ∷ xs) (suc n) None h = got xs n None (omega (arith, h))
got (y ∷ xs) (suc n) (Some x) h = got xs n (Some x) (omega (arith, h.0), h.1)

pub returns : goal.returns
returns c = ap now c.copied.ensures ∙ (got _ _ _ c.get.ensures.lookup.3 ∙ rw (c.deref.ensures.value, c.in_ok-entries.ensures, c.text.ensures, c.key.ensures, c.saturating_sub.ensures) refl)
