-- Several tests of which one fails, or all hold.
use Rattle.std.proofs.Common.{◌≡◌, Bool, true, false, ◌&&◌, refl, sym, ap, ◌∙◌}

pub first_fails : (a b c e : Bool) → a ≡ false → false ≡ (a && b && c && e)
first_fails a b c e h = sym (ap (λ x. x && b && c && e) h)

pub middle_fails : (a b c e : Bool) → (b && c) ≡ false → false ≡ (a && b && c && e)
middle_fails true b c e h = sym (ap (λ x. x && e) h)
middle_fails false b c e h = refl

pub last_is : (a b c e r : Bool) → a ≡ true → (b && c) ≡ true → r ≡ e → r ≡ (a && b && c && e)
last_is true b c e r h k l = l ∙ sym (ap (λ x. x && e) k)
last_is false b c e r h k l = absurd (cc)
