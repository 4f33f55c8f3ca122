-- Texts that stay as they are when they are escaped.
use Rattle.std.proofs.Common.{◌≡◌, ℕ, Bool, true, false, ◌&&◌, List, [], ◌∷◌, refl, ap, arith}
use Rattle.std.specs.List.{list_all}
use Rattle.std.proofs.lemmas.Bool.Decides.{nat_tests}
use Rattle.drawing.specs.Parts.{escaped_byte}
use Rattle.drawing.specs.Laws.{NamesStay, is_plain_byte}

both : (p q : Bool) → (p && q) ≡ true → (p ≡ true) × (q ≡ true)
both true q h = (refl, h)
both false q h = absurd (cc)

plain_stays : (byte : ℕ) → is_plain_byte byte ≡ true → escaped_byte byte ≡ byte ∷ []
plain_stays byte h = grind (arith, nat_tests)

pub names_stay : NamesStay
names_stay [] h = refl
names_stay (byte ∷ bytes) h =
    let parts = both (is_plain_byte byte) (list_all is_plain_byte bytes) h in
    rw (plain_stays byte parts.0) (ap (λ (t : List ℕ). byte ∷ t) (names_stay bytes parts.1))
