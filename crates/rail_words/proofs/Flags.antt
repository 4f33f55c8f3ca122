-- A flag is given exactly where it reads as `true`.
use Rattle.std.proofs.Common.{◌≡◌, Bool, true, false, Option, Some, None, codes, refl, ap}
use Rattle.std.specs.Prelude.{unwrap_or}
use Rattle.std.specs.Option.{option_map_or}
use Rattle.std.specs.Str.{bytes_eq}
use Rattle.std.specs.Str.Parse.{ParsesBool}
use Rattle.std.proofs.lemmas.Slice.Eq.{bytes_eq-Decides}
use Rattle.clap.specs.Words.{ReadsOne, Text}

module _ (E : Type 0) where
  read : (text : Text) (answer : Option Bool) → ReadsOne {T = Bool} {E = E} ParsesBool text answer → unwrap_or answer false ≡ bytes_eq text (codes "true")
  read text (Some true) gives = rw gives refl
  read text (Some false) gives = rw gives refl
  read text None (e, gives) = go (bytes_eq text (codes "true")) refl
    where
      go : (b : Bool) → bytes_eq text (codes "true") ≡ b → false ≡ b
      go true is = absurd (gives.0 ((bytes_eq-Decides text (codes "true")).0 is))
      go false is = refl

  pub given : (text : Option Text) (answer : Option Bool) → (text ≡ None → answer ≡ None) → ((t : Text) → text ≡ Some t → ReadsOne {T = Bool} {E = E} ParsesBool t answer)
      → unwrap_or answer false ≡ option_map_or (λ t. bytes_eq t (codes "true")) text false
  given None answer none value = ap (λ a. unwrap_or a false) (none refl)
  given (Some text) answer none value = read text answer (value text refl)
