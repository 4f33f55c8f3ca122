-- Tests that are joined, taken apart.
use Rattle.std.proofs.Common.{◌≡◌, Bool, true, false, ◌&&◌, ◌||◌, refl}
use Rattle.rail_base.proofs.Members.{and_left, and_right}

pub two : (a b : Bool) → (a && b) ≡ true → (a ≡ true) × (b ≡ true)
two a b h = (and_left a b h, and_right a b h)

pub three : (a b c : Bool) → (a && b && c) ≡ true → (a ≡ true) × (b ≡ true) × (c ≡ true)
three a b c h = let f = two (a && b) c h in let g = two a b f.0 in (g.0, g.1, f.1)

pub four : (a b c d : Bool) → (a && b && c && d) ≡ true → (a ≡ true) × (b ≡ true) × (c ≡ true) × (d ≡ true)
four a b c d h = let f = two (a && b && c) d h in let g = three a b c f.0 in (g.0, g.1, g.2, f.1)

pub five : (a b c d e : Bool) → (a && b && c && d && e) ≡ true → (a ≡ true) × (b ≡ true) × (c ≡ true) × (d ≡ true) × (e ≡ true)
five a b c d e h = let f = two (a && b && c && d) e h in let g = four a b c d f.0 in (g.0, g.1, g.2, g.3, f.1)

pub six : (a b c d e f : Bool) → (a && b && c && d && e && f) ≡ true → (a ≡ true) × (b ≡ true) × (c ≡ true) × (d ≡ true) × (e ≡ true) × (f ≡ true)
six a b c d e f h = let x = two (a && b && c && d && e) f h in let y = five a b c d e x.0 in (y.0, y.1, y.2, y.3, y.4, x.1)

pub seven : (a b c d e f g : Bool) → (a && b && c && d && e && f && g) ≡ true → (a ≡ true) × (b ≡ true) × (c ≡ true) × (d ≡ true) × (e ≡ true) × (f ≡ true) × (g ≡ true)
seven a b c d e f g h = let x = two (a && b && c && d && e && f) g h in let y = six a b c d e f x.0 in (y.0, y.1, y.2, y.3, y.4, y.5, x.1)

-- neither of the two
pub neither : (a b : Bool) → a ≡ false → b ≡ false → (a || b) ≡ false
neither a b p q = rw (p, q) refl
