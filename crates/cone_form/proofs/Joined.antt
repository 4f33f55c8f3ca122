-- Tests of several parts, of which one fails or all hold.
use Rattle.std.proofs.Common.{◌≡◌, Bool, true, false, ◌&&◌, refl, sym, true≢false}

pub second_fails : (a b c : Bool) → b ≡ false → false ≡ (a && b && c)
second_fails true true c h = absurd (true≢false h)
second_fails true false c h = refl
second_fails false b c h = refl

pub third_fails : (a b c e : Bool) → c ≡ false → false ≡ (a && b && c && e)
third_fails a b c e h = second_fails (a && b) c e h

pub last_fails : (a b : Bool) → b ≡ false → false ≡ (a && b)
last_fails true b h = sym h
last_fails false b h = refl

pub first_fails : (a b c e : Bool) → a ≡ false → false ≡ (a && b && c && e)
first_fails false b c e h = refl
first_fails true b c e h = absurd (true≢false h)

-- the second is left where the others hold
pub second_left : (r a b c e : Bool) → a ≡ true → c ≡ true → e ≡ true → r ≡ b → r ≡ (a && b && c && e)
second_left r true true true true h k l m = m
second_left r true false true true h k l m = m
second_left r true b false e h k l m = absurd (true≢false (sym k))
second_left r true b true false h k l m = absurd (true≢false (sym l))
second_left r false b c e h k l m = absurd (true≢false (sym h))

-- the second holds
pub second_holds : (r a b c : Bool) → b ≡ true → r ≡ (a && c) → r ≡ (a && b && c)
second_holds r true true c h k = k
second_holds r false true c h k = k
second_holds r a false c h k = absurd (true≢false (sym h))
