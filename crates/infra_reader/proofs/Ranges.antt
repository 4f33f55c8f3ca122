-- Numbers that are in range, as the station has them.
use Rattle.std.proofs.Common.{◌≡◌, ℕ, ◌*◌, ◌/◌, ◌<◌, ◌≤◌, ℤ, pos, negsuc, true, not, ◌&&◌, ◌==◌, nat_le, nat_lt, List, [], ◌∷◌, ◌++◌, length, map, flat_map, refl, sym, ap, subst, ◌∙◌, arith, leb-true}
use Rattle.std.specs.Prelude.{int_le}
use Rattle.std.proofs.Math.Nat.{mul-le-mul}
use Rattle.rail_base.specs.Admission.{is_from}
use Rattle.rail_base.specs.Members.{In}
use Rattle.rail_base.proofs.Members.{and_both, and_left, and_right}
use Rattle.rail_base.proofs.Lists.{length-map}
use Rattle.design_table.specs.declared.key.Key.{Key}
use Rattle.design_table.specs.declared.place.EntryKind.{EntryKind}
use Rattle.design_table.specs.declared.place.Place.{Place}
use Rattle.design_table.specs.declared.place.Place.TheVariants.{Top, Field}
use Rattle.design_table.specs.Reads.{at, in_each}
use Rattle.infra_reader.specs.Names.{is_among, number_in}
use Rattle.infra_reader.specs.Unknown.{unless_among}
use Rattle.infra_reader.specs.declared.limits.Limit.{Limit as CodeLimit}
use Rattle.infra_reader.specs.Limits.{Limit, limit, is_kept, limits_outside, unless_from, count_outside, array_outside, is_horizon}
use Rattle.infra_reader.specs.Seen.{limit_seen}
use Rattle.infra_reader.specs.Stations.{number_32}
use Rattle.infra_reader.specs.Traffic.{if_zero}
use Rattle.infra_reader.proofs.AllOf.{passes}
use Rattle.infra_reader.proofs.Numbers.{found_before}
use Rattle.infra_reader.proofs.Placeless.{no_left, no_right, none_of, unbroken}

small : (n high : ℕ) → nat_le n high ≡ true → high < 4294967296 → nat_lt n 4294967296 ≡ true
small n high h l = grind arith

kept : (n : ℕ) → nat_lt n 4294967296 ≡ true → number_32 (pos n) ≡ n
kept n h = rw h refl

pub in_range : (low high : ℕ) (z : ℤ) → high < 4294967296 → (int_le (pos low) z && int_le z (pos high)) ≡ true → is_from low high (number_32 z) ≡ true
in_range low high (pos n) fits h =
    let e = kept n (small n high (and_right (nat_le low n) (nat_le n high) h) fits) in
    subst (λ m. is_from low high m ≡ true) (sym e) h
in_range low high (negsuc n) fits h = absurd (cc)

pub ranged : (low high : ℕ) (z : ℤ) (place : Place) → high < 4294967296 → unless_from low high z place ≡ [] → is_from low high (number_32 z) ≡ true
unfolding unless_from
ranged low high z place fits h = in_range low high z fits (passes (int_le (pos low) z && int_le z (pos high)) place h)

-- ---- keys of entries

pub limits_seen : (kind : EntryKind) (i : ℕ) (limits : List CodeLimit) → limits_outside kind i (map limit_seen limits) ≡ flat_map (λ l. at (not (is_kept (limit_seen l))) (Field kind i l.key)) limits
limits_seen kind i [] = refl
limits_seen kind i (l ∷ limits) = ap (λ places. at (not (is_kept (limit_seen l))) (Field kind i l.key) ++ places) (limits_seen kind i limits)

-- the one number at a key is allowed, where no key is refused
pub one_kept : (kind : EntryKind) (i : ℕ) (limits : List Limit) (key : Key) (low high : ℕ) (z : ℤ) (place : Place) → In (limit key low high (z ∷ [])) limits → limits_outside kind i limits ≡ [] → unless_from low high z place ≡ []
unfolding unless_from
one_kept kind i limits key low high z place m h =
    let l = limit key low high (z ∷ []) in
    let fits = int_le (pos low) z && int_le z (pos high) in
    let all = passes (is_kept l) (Field kind i key) (none_of (λ (l : Limit). at (not (is_kept l)) (Field kind i l.key)) limits l h m) in
    rw (and_left fits true all) refl

pub kept_number : (kind : EntryKind) (i : ℕ) (limits : List Limit) (key : Key) (low high : ℕ) (z : ℤ) → high < 4294967296 → In (limit key low high (z ∷ [])) limits → limits_outside kind i limits ≡ [] → is_from low high (number_32 z) ≡ true
kept_number kind i limits key low high z fits m h = ranged low high z (Field kind i key) fits (one_kept kind i limits key low high z (Field kind i key) m h)

-- an array of so many entries
pub few : {X Y : Type 0} (f : X → Y) (least most : ℕ) (key : Key) (xs : List X) → count_outside least most key xs ≡ [] → is_from least most (length (map f xs)) ≡ true
unfolding count_outside
few f least most key xs h = subst (λ n. is_from least most n ≡ true) (sym (length-map f xs)) (passes (is_from least most (length xs)) (Top key) h)

pub array_count : {X : Type 0} (outside : ℕ → X → List Place) (least most : ℕ) (key : Key) (xs : List X) → array_outside outside least most key xs ≡ [] → count_outside least most key xs ≡ []
unfolding array_outside
array_count outside least most key xs h = no_left (count_outside least most key xs) (in_each outside xs) h

pub array_each : {X : Type 0} (outside : ℕ → X → List Place) (least most : ℕ) (key : Key) (xs : List X) → array_outside outside least most key xs ≡ [] → in_each outside xs ≡ []
unfolding array_outside
array_each outside least most key xs h = no_right (count_outside least most key xs) (in_each outside xs) h

-- the number of a name that is there
pub known : (names : List (List ℕ)) (name : List ℕ) (count : ℕ) → count ≡ length names → is_among names name ≡ true → is_from 1 count (number_in names name) ≡ true
known names name count same h =
    let t = sym (found_before (λ n. Rattle.std.specs.Str.bytes_eq name n) names) ∙ h in
    grind arith

pub there : (names : List (List ℕ)) (name : List ℕ) (place : Place) → unless_among names name place ≡ [] → is_among names name ≡ true
unfolding unless_among
there names name place h = passes (is_among names name) place h

pub moves : (rate : ℕ) (place : Place) → if_zero rate place ≡ [] → nat_le 1 rate ≡ true
unfolding if_zero
moves rate place h = let t = unbroken (rate == 0) place h in grind arith

-- ---- the horizon

small_product : (a b : ℕ) → 0 < b → b ≤ 1000 → a / b ≤ 86400 → a < 4294967296
small_product a b l u q = let p : b * (a / b) ≤ 1000 * 86400 = mul-le-mul u q in omega arith

pub horizon_in : (h t : ℤ) (place tick none : Place) → unless_from 100 1000 t tick ≡ [] → at (not (is_horizon h t)) place ≡ [] → if_zero (number_32 h / number_32 t) none ≡ [] → is_from 1 86400 (number_32 h / number_32 t) ≡ true
unfolding unless_from
horizon_in (pos a) (pos b) place tick none d05 good d09 =
    let t = passes (nat_le 100 b && nat_le b 1000) tick d05 in
    let low = leb-true 100 b (and_left (nat_le 100 b) (nat_le b 1000) t) in
    let high = leb-true b 1000 (and_right (nat_le 100 b) (nat_le b 1000) t) in
    let g = and_right (nat_le 1 a) (nat_le (a / b) 86400) (passes (nat_le 1 a && nat_le (a / b) 86400) place good) in
    let most = leb-true (a / b) 86400 g in
    let fits : a < 4294967296 = small_product a b (omega arith) high most in
    let ea : number_32 (pos a) ≡ a = kept a (grind arith) in
    let eb : number_32 (pos b) ≡ b = kept b (grind arith) in
    let same : number_32 (pos a) / number_32 (pos b) ≡ a / b = rw (ea, eb) refl in
    and_both (nat_le 1 (number_32 (pos a) / number_32 (pos b))) (nat_le (number_32 (pos a) / number_32 (pos b)) 86400) (moves (number_32 (pos a) / number_32 (pos b)) none d09) (subst (λ n. nat_le n 86400 ≡ true) (sym same) g)
horizon_in (negsuc a) t place tick none d05 good d09 = absurd (cc)
horizon_in (pos a) (negsuc b) place tick none d05 good d09 = absurd (cc)
