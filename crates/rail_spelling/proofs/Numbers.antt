-- Entries by their names: what number a name has, and what name a number.
use Rattle.std.proofs.Common.{◌≡◌, ℕ, zero, suc, ◌+◌, ◌≤◌, ◌⊎◌, inl, inr, Bool, true, false, cond, not, List, [], ◌∷◌, map, length, bytes_eq, refl, sym, ap, ap₂, subst, ◌∙◌, arith}
use Rattle.std.specs.List.{position_or_len}
use Rattle.std.proofs.lemmas.Slice.Eq.{bytes_eq-Decides}
use Rattle.rail_base.specs.Members.{In, Pairs}
use Rattle.rail_base.specs.Numbering.{entry}
use Rattle.rail_base.proofs.Lists.{in_entry, length-map}
use Rattle.infra_reader.specs.Names.{number_in}

-- what stands under a number is an entry or the one that none is
entry_or_other : {X : Type 0} (other : X) (xs : List X) (n : ℕ) → In (entry other xs n) xs ⊎ (entry other xs n ≡ other)
entry_or_other other xs zero = inr refl
entry_or_other other [] (suc n) = inr refl
entry_or_other other (x ∷ xs) (suc zero) = inl (inl refl)
entry_or_other {X} other (x ∷ xs) (suc (suc n)) = go (entry_or_other other xs (suc n))
  where
    go : In (entry other xs (suc n)) xs ⊎ (entry other xs (suc n) ≡ other) → In (entry other xs (suc n)) (x ∷ xs) ⊎ (entry other xs (suc n) ≡ other)
    go (inl m) = inl (inr m)
    go (inr e) = inr e

-- entries with names, no two of which are the same
module _ {X : Type 0} (name : X → List ℕ) (other : X) (unnamed : name other ≡ []) where
  abbrev pub Distinct : List X → Type 0
  Distinct xs = Pairs (λ (a b : X). name a ≡ name b → ⊥) xs

  abbrev pub Named : List X → Type 0
  Named xs = (x : X) → In x xs → name x ≡ [] → ⊥

  -- an entry has another name than each behind it, and than none
  first_alone : (x : X) (xs : List X) (n : ℕ) → Distinct (x ∷ xs) → Named (x ∷ xs) → name x ≡ name (entry other xs n) → ⊥
  first_alone x xs n differ named e = go (entry_or_other other xs n)
    where
      go : In (entry other xs n) xs ⊎ (entry other xs n ≡ other) → ⊥
      go (inl m) = differ.0 (entry other xs n) m e
      go (inr k) = named x (inl refl) (e ∙ ap name k ∙ unnamed)

  -- so entries of one name have one number
  pub one_number : (xs : List X) (a b : ℕ) → Distinct xs → Named xs → 1 ≤ a → a ≤ length xs → name (entry other xs a) ≡ name (entry other xs b) → a ≡ b
  one_number [] a b differ named low high e = absurd (omega arith)
  one_number (x ∷ xs) zero b differ named low high e = absurd (omega arith)
  one_number (x ∷ xs) (suc a) zero differ named low high e = absurd (named (entry other (x ∷ xs) (suc a)) (in_entry other (x ∷ xs) (suc a) low high) (e ∙ unnamed))
  one_number (x ∷ xs) (suc zero) (suc zero) differ named low high e = refl
  one_number (x ∷ xs) (suc zero) (suc (suc b)) differ named low high e = absurd (first_alone x xs (suc b) differ named e)
  one_number (x ∷ xs) (suc (suc a)) (suc zero) differ named low high e = absurd (first_alone x xs (suc a) differ named (sym e))
  one_number (x ∷ xs) (suc (suc a)) (suc (suc b)) differ named low high e = ap suc (one_number xs (suc a) (suc b) differ.1 (λ y m. named y (inr m)) (omega arith) (omega arith) e)

-- ---- the name of a number that a name has

pub name_back : (names : List (List ℕ)) (name : List ℕ) → number_in names name ≤ length names → entry [] names (number_in names name) ≡ name
name_back [] name h = absurd (omega arith)
name_back (n ∷ ns) name h = go (bytes_eq name n) refl h (name_back ns name)
  where
    place : ℕ
    place = position_or_len (bytes_eq name) ns

    go : (b : Bool) → bytes_eq name n ≡ b → cond (not b) (1 + place) 0 + 1 ≤ length (n ∷ ns) → (place + 1 ≤ length ns → entry [] ns (place + 1) ≡ name) → entry [] (n ∷ ns) (cond (not b) (1 + place) 0 + 1) ≡ name
    go true e h later = sym ((bytes_eq-Decides name n).0 e)
    go false e h later =
        let next : 1 + place + 1 ≡ suc (suc place) = omega arith in
        let same : place + 1 ≡ suc place = omega arith in
        ap (entry [] (n ∷ ns)) next ∙ ap (entry [] ns) (sym same) ∙ later (omega arith)

-- what is made of the entry of a number
pub entry_made : {X Y : Type 0} (make : X → Y) (other : X) (xs : List X) (n : ℕ) → make (entry other xs n) ≡ entry (make other) (map make xs) n
entry_made make other xs zero = refl
entry_made make other [] (suc n) = refl
entry_made make other (x ∷ xs) (suc zero) = refl
entry_made make other (x ∷ xs) (suc (suc n)) = entry_made make other xs (suc n)

-- what is made of entries that are made of others
pub map_made : {P X Y : Type 0} (f : X → Y) (make : P → X) (g : P → Y) (ps : List P) → ((p : P) → In p ps → f (make p) ≡ g p) → map f (map make ps) ≡ map g ps
map_made f make g [] same = refl
map_made f make g (p ∷ ps) same = ap₂ (λ y ys. y ∷ ys) (same p (inl refl)) (map_made f make g ps (λ q m. same q (inr m)))

-- the same of entries' names
pub entry_back : {P X : Type 0} (name : X → List ℕ) (make : P → X) (parsed : P → List ℕ) (other : X) (ps : List P) (text : List ℕ) → name other ≡ [] → ((p : P) → name (make p) ≡ parsed p)
    → number_in (map parsed ps) text ≤ length (map make ps) → name (entry other (map make ps) (number_in (map parsed ps) text)) ≡ text
entry_back name make parsed other ps text unnamed same high =
    let number = number_in (map parsed ps) text in
    entry_made name other (map make ps) number
    ∙ ap₂ (λ none names. entry none names number) unnamed (map_made name make parsed ps (λ p m. same p))
    ∙ name_back (map parsed ps) text (subst (λ n. number ≤ n) (length-map make ps ∙ sym (length-map parsed ps)) high)
