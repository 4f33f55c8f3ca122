-- What a slice has at a place, however its items are seen.
use Rattle.std.proofs.Common.{◌≡◌, ℕ, ◌<◌, ◌≤◌, ◌+◌, zero, suc, Bool, List, [], ◌∷◌, length, drop, get_or, flat_map, Option, Some, None, MatchOption, Result, Ok, Err, IfOk, Vec, map, option_map, unwrap_or, ap, ap₂, refl, ◌∙◌, sym, arith}
use Rattle.std.specs.Borrow.{Bor}
use Rattle.std.specs.declared.alloc.AllocError.{AllocError}
use Rattle.std.specs.declared.alloc.Global.{Global}
use Rattle.std.proofs.lemmas.List.{drop_more, length-map}
use Rattle.std.proofs.lemmas.List.Folds.{find-append}
use Rattle.toml.specs.Data.{no_members}
use Rattle.toml.specs.View.{items_view, view}
use Rattle.toml.specs.declared.value.Value.{Value}
use Rattle.design_table.specs.Forms.{list_of_items}
use Rattle.design_table.specs.Sheet.{members_of}
use Rattle.design_table.specs.Texts.{texts, visits_seen}
use Rattle.std.specs.List.{HoldsAt, find, slice_get}
use Rattle.std.specs.Option.{option_copied, option_map_or, option_or}
use Rattle.std.proofs.lemmas.Option.{slice_get-map}

pub got : {X : Type 0} → (xs : List X) (n : ℕ) (o : Option (Bor X)) → MatchOption o (length xs ≤ n) (λ x. n < length xs × HoldsAt (λ y. x.now ≡ y) xs n)
    → option_copied o ≡ slice_get xs n
got [] n None h = refl
got [] n (Some x) h = absurd (omega (arith, h.0))
got (y ∷ xs) zero None h = absurd (omega (arith, h))
got (y ∷ xs) zero (Some x) h = ap Some (h.1 y)
got (y ∷ xs) (suc n) None h = got xs n None (omega (arith, h))
got (y ∷ xs) (suc n) (Some x) h = got xs n (Some x) (omega (arith, h.0), h.1)

pub text_count : (names : List (Bor (List ℕ))) → length (texts names) ≡ length names
text_count names = length-map names (λ text. text.now)

-- what is said of an entry
pub seen_at : {X Y Z : Type 0} (view : X → Y) (said : Y → Z) (other : Z) (xs : List X) (n : ℕ) (o : Option X) → o ≡ slice_get xs n
    → option_map_or said (slice_get (map view xs) n) other ≡ option_map_or (λ x. said (view x)) o other
seen_at view said other xs n o e = ap (λ p. option_map_or said p other) (slice_get-map view xs n ∙ ap (option_map view) (sym e)) ∙ mapped view said other o
  where
    mapped : {X Y Z : Type 0} (view : X → Y) (said : Y → Z) (other : Z) (o : Option X) → option_map_or said (option_map view o) other ≡ option_map_or (λ x. said (view x)) o other
    mapped view said other None = refl
    mapped view said other (Some x) = refl

-- the names of entries, taken before or after they are seen
names_seen : {X Y : Type 0} (name : X → Bor (List ℕ)) (said : Y → List ℕ) (view : X → Y) → ((x : X) → (name x).now ≡ said (view x)) → (xs : List X)
    → texts (map name xs) ≡ map said (map view xs)
names_seen name said view same [] = refl
names_seen name said view same (x ∷ xs) = ap₂ (λ y ys. y ∷ ys) (same x) (names_seen name said view same xs)

pub names_read : {X Y : Type 0} (name : X → Bor (List ℕ)) (said : Y → List ℕ) (view : X → Y) → ((x : X) → (name x).now ≡ said (view x)) → (xs : List X)
    (r : Result (Vec (Bor (List ℕ)) Global) AllocError) → IfOk r (λ v. v.items ≡ map name xs) → IfOk r (λ v. texts v.items ≡ map said (map view xs))
names_read name said view same xs (Ok v) e = ap texts e ∙ names_seen name said view same xs
names_read name said view same xs (Err e) h = h

-- the names of visits from one on
abbrev pub names_from : List (Vec (Bor (List ℕ)) Global) → ℕ → List (List ℕ)
names_from vs k = flat_map (λ visit. visit) (visits_seen (drop k vs))

module _ (p : List ℕ → Bool) (vs : List (Vec (Bor (List ℕ)) Global)) (k : ℕ) (v : Vec (Bor (List ℕ)) Global) (lt : k < length vs) (is : v ≡ get_or vs k v)
    (total : Option (List ℕ)) (so_far : find p (names_from vs k) ≡ total) (o : Option (Bor (List ℕ))) (here : option_map (λ name. name.now) o ≡ find p (texts v.items)) where
  in_two : total ≡ option_or (option_map (λ name. name.now) o) (find p (names_from vs (k + 1)))
  in_two = sym so_far ∙ rw (drop_more vs k v lt, ← is) (find-append p (texts v.items) (names_from vs (k + 1)) ∙ ap (λ q. option_or q (find p (names_from vs (k + 1)))) (sym here))

  pub found_here : (name : Bor (List ℕ)) → o ≡ Some name → name.now ≡ unwrap_or total []
  found_here name e = let found : total ≡ Some name.now = in_two ∙ rw e refl in sym (ap (λ q. unwrap_or q []) found)

  pub found_later : o ≡ None → find p (names_from vs (k + 1)) ≡ total
  found_later e = sym (in_two ∙ rw e refl)

-- ---- the entries of an array of the document

listed : (vs : List Value) → list_of_items (items_view vs) ≡ map view vs
listed [] = refl
listed (v ∷ vs) = ap (λ ds. view v ∷ ds) (listed vs)

-- the keys of one of them
pub listed_at : (vs : List Value) (n : ℕ) (o : Option Value) → o ≡ slice_get vs n
    → option_map_or members_of (slice_get (list_of_items (items_view vs)) n) no_members ≡ option_map_or (λ v. members_of (view v)) o no_members
listed_at vs n o e = rw (listed vs) (seen_at view members_of no_members vs n o e)
