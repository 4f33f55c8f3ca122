-- The entries of an array one by one, as a loop reads them.
use Rattle.std.proofs.Common.{◌≡◌, Bool, true, false, ◌&&◌, ℕ, ◌+◌, ◌<◌, ◌≤◌, List, [], ◌∷◌, ◌++◌, length, drop, get_or, map, refl, ap, sym, subst, ◌∙◌, append_assoc}
use Rattle.std.proofs.lemmas.List.{map_push, append-nil, drop_more}
use Rattle.std.proofs.Math.ListN.{drop_of_length-le}
use Rattle.std.specs.List.{enumerate_from, flat_map, list_all}
use Rattle.toml.specs.Data.{Data}
use Rattle.toml.specs.View.{view, items_view}
use Rattle.toml.specs.declared.value.Value.{Value}
use Rattle.design_table.specs.declared.fault.Code.{Code}
use Rattle.design_table.specs.declared.fault.DesignFault.{DesignFault}
use Rattle.design_table.specs.declared.place.Place.{Place}
use Rattle.design_table.specs.Forms.{list_of_items}
use Rattle.design_table.specs.Reads.{Fails}
use Rattle.design_table.proofs.Walks.{fails_here}

pub listed_view : (vs : List Value) → list_of_items (items_view vs) ≡ map view vs
listed_view [] = refl
listed_view (v ∷ vs) = ap (λ ds. view v ∷ ds) (listed_view vs)

-- the places of the entries numbered from i
abbrev pub places_from : (ℕ → Data → List Place) → ℕ → List Data → List Place
places_from places i ds = flat_map (λ e. places e.0 e.1) (enumerate_from i ds)

-- one entry, and those after it
places-drop : (places : ℕ → Data → List Place) (i : ℕ) (vs : List Value) (k : ℕ) (v : Value) → k < length vs → v ≡ get_or vs k v
    → places_from places i (map view (drop k vs)) ≡ places i (view v) ++ places_from places (i + 1) (map view (drop (k + 1) vs))
places-drop places i vs k v lt is = rw (drop_more vs k v lt, ← is) refl

map-drop : {A : Type 0} (read : Data → A) (vs : List Value) (k : ℕ) (v : Value) → k < length vs → v ≡ get_or vs k v
    → map read (map view (drop k vs)) ≡ read (view v) ∷ map read (map view (drop (k + 1) vs))
map-drop read vs k v lt is = rw (drop_more vs k v lt, ← is) refl

-- ---- a loop over the entries

pub entry_fails : (places : ℕ → Data → List Place) (i : ℕ) (vs : List Value) (k : ℕ) (v : Value) (e : DesignFault) (code : Code) (total : List Place)
    → k < length vs → v ≡ get_or vs k v → total ≡ places_from places i (map view (drop k vs)) → Fails e code (places i (view v)) → Fails e code total
entry_fails places i vs k v e code total lt is so_far h =
    rw (so_far, places-drop places i vs k v lt is) (fails_here e code (places i (view v)) (places_from places (i + 1) (map view (drop (k + 1) vs))) h)

pub entry_passes : (places : ℕ → Data → List Place) (i : ℕ) (vs : List Value) (k : ℕ) (v : Value) (total : List Place)
    → k < length vs → v ≡ get_or vs k v → total ≡ places_from places i (map view (drop k vs)) → places i (view v) ≡ [] → total ≡ places_from places (i + 1) (map view (drop (k + 1) vs))
entry_passes places i vs k v total lt is so_far h = so_far ∙ rw (places-drop places i vs k v lt is, h) refl

pub entry_read : {A X : Type 0} (read : Data → A) (seen : X → A) (vs : List Value) (k : ℕ) (v : Value) (x : X) (xs ys : List X) (total : List A)
    → k < length vs → v ≡ get_or vs k v → total ≡ map seen xs ++ map read (map view (drop k vs)) → seen x ≡ read (view v) → ys ≡ xs ++ x ∷ []
    → total ≡ map seen ys ++ map read (map view (drop (k + 1) vs))
entry_read read seen vs k v x xs ys total lt is so_far same pushed =
    so_far ∙ rw (map-drop read vs k v lt is, pushed, map_push seen xs x, append_assoc, same) refl

pub no_entry_left : (places : ℕ → Data → List Place) (i : ℕ) (vs : List Value) (k : ℕ) (total : List Place) → length vs ≤ k → total ≡ places_from places i (map view (drop k vs)) → total ≡ []
no_entry_left places i vs k total le so_far = so_far ∙ rw (drop_of_length-le vs le) refl

pub all_read : {A : Type 0} (read : Data → A) (seen total : List A) (vs : List Value) (k : ℕ) → length vs ≤ k → total ≡ seen ++ map read (map view (drop k vs)) → seen ≡ total
all_read read seen total vs k le so_far = sym (so_far ∙ rw (drop_of_length-le vs le) (append-nil seen))

-- ---- a loop over values that are all to pass one test

all-drop : (test : Data → Bool) (vs : List Value) (k : ℕ) (v : Value) → k < length vs → v ≡ get_or vs k v
    → list_all test (map view (drop k vs)) ≡ (test (view v) && list_all test (map view (drop (k + 1) vs)))
all-drop test vs k v lt is = rw (drop_more vs k v lt, ← is) refl

pub value_fails : (test : Data → Bool) (vs : List Value) (k : ℕ) (v : Value) (total : Bool) → k < length vs → v ≡ get_or vs k v → list_all test (map view (drop k vs)) ≡ total → test (view v) ≡ false → false ≡ total
value_fails test vs k v total lt is so_far e = sym (ap (λ b. b && list_all test (map view (drop (k + 1) vs))) e) ∙ (sym (all-drop test vs k v lt is) ∙ so_far)

pub value_passes : (test : Data → Bool) (vs : List Value) (k : ℕ) (v : Value) (total : Bool) → k < length vs → v ≡ get_or vs k v → list_all test (map view (drop k vs)) ≡ total → test (view v) ≡ true → list_all test (map view (drop (k + 1) vs)) ≡ total
value_passes test vs k v total lt is so_far e = sym (ap (λ b. b && list_all test (map view (drop (k + 1) vs))) e) ∙ (sym (all-drop test vs k v lt is) ∙ so_far)

pub all_passed : (test : Data → Bool) (vs : List Value) (k : ℕ) (total : Bool) → length vs ≤ k → list_all test (map view (drop k vs)) ≡ total → true ≡ total
all_passed test vs k total le so_far = subst (λ (ws : List Value). list_all test (map view ws) ≡ total) (drop_of_length-le vs le) so_far
