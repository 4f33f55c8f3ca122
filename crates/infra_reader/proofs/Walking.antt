-- A loop over the entries of an array, each with its places.
use Rattle.std.proofs.Common.{◌≡◌, ℕ, ◌+◌, ◌<◌, ◌≤◌, List, [], ◌∷◌, ◌++◌, length, drop, get_or, map, flat_map, Result, Ok, Err, refl, sym, ◌∙◌, append_assoc}
use Rattle.std.specs.Prelude.{IfOk, IfErr}
use Rattle.std.specs.List.{enumerate_from}
use Rattle.std.proofs.lemmas.List.{drop_more, append-nil}
use Rattle.std.proofs.Math.ListN.{drop_of_length-le}
use Rattle.design_table.specs.declared.place.Place.{Place}
use Rattle.design_table.specs.declared.fault.Code.{Code}
use Rattle.design_table.specs.declared.fault.DesignFault.{DesignFault}
use Rattle.design_table.specs.declared.fault.DesignFault.TheVariants as faults
use Rattle.design_table.specs.Reads.{Fails, ReadsOrRefuses}
use Rattle.design_table.proofs.Walks.{fails_here}

-- the places of entries of which each is seen as something, numbered from i on
abbrev pub places_from : {X Y : Type 0} → (ℕ → Y → List Place) → (X → Y) → ℕ → List X → List Place
places_from places seen i xs = flat_map (λ e. places e.0 e.1) (enumerate_from i (map seen xs))

abbrev pub own_places_from : {X : Type 0} → (ℕ → X → List Place) → ℕ → List X → List Place
own_places_from places i xs = flat_map (λ e. places e.0 e.1) (enumerate_from i xs)

-- places that come entry by entry
module _ {X : Type 0} (one : ℕ → X → List Place) (rest : ℕ → List X → List Place)
    (more : (n : ℕ) (x : X) (xs : List X) → rest n (x ∷ xs) ≡ one n x ++ rest (n + 1) xs) (done : (n : ℕ) → rest n [] ≡ [])
    (xs : List X) (k : ℕ) (total : List Place) (so_far : total ≡ rest (k + 1) (drop k xs)) where
  pub entry_then : (x : X) → k < length xs → x ≡ get_or xs k x → total ≡ one (k + 1) x ++ rest (k + 1 + 1) (drop (k + 1) xs)
  entry_then x lt is = so_far ∙ rw (drop_more xs k x lt, ← is) (more (k + 1) x (drop (k + 1) xs))

  pub entry_fails : (x : X) (e : DesignFault) (code : Code) → k < length xs → x ≡ get_or xs k x → Fails e code (one (k + 1) x) → Fails e code total
  entry_fails x e code lt is h = rw (entry_then x lt is) (fails_here e code (one (k + 1) x) (rest (k + 1 + 1) (drop (k + 1) xs)) h)

  pub entry_passes : (x : X) → k < length xs → x ≡ get_or xs k x → one (k + 1) x ≡ [] → total ≡ rest (k + 1 + 1) (drop (k + 1) xs)
  entry_passes x lt is h = entry_then x lt is ∙ rw h refl

  pub no_entry_left : length xs ≤ k → total ≡ []
  no_entry_left le = so_far ∙ rw (drop_of_length-le xs le) (done (k + 1))

-- values that are read entry by entry
module _ {X Y Z : Type 0} (seen : X → Y) (read : Y → Z) (xs : List X) (k : ℕ) (total ys : List Z) (so_far : total ≡ ys ++ map read (map seen (drop k xs))) where
  pub entry_read : (x d : X) (z : Z) (zs : List Z) → k < length xs → x ≡ get_or xs k d → z ≡ read (seen x) → zs ≡ ys ++ z ∷ [] → total ≡ zs ++ map read (map seen (drop (k + 1) xs))
  entry_read x d z zs lt is same pushed = so_far ∙ rw (drop_more xs k d lt, ← is, pushed, append_assoc, same) refl

  pub all_read : length xs ≤ k → ys ≡ total
  all_read le = sym (so_far ∙ rw (drop_of_length-le xs le) (append-nil ys))

-- ---- entries that have no places

abbrev none : List Place
none = []

pub no_places : {Y : Type 0} (i : ℕ) (ys : List Y) → flat_map (λ (e : ℕ × Y). none) (enumerate_from i ys) ≡ []
no_places i [] = refl
no_places i (y ∷ ys) = no_places (i + 1) ys

pub reads_nowhere : {X : Type 0} (r : Result X DesignFault) (code : Code) (places : List Place) (y : X) → places ≡ [] → ReadsOrRefuses (λ x. x) r code places y → IfOk r (λ x. x ≡ y) × IfErr r (λ e. e ≡ faults.Memory)
reads_nowhere (Ok x) code places y none h = (h.1, tt)
reads_nowhere (Err (faults.Refused c p)) code places y none h = let f = h.1 in absurd (cc)
reads_nowhere (Err faults.Memory) code places y none h = (tt, refl)
