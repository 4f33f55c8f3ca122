-- Arrays of tables whose keys have the right form.
use Prim.Native.String.{String}
use Rattle.std.specs.Prelude.{codes, unwrap_or}
use Rattle.std.proofs.Common.{◌≡◌, ℕ, ◌+◌, ◌⊎◌, inl, inr, Bool, true, false, not, ◌||◌, List, [], ◌∷◌, ◌++◌, map, flat_map, Option, Some, None, Ordering, Less, Equal, Greater, nat_cmp, refl, sym, ap, ◌∙◌, subst, true≢false}
use Rattle.std.proofs.lemmas.Map.Lookups.{exact_bytes}
use Rattle.std.specs.Cmp.Lexicographic.{slice_cmp}
use Rattle.std.specs.List.{enumerate_from}
use Rattle.toml.specs.Data.{Data, array, table, Items, no_items, item, Members, no_members, member, get_member}
use Rattle.design_table.specs.declared.key.Column.{Column}
use Rattle.design_table.specs.declared.key.Key.{Key}
use Rattle.design_table.specs.declared.place.EntryKind.{EntryKind}
use Rattle.design_table.specs.declared.place.Place.{Place}
use Rattle.design_table.specs.declared.place.Place.TheVariants.{Top, Field, UnknownField}
use Rattle.design_table.specs.Forms.{is_array, items_of, list_of_items, is_known, has_unknown}
use Rattle.design_table.specs.Keys.{kind_key, columns_of, keys_of}
use Rattle.design_table.specs.Reads.{at, in_each}
use Rattle.design_table.specs.Sheet.{members_of, value_of, top_value, entries_of, is_right, wrong_columns, wrong_fields, wrong_entry, wrong_array}
use Rattle.design_table.specs.Parsed.{Values}
use Rattle.rail_base.specs.Members.{In}
use Rattle.rail_base.proofs.Lists.{in_map}
use Rattle.rail_spelling.specs.Designs.{Row, HasRows, AreTables, HasTables}

-- ---- where no place is wrong

pub no_left : (xs ys : List Place) → xs ++ ys ≡ [] → xs ≡ []
no_left [] ys h = refl
no_left (x ∷ xs) ys h = absurd (cc)

pub no_right : (xs ys : List Place) → xs ++ ys ≡ [] → ys ≡ []
no_right [] ys h = h
no_right (x ∷ xs) ys h = absurd (cc)

pub passes : (b : Bool) (place : Place) → at (not b) place ≡ [] → b ≡ true
passes true place h = refl
passes false place h = absurd (cc)

pub none_in : {X : Type 0} (places : ℕ → X → List Place) (i : ℕ) (xs : List X) (x : X) → flat_map (λ e. places e.0 e.1) (enumerate_from i xs) ≡ [] → In x xs → (n : ℕ) × (places n x ≡ [])
none_in places i [] x h m = absurd m
none_in places i (y ∷ ys) x h (inl e) = (i, subst (λ z. places i z ≡ []) e (no_left (places i y) (flat_map (λ e. places e.0 e.1) (enumerate_from (i + 1) ys)) h))
none_in places i (y ∷ ys) x h (inr m) = none_in places (i + 1) ys x (no_right (places i y) (flat_map (λ e. places e.0 e.1) (enumerate_from (i + 1) ys)) h) m

-- ---- keys that no column has

cases_ordering : (o : Ordering) → (o ≡ Less) ⊎ ((o ≡ Equal) ⊎ (o ≡ Greater))
cases_ordering Less = inl refl
cases_ordering Equal = inr (inl refl)
cases_ordering Greater = inr (inr refl)

either_known : (known rest : Bool) → (not known || rest) ≡ false → (known ≡ true) × (rest ≡ false)
either_known true rest h = (refl, h)
either_known false rest h = absurd (cc)

-- a table that has no unknown key has no key that is unknown
pub not_there : (known : List Key) (text : List ℕ) (keys : Members) → has_unknown known keys ≡ false → is_known known text ≡ false → get_member text keys ≡ None
not_there known text no_members none new = refl
not_there known text (member key d keys) none new =
    let parts = either_known (is_known known key) (has_unknown known keys) none in
    let rest = not_there known text keys parts.1 new in
    elim (cases_ordering (slice_cmp nat_cmp text key)) [
      | inl less ↦ rw less rest
      | inr more ↦ elim more [
        | inl tie ↦ absurd (true≢false (sym parts.0 ∙ ap (is_known known) (sym (exact_bytes text key tie)) ∙ new))
        | inr later ↦ rw later rest
      ]
    ]

pub none_unknown : (unknown : Bool) (place : Place) → at unknown place ≡ [] → unknown ≡ false
none_unknown false place h = refl
none_unknown true place h = absurd (cc)

-- ---- the keys of an entry

-- each column has its form, where the version knows it
abbrev pub AreRight : ℕ → Members → List Column → Type 0
AreRight version keys [] = Unit {0}
AreRight version keys (column ∷ columns) = (is_right version keys column ≡ true) × AreRight version keys columns

right_columns : (version : ℕ) (place : Key → Place) (keys : Members) (columns : List Column) → flat_map (λ (c : Column). at (not (is_right version keys c)) (place c.key)) columns ≡ [] → AreRight version keys columns
right_columns version place keys [] h = tt
right_columns version place keys (column ∷ columns) h =
    let here = at (not (is_right version keys column)) (place column.key) in
    let rest = flat_map (λ (c : Column). at (not (is_right version keys c)) (place c.key)) columns in
    (passes (is_right version keys column) (place column.key) (no_left here rest h), right_columns version place keys columns (no_right here rest h))

right_entry : (version : ℕ) (kind : EntryKind) (i : ℕ) (keys : Members) → wrong_fields version kind i keys ≡ [] → AreRight version keys (columns_of kind)
right_entry version kind i keys h = right_columns version (Field kind i) keys (columns_of kind) (no_left (wrong_columns version kind i keys) (at (has_unknown (keys_of version kind) keys) (UnknownField kind i)) h)

-- ---- the tables of an array

module _ {P X : Type 0} (version : ℕ) (parsed : Values → P) (make : P → X) (rows : X → List Row) (kind : EntryKind) where
  -- what a table spells
  abbrev spelled : Members → P
  spelled keys = parsed (value_of version kind keys)

  abbrev Fits : Data → Type 0
  Fits (table keys) = HasRows keys (rows (make (spelled keys)))
  Fits _ = ⊥

  all_fit : (ds : Items) → ((d : Data) → In d (list_of_items ds) → Fits d) → AreTables (map make (map (λ entry. spelled (members_of entry)) (list_of_items ds))) rows (array ds)
  all_fit no_items fits = tt
  all_fit (item (table keys) ds) fits = (fits (table keys) (inl refl), all_fit ds (λ d m. fits d (inr m)))
  all_fit (item d ds) fits = absurd (fits d (inl refl))

  -- what has to hold of each entry
  abbrev pub EachFits : List P → Type 0
  EachFits entries = (keys : Members) → In (spelled keys) entries → AreRight version keys (columns_of kind) → HasRows keys (rows (make (spelled keys)))

  fits : (entries : List P) (i : ℕ) (d : Data) → EachFits entries → In (spelled (members_of d)) entries → wrong_entry version kind i d ≡ [] → Fits d
  fits entries i (table keys) each m h = each keys m (right_entry version kind i keys h)
  fits entries i _ each m h = absurd (cc)

  fitting : (v : Option Data) → at (not (is_array v)) (Top (kind_key kind)) ++ in_each (wrong_entry version kind) (items_of v) ≡ []
      → EachFits (map (λ entry. spelled (members_of entry)) (items_of v))
      → AreTables (map make (map (λ entry. spelled (members_of entry)) (items_of v))) rows (unwrap_or v (array no_items))
  fitting None h each = tt
  fitting (Some (array ds)) h each =
      all_fit ds (λ d m.
      let wrong = none_in (wrong_entry version kind) 1 (list_of_items ds) d h m in
      fits (map (λ entry. spelled (members_of entry)) (list_of_items ds)) wrong.0 d each (in_map (λ entry. spelled (members_of entry)) (list_of_items ds) d m) wrong.1)
  fitting (Some _) h each = absurd (cc)

  pub has_tables : (keys : Members) (key : String) → top_value version keys (kind_key kind) ≡ get_member (codes key) keys → wrong_array version kind keys ≡ [] → EachFits (entries_of version parsed kind keys) → HasTables keys key (map make (entries_of version parsed kind keys)) rows
  unfolding wrong_array entries_of
  has_tables keys key is h each =
      subst (λ value. AreTables (map make (entries_of version parsed kind keys)) rows (unwrap_or value (array no_items))) is (fitting (top_value version keys (kind_key kind)) h each)
