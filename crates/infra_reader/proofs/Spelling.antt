-- A sheet whose keys have the right form has names.
use Rattle.std.proofs.Common.{◌≡◌, ℕ, suc, ℤ, pos, negsuc, nat_le, leb-true, arith, inl, inr, Bool, true, false, not, ◌&&◌, ◌||◌, ◌==◌, List, [], ◌∷◌, map, length, Option, Some, None, refl, sym, ap, ap₂, subst, ◌∙◌}
use Rattle.std.specs.Prelude.{int_le, is_none, if◌then◌else◌}
use Rattle.std.specs.List.{list_all}
use Rattle.toml.specs.Data.{Data, string, table, Members}
use Rattle.design_table.specs.declared.field.Form.TheVariants as forms
use Rattle.design_table.specs.declared.key.Column.{Column}
use Rattle.design_table.specs.declared.key.Key.{Key}
use Rattle.design_table.specs.declared.key.Key.TheVariants as keys
use Rattle.design_table.specs.declared.place.EntryKind.{EntryKind}
use Rattle.design_table.specs.declared.place.EntryKind.TheVariants as kinds
use Rattle.design_table.specs.declared.place.Place.TheVariants.{Top, Field, UnknownField}
use Rattle.design_table.specs.Forms.{found, is_name, name_of, is_name_byte as is_table_byte, is_name_text, is_name_value, name_value, is_array, items_of, has_unknown}
use Rattle.design_table.specs.Keys.{kind_key, column, columns_of, keys_of, version_number}
use Rattle.design_table.specs.Reads.{at, in_each}
use Rattle.design_table.specs.Sheet.{version_of, value_of, top_value, members_of, entries_of, sheet_of, is_right, wrong_columns, wrong_fields, wrong_entry, wrong_array, wrong_whole, form_fault}
use Rattle.design_table.specs.Parsed.{Values, ParsedNode, ParsedEdge, ParsedSignal, ParsedVehicle, ParsedTrain, node_of, edge_of, signal_of, vehicle_of, train_of, overlap_of}
use Rattle.rail_base.specs.Admission.{is_from, is_name_byte, is_name as is_base_name}
use Rattle.rail_base.specs.Members.{In}
use Rattle.rail_base.proofs.Lists.{list_all_from, in_map_back}
use Rattle.infra_reader.specs.Spelling.{IsSpelled}
use Rattle.infra_reader.proofs.AllOf.{passes}
use Rattle.infra_reader.proofs.Placeless.{no_left, no_right, none_in, none_of}

or_true : (a : Bool) → (a || true) ≡ true
or_true true = refl
or_true false = refl

-- ---- the two tests of names

turned : (a b c d e : Bool) → (a || b || c || d || e) ≡ (c || b || a || d || e)
turned true true true d e = refl
turned true true false d e = refl
turned true false true d e = refl
turned true false false true e = refl
turned true false false false true = refl
turned true false false false false = refl
turned false true true d e = refl
turned false true false d e = refl
turned false false true true e = refl
turned false false true false true = refl
turned false false true false false = refl
turned false false false d e = refl

same_byte : (b : ℕ) → is_table_byte b ≡ is_name_byte b
same_byte b = turned (is_from 97 122 b) (is_from 65 90 b) (is_from 48 57 b) (b == 95) (b == 45)

same_bytes : (text : List ℕ) → list_all is_table_byte text ≡ list_all is_name_byte text
same_bytes [] = refl
same_bytes (b ∷ bs) = ap₂ (λ p q. p && q) (same_byte b) (same_bytes bs)

pub same_name : (text : List ℕ) → is_name_text text ≡ is_base_name text
same_name text = ap (λ b. is_from 1 32 (length text) && b) (same_bytes text)

good_value : (value : Data) → is_name_value value ≡ true → is_base_name (name_value value) ≡ true
good_value (string text) h = sym (same_name text) ∙ h
good_value _ h = absurd (cc)

good_name : (value : Option Data) → is_name value ≡ true → is_base_name (name_of value) ≡ true
good_name (Some value) h = good_value value h
good_name None h = absurd (cc)

-- ---- the entries of an array

-- the keys of an entry have the right form
entry_right : (version : ℕ) (kind : EntryKind) (i : ℕ) (entry : Data) → wrong_entry version kind i entry ≡ [] → wrong_fields version kind i (members_of entry) ≡ []
entry_right version kind i (table ms) h = h
entry_right version kind i _ h = absurd (cc)

array_right : (version : ℕ) (kind : EntryKind) (ms : Members) → wrong_array version kind ms ≡ [] → in_each (wrong_entry version kind) (items_of (top_value version ms (kind_key kind))) ≡ []
unfolding wrong_array
array_right version kind ms h =
    let value = top_value version ms (kind_key kind) in
    no_right (at (not (is_array value)) (Top (kind_key kind))) (in_each (wrong_entry version kind) (items_of value)) h

-- a name of all entries, where it is one that their keys need
names_right : {A : Type 0} (version : ℕ) (kind : EntryKind) (ms : Members) (parsed : Values → A) (name : A → List ℕ) → ((i : ℕ) (entry : Members) → wrong_fields version kind i entry ≡ [] → is_base_name (name (parsed (value_of version kind entry))) ≡ true) → wrong_array version kind ms ≡ []
    → list_all is_base_name (map name (entries_of version parsed kind ms)) ≡ true
unfolding entries_of
names_right version kind ms parsed name needed h =
    list_all_from is_base_name (map name (entries_of version parsed kind ms)) (λ n m.
    let x = in_map_back name (entries_of version parsed kind ms) n m in
    let y = in_map_back (λ entry. parsed (value_of version kind (members_of entry))) (items_of (top_value version ms (kind_key kind))) x.0 x.1 in
    let right = none_in (wrong_entry version kind) 1 (items_of (top_value version ms (kind_key kind))) y.0 (array_right version kind ms h) y.1 in
    subst (λ n. is_base_name n ≡ true) x.2 (subst (λ a. is_base_name (name a) ≡ true) y.2 (needed right.0 (members_of y.0) (entry_right version kind right.0 y.0 right.1))))

-- a column of an entry
pub column_right : (version : ℕ) (kind : EntryKind) (i : ℕ) (ms : Members) (column : Column) → In column (columns_of kind) → wrong_fields version kind i ms ≡ [] → is_right version ms column ≡ true
column_right version kind i ms column m h =
    let right = no_left (wrong_columns version kind i ms) (at (has_unknown (keys_of version kind) ms) (UnknownField kind i)) h in
    passes (is_right version ms column) (Field kind i column.key) (none_of (λ column. at (not (is_right version ms column)) (Field kind i column.key)) (columns_of kind) column right m)

name_needed : (version : ℕ) (kind : EntryKind) (i : ℕ) (ms : Members) (key : Key) → In (column key forms.Name 1) (columns_of kind) → wrong_fields version kind i ms ≡ [] → is_base_name (name_of (found key ms)) ≡ true
name_needed version kind i ms key m h = good_name (found key ms) (column_right version kind i ms (column key forms.Name 1) m h)

-- ---- how long trains stand, and overlaps

-- a document that knows what a later version has names it or one after it
since : (k : ℕ) (z : ℤ) → nat_le (suc k) (version_number z) ≡ true → int_le (pos (suc k)) z ≡ true
since k (pos n) h = go (nat_le n 4) h
  where
    go : (b : Bool) → nat_le (suc k) (if b then n else 0) ≡ true → nat_le (suc k) n ≡ true
    go true h = h
    go false h = let none = leb-true (suc k) 0 h in absurd (omega arith)
since k (negsuc n) h = let none = leb-true (suc k) 0 h in absurd (omega arith)

said_since : (z : ℤ) (ms : Members) → (int_le (pos 3) z || is_none (train_of (value_of (version_number z) kinds.Train ms)).dwell_ms) ≡ true
said_since z ms = go (nat_le 3 (version_number z)) refl
  where
    dwells : Option (List ℤ)
    dwells = (train_of (value_of (version_number z) kinds.Train ms)).dwell_ms

    go : (b : Bool) → nat_le 3 (version_number z) ≡ b → (int_le (pos 3) z || is_none dwells) ≡ true
    go true e = rw (since 2 z e) refl
    go false e = let none : dwells ≡ None = rw e refl in rw none (or_true (int_le (pos 3) z))

overlaps_since : (z : ℤ) (ms : Members) → (int_le (pos 4) z || (length (entries_of (version_number z) overlap_of kinds.Overlap ms) == 0)) ≡ true
unfolding entries_of
overlaps_since z ms = go (nat_le 4 (version_number z)) refl
  where
    go : (b : Bool) → nat_le 4 (version_number z) ≡ b → (int_le (pos 4) z || (length (entries_of (version_number z) overlap_of kinds.Overlap ms) == 0)) ≡ true
    go true e = rw (since 3 z e) refl
    go false e = let none : entries_of (version_number z) overlap_of kinds.Overlap ms ≡ [] = rw e refl in rw none (or_true (int_le (pos 4) z))

-- ---- the whole sheet

pub is_spelled : (ms : Members) → form_fault ms ≡ [] → IsSpelled (sheet_of ms)
unfolding form_fault sheet_of entries_of
is_spelled ms h =
    let v = version_of ms in
    let h1 = no_right (wrong_whole keys.Version ms) _ h in
    let h2 = no_right (wrong_whole keys.TickMs ms) _ h1 in
    let h3 = no_right (wrong_whole keys.HorizonMs ms) _ h2 in
    let nodes = no_left (wrong_array v kinds.Node ms) _ h3 in
    let h4 = no_right (wrong_array v kinds.Node ms) _ h3 in
    let edges = no_left (wrong_array v kinds.Edge ms) _ h4 in
    let h5 = no_right (wrong_array v kinds.Edge ms) _ h4 in
    let signals = no_left (wrong_array v kinds.Signal ms) _ h5 in
    let h6 = no_right (wrong_array v kinds.Signal ms) _ h5 in
    let vehicles = no_left (wrong_array v kinds.Vehicle ms) _ h6 in
    let h7 = no_right (wrong_array v kinds.Vehicle ms) _ h6 in
    let trains = no_left (wrong_array v kinds.Train ms) _ h7 in
    record {
      nodes = names_right v kinds.Node ms node_of (λ (n : ParsedNode). n.name) (λ i entry e. name_needed v kinds.Node i entry keys.Name (inl refl) e) nodes;
      edges = names_right v kinds.Edge ms edge_of (λ (n : ParsedEdge). n.name) (λ i entry e. name_needed v kinds.Edge i entry keys.Name (inl refl) e) edges;
      sections = names_right v kinds.Edge ms edge_of (λ (n : ParsedEdge). n.section) (λ i entry e. name_needed v kinds.Edge i entry keys.Section (inr (inr (inr (inr (inr (inr (inr (inl refl)))))))) e) edges;
      signals = names_right v kinds.Signal ms signal_of (λ (n : ParsedSignal). n.name) (λ i entry e. name_needed v kinds.Signal i entry keys.Name (inl refl) e) signals;
      vehicles = names_right v kinds.Vehicle ms vehicle_of (λ (n : ParsedVehicle). n.name) (λ i entry e. name_needed v kinds.Vehicle i entry keys.Name (inl refl) e) vehicles;
      trains = names_right v kinds.Train ms train_of (λ (n : ParsedTrain). n.name) (λ i entry e. name_needed v kinds.Train i entry keys.Name (inl refl) e) trains;
      dwells = list_all_from (λ (t : ParsedTrain). int_le (pos 3) (sheet_of ms).version || is_none t.dwell_ms) (sheet_of ms).trains (λ t m. let x = in_map_back (λ entry. train_of (value_of v kinds.Train (members_of entry))) (items_of (top_value v ms keys.Train)) t m in subst (λ (t : ParsedTrain). (int_le (pos 3) (sheet_of ms).version || is_none t.dwell_ms) ≡ true) x.2 (said_since (sheet_of ms).version (members_of x.0)));
      overlaps = overlaps_since (sheet_of ms).version ms;
    }
