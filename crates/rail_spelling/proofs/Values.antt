-- Values whose form is right, as what they spell.
use Rattle.std.specs.Prelude.{unwrap_or}
use Rattle.std.proofs.Common.{◌≡◌, ℕ, ◌≤◌, inl, inr, ℤ, pos, negsuc, Bool, true, false, ◌||◌, nat_lt, List, map, Option, Some, None, bytes_eq, if◌then◌else◌, refl, sym, ap, ap₂, arith}
use Rattle.std.specs.Prelude.{codes}
use Rattle.std.specs.List.{list_all}
use Rattle.std.proofs.lemmas.Slice.Eq.{bytes_eq-Decides}
use Rattle.toml.specs.Data.{Data, string, integer, boolean, array, Items, no_items, item}
use Rattle.toml.specs.View.{items_of}
use Rattle.design_table.specs.Forms.{is_name, name_of, is_name_value, name_value, is_side, side_of, is_whole, whole_of, is_wholes, wholes_of, is_flag, flag_of, is_names, names_of, is_visit, visit_of, is_visits, visits_of, list_of_items}
use Rattle.rail_base.specs.declared.station.NodeNo.{NodeNo}
use Rattle.rail_base.specs.declared.station.SectionNo.{SectionNo}
use Rattle.rail_base.specs.Members.{In}
use Rattle.rail_base.proofs.Members.{and_left, and_right}
use Rattle.infra_reader.specs.Stations.{number_32, nodes_in, sections_in, dwells_in}
use Rattle.infra_reader.specs.Stations as stations
use Rattle.infra_reader.specs.Names.{number_in}
use Rattle.design_table.specs.declared.sheet.Side.TheVariants as table
use Rattle.rail_spelling.specs.Designs.{whole, side, list}

-- the value, where one that is missing is false
abbrev pub value : Option Data → Data
value v = unwrap_or v (boolean false)

pub spells_name : (v : Option Data) → is_name v ≡ true → value v ≡ string (name_of v)
spells_name (Some (string s)) h = refl
spells_name (Some _) h = absurd (cc)
spells_name None h = absurd (cc)

pub spells_flag : (v : Option Data) → is_flag v ≡ true → value v ≡ boolean (flag_of v)
spells_flag None h = refl
spells_flag (Some (boolean b)) h = refl
spells_flag (Some _) h = absurd (cc)

-- a side by its text
side_text : (text : List ℕ) → (bytes_eq text (codes "a") || bytes_eq text (codes "b")) ≡ true → string text ≡ side (stations.side_of (side_of (Some (string text))))
side_text text h = go (bytes_eq text (codes "b")) refl h
  where
    go : (b : Bool) → bytes_eq text (codes "b") ≡ b → (bytes_eq text (codes "a") || b) ≡ true → string text ≡ side (stations.side_of (if b then table.B else table.A))
    go true e k = ap string ((bytes_eq-Decides text (codes "b")).0 e)
    go false e k = ap string ((bytes_eq-Decides text (codes "a")).0 (left (bytes_eq text (codes "a")) k))
      where
        left : (a : Bool) → (a || false) ≡ true → a ≡ true
        left true h = refl
        left false h = h

pub spells_side : (v : Option Data) → is_side v ≡ true → value v ≡ side (stations.side_of (side_of v))
spells_side (Some (string text)) h = side_text text h
spells_side (Some _) h = absurd (cc)
spells_side None h = absurd (cc)

-- ---- whole numbers

-- one that counts is itself
pub kept : (z : ℤ) → 1 ≤ number_32 z → z ≡ pos (number_32 z)
kept (pos n) low = go (nat_lt n 4294967296) low
  where
    go : (b : Bool) → 1 ≤ (if b then n else 0) → pos n ≡ pos (if b then n else 0)
    go true l = refl
    go false l = absurd (omega arith)
kept (negsuc n) low = absurd (omega arith)

pub spells_exactly : (v : Option Data) → is_whole v ≡ true → whole_of v ≡ pos (number_32 (whole_of v)) → value v ≡ whole (number_32 (whole_of v))
spells_exactly (Some (integer z)) h e = ap integer e
spells_exactly (Some _) h e = absurd (cc)
spells_exactly None h e = absurd (cc)

pub spells_whole : (v : Option Data) → is_whole v ≡ true → 1 ≤ number_32 (whole_of v) → value v ≡ whole (number_32 (whole_of v))
spells_whole v h low = spells_exactly v h (kept (whole_of v) low)

spells_items : (ds : Items) → list_all (λ d. is_whole (Some d)) (list_of_items ds) ≡ true → ((z : ℤ) → In z (map (λ d. whole_of (Some d)) (list_of_items ds)) → z ≡ pos (number_32 z)) → ds ≡ items_of (map whole (map number_32 (map (λ d. whole_of (Some d)) (list_of_items ds))))
spells_items no_items h exact = refl
spells_items (item (integer z) ds) h exact = ap₂ (λ n rest. item (integer n) rest) (exact z (inl refl)) (spells_items ds h (λ n m. exact n (inr m)))
spells_items (item _ ds) h exact = absurd (cc)

pub spells_wholes : {V : Type 0} (v : Option Data) (visits : List V) → is_wholes v ≡ true → ((ns : List ℤ) → wholes_of v ≡ Some ns → (z : ℤ) → In z ns → z ≡ pos (number_32 z)) → value v ≡ list whole (dwells_in visits (wholes_of v))
spells_wholes (Some (array ds)) visits h exact = ap array (spells_items ds h (exact (map (λ d. whole_of (Some d)) (list_of_items ds)) refl))
spells_wholes (Some _) visits h exact = absurd (cc)
spells_wholes None visits h exact = absurd (cc)

-- ---- visits

-- the node of a name
abbrev pub number : List (List ℕ) → List ℕ → NodeNo
number names name = record { 0 = number_in names name }

module _ (names : List (List ℕ)) (node : NodeNo → List ℕ) where
  -- names that stand for the numbers that they have
  abbrev pub AreBack : List (List ℕ) → Type 0
  AreBack visit = (name : List ℕ) → In name visit → node (number names name) ≡ name

  spells_nodes : (ds : Items) → list_all is_name_value (list_of_items ds) ≡ true → AreBack (map name_value (list_of_items ds)) → ds ≡ items_of (map (λ n. string (node n)) (nodes_in names (map name_value (list_of_items ds))))
  spells_nodes no_items h back = refl
  spells_nodes (item (string s) ds) h back = ap₂ (λ n rest. item (string n) rest) (sym (back s (inl refl))) (spells_nodes ds (and_right (is_name_value (string s)) (list_all is_name_value (list_of_items ds)) h) (λ name m. back name (inr m)))
  spells_nodes (item _ ds) h back = absurd (cc)

  spells_visit : (d : Data) → is_visit d ≡ true → AreBack (visit_of d) → d ≡ list (λ n. string (node n)) (nodes_in names (visit_of d))
  spells_visit (array ds) h back = ap array (spells_nodes ds h back)
  spells_visit _ h back = absurd (cc)

  spells_all : (ds : Items) → list_all is_visit (list_of_items ds) ≡ true → ((visit : List (List ℕ)) → In visit (map visit_of (list_of_items ds)) → AreBack visit)
      → ds ≡ items_of (map (list (λ n. string (node n))) (map (nodes_in names) (map visit_of (list_of_items ds))))
  spells_all no_items h back = refl
  spells_all (item d ds) h back =
      ap₂ item (spells_visit d (and_left (is_visit d) (list_all is_visit (list_of_items ds)) h) (back (visit_of d) (inl refl)))
      (spells_all ds (and_right (is_visit d) (list_all is_visit (list_of_items ds)) h) (λ visit m. back visit (inr m)))

  pub spells_visits : (v : Option Data) → is_visits v ≡ true → ((visit : List (List ℕ)) → In visit (visits_of v) → AreBack visit) → value v ≡ list (list (λ n. string (node n))) (map (nodes_in names) (visits_of v))
  spells_visits (Some (array ds)) h back = ap array (spells_all ds h back)
  spells_visits (Some _) h back = absurd (cc)
  spells_visits None h back = absurd (cc)

-- ---- sections

-- the section of a name
abbrev pub section_number : List (List ℕ) → List ℕ → SectionNo
section_number names name = record { 0 = number_in names name }

module _ (names : List (List ℕ)) (section : SectionNo → List ℕ) where
  abbrev pub AreOwn : List (List ℕ) → Type 0
  AreOwn own = (name : List ℕ) → In name own → section (section_number names name) ≡ name

  spells_each : (ds : Items) → list_all is_name_value (list_of_items ds) ≡ true → AreOwn (map name_value (list_of_items ds)) → ds ≡ items_of (map (λ z. string (section z)) (sections_in names (map name_value (list_of_items ds))))
  spells_each no_items h back = refl
  spells_each (item (string s) ds) h back = ap₂ (λ z rest. item (string z) rest) (sym (back s (inl refl))) (spells_each ds (and_right (is_name_value (string s)) (list_all is_name_value (list_of_items ds)) h) (λ name m. back name (inr m)))
  spells_each (item _ ds) h back = absurd (cc)

  pub spells_names : (v : Option Data) → is_names v ≡ true → AreOwn (names_of v) → value v ≡ list (λ z. string (section z)) (sections_in names (names_of v))
  spells_names (Some (array ds)) h back = ap array (spells_each ds h back)
  spells_names (Some _) h back = absurd (cc)
  spells_names None h back = absurd (cc)
