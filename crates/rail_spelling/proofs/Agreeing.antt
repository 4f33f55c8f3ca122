-- What two designs share that one table spells.
use Prim.Native.String.{String}
use Rattle.std.specs.Prelude.{codes, unwrap_or}
use Rattle.std.proofs.Common.{◌≡◌, ℕ, ◌<◌, Bool, true, false, nat_le, if◌then◌else◌, inl, inr, List, [], ◌∷◌, map, refl, sym, ap, ap₂, ◌∙◌, subst, arith}
use Rattle.toml.specs.Data.{Data, string, boolean, array, table, no_items, item, Members, get_member}
use Rattle.toml.specs.View.{items_of}
use Rattle.rail_base.specs.declared.station.Side.{Side}
use Rattle.rail_base.specs.declared.station.Train.{Train}
use Rattle.rail_base.specs.declared.station.Side.TheVariants.{A, B}
use Rattle.rail_base.specs.Members.{In}
use Rattle.rail_spelling.specs.Designs.{whole, side, list, dwell_rows, Row, HasRows, AreTables, HasTables}

-- ---- values

pub one_text : (a b : List ℕ) → string a ≡ string b → a ≡ b
one_text a b e = cc

pub one_flag : (a b : Bool) → boolean a ≡ boolean b → a ≡ b
one_flag a b e = cc

pub one_whole : (a b : ℕ) → whole a ≡ whole b → a ≡ b
one_whole a b e = cc

abbrev first_byte : Data → ℕ
first_byte (string (byte ∷ bytes)) = byte
first_byte _ = 0

pub one_side : (a b : Side) → side a ≡ side b → a ≡ b
one_side A A e = refl
one_side B B e = refl
one_side A B e = let same : first_byte (side A) ≡ first_byte (side B) = ap first_byte e in absurd (omega arith)
one_side B A e = let same : first_byte (side B) ≡ first_byte (side A) = ap first_byte e in absurd (omega arith)

-- ---- arrays

module _ {X : Type 0} (f g : X → Data) where
  one_items : (xs ys : List X) → ((x y : X) → In x xs → f x ≡ g y → x ≡ y) → items_of (map f xs) ≡ items_of (map g ys) → xs ≡ ys
  one_items [] [] one e = refl
  one_items [] (y ∷ ys) one e = absurd (cc)
  one_items (x ∷ xs) [] one e = absurd (cc)
  one_items (x ∷ xs) (y ∷ ys) one e =
      let first : f x ≡ g y = cc in
      let rest : items_of (map f xs) ≡ items_of (map g ys) = cc in
      ap₂ (λ z zs. z ∷ zs) (one x y (inl refl) first) (one_items xs ys (λ z w m. one z w (inr m)) rest)

  pub one_list : (xs ys : List X) → ((x y : X) → In x xs → f x ≡ g y → x ≡ y) → list f xs ≡ list g ys → xs ≡ ys
  one_list xs ys one e =
      let items : items_of (map f xs) ≡ items_of (map g ys) = cc in
      one_items xs ys one items

-- ---- tables

module _ {X : Type 0} (rows more : X → List Row) where
  -- what f makes of entries and g of others is the same where it is so of each two that one table spells
  agreeing : {Y : Type 0} (f g : X → Y) (xs ys : List X) (tables : Data)
      → ((keys : Members) (x y : X) → In x xs → In y ys → HasRows keys (rows x) → HasRows keys (more y) → f x ≡ g y) → AreTables xs rows tables → AreTables ys more tables → map f xs ≡ map g ys
  agreeing f g [] [] tables one a b = refl
  agreeing f g [] (y ∷ ys) (array no_items) one a b = absurd b
  agreeing f g [] (y ∷ ys) _ one a b = absurd a
  agreeing f g (x ∷ xs) [] (array (item (table keys) tables)) one a b = absurd b
  agreeing f g (x ∷ xs) [] _ one a b = absurd a
  agreeing f g (x ∷ xs) (y ∷ ys) (array (item (table keys) tables)) one a b =
      ap₂ (λ z zs. z ∷ zs) (one keys x y (inl refl) (inl refl) a.0 b.0) (agreeing f g xs ys (array tables) (λ keys z w m k. one keys z w (inr m) (inr k)) a.1 b.1)
  agreeing f g (x ∷ xs) (y ∷ ys) _ one a b = absurd a

  -- the same of the arrays at a key of two tables that are one
  module _ (first second : Members) (key : String) (xs ys : List X) (same : first ≡ second) where
    pub one_made : {Y : Type 0} (f g : X → Y) → ((keys : Members) (x y : X) → In x xs → In y ys → HasRows keys (rows x) → HasRows keys (more y) → f x ≡ g y)
        → HasTables first key xs rows → HasTables second key ys more → map f xs ≡ map g ys
    one_made f g one a b = agreeing f g xs ys (unwrap_or (get_member (codes key) second) (array no_items)) one (subst (λ keys. HasTables keys key xs rows) same a) b

    pub one_array : ((keys : Members) (x y : X) → In x xs → In y ys → HasRows keys (rows x) → HasRows keys (more y) → x ≡ y)
        → HasTables first key xs rows → HasTables second key ys more → xs ≡ ys
    one_array one a b = sym (itself xs) ∙ one_made (λ x. x) (λ x. x) one a b ∙ itself ys
      where
        itself : (xs : List X) → map (λ x. x) xs ≡ xs
        itself [] = refl
        itself (x ∷ xs) = ap (λ ys. x ∷ ys) (itself xs)

-- ---- trains

-- how long two trains stand that one table spells
pub one_dwells : (version : ℕ) (keys : Members) (x y : Train) → HasRows keys (dwell_rows version x) → HasRows keys (dwell_rows version y)
    → (version < 3 → x.dwell_ms ≡ map (λ visit. 0) x.visits) → (version < 3 → y.dwell_ms ≡ map (λ visit. 0) y.visits) → x.visits ≡ y.visits → x.dwell_ms ≡ y.dwell_ms
one_dwells version keys x y p q before other visits = go (nat_le 3 version) refl p q
  where
    go : (b : Bool) → nat_le 3 version ≡ b → HasRows keys (if b then ("dwell_ms", list whole x.dwell_ms) ∷ [] else []) → HasRows keys (if b then ("dwell_ms", list whole y.dwell_ms) ∷ [] else []) → x.dwell_ms ≡ y.dwell_ms
    go true e p q = one_list whole whole x.dwell_ms y.dwell_ms (λ n m k is. one_whole n m is) (sym p.0 ∙ q.0)
    go false e p q =
        let low : version < 3 = grind arith in
        before low ∙ ap (λ visits. map (λ visit. 0) visits) visits ∙ sym (other low)
