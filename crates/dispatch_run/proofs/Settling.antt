-- A list whose members are marked from what is reached back to what was marked earlier.
use Rattle.std.proofs.Common.{◌≡◌, ℕ, suc, ◌+◌, ◌-◌, ◌≤◌, ◌<◌, ◌⊎◌, inl, inr, ◌==◌, Bool, true, false, List, [], ◌∷◌, map, length, get_or, set, slice_get, Option, None, Some, refl, sym, ap, ◌∙◌, subst, arith, is_some, eqb-true, eq-eqb, if◌then◌else◌, nat_lt, ltb-true}
use Rattle.std.specs.List.{AllWithin, Contains, zip}
use Rattle.std.proofs.lemmas.List.{ext_get_or, get_or_default, get_or-map, get_or-set_other, length-set}
use Rattle.std.proofs.lemmas.Grind.{get_or-set_at}
use Rattle.std.proofs.lemmas.Option.{slice_get_within, get_or_from_slice_get}
use Rattle.std.proofs.lemmas.Slice.Zip.{get_or-zip}
use Rattle.rail_base.specs.Members.{In}
use Rattle.rail_base.proofs.Contained.{contains_of_in, in_at}
use Rattle.rail_base.proofs.Lists.{length-map}
use Rattle.rail_base.proofs.Members.{below_or_not, list_any_gives}
use Rattle.rail_course.specs.declared.milestones.Milestone.{Milestone}
use Rattle.rail_course.specs.Milestones.{AreMilestones}
use Rattle.dispatch_run.specs.Settled.{settled_by}

pub same_or_not : (i j : ℕ) → (i ≡ j) ⊎ (i ≡ j → ⊥)
same_or_not i j = go (i == j) refl
  where
    go : (b : Bool) → (i == j) ≡ b → (i ≡ j) ⊎ (i ≡ j → ⊥)
    go true e = inl (eqb-true i j e)
    go false e = inr (λ same. let t = eq-eqb i j same in cc)

length-zip : {X Y : Type 0} (xs : List X) (ys : List Y) → length xs ≡ length ys → length (zip xs ys) ≡ length ys
length-zip [] [] e = refl
length-zip [] (y ∷ ys) e = absurd (omega arith)
length-zip (x ∷ xs) [] e = absurd (omega arith)
length-zip (x ∷ xs) (y ∷ ys) e = ap suc (length-zip xs ys (omega arith))

module _ {X Y : Type 0} (make : X → Y → Y) (place : X → ℕ) (mark : Y → Option ℕ) (xs : List X) (old : List Y) (dx : X) (dy : Y) (ms : List Milestone) where
  abbrev none : Milestone
  none = record { place = 0; index = 0 }

  abbrev index_at : ℕ → ℕ
  index_at p = (get_or ms p none).index

  abbrev made : ℕ → Y
  made i = make (get_or xs i dx) (get_or old i dy)

  -- what is so of a list before it is marked, at a tick and by a train that is here
  pub record MayBeMarked (tick x : ℕ) : Type 0 where
    pub as_many : length xs ≡ length old
    pub are : AreMilestones (map place xs) ms
    pub twice : (i : ℕ) → i < length xs → make (get_or xs i dx) (made i) ≡ made i
    pub kept : (i : ℕ) → i < length xs → is_some (mark (get_or old i dy)) ≡ true → made i ≡ get_or old i dy
    pub ahead : (i : ℕ) → i < length xs → x < place (get_or xs i dx) → made i ≡ get_or old i dy
    pub earlier : (i k : ℕ) → i < length xs → mark (made i) ≡ Some k → k < tick → is_some (mark (get_or old i dy)) ≡ true
    pub in_turn : (i j : ℕ) → i < length xs → j < length xs → place (get_or xs i dx) < place (get_or xs j dx)
        → is_some (mark (get_or old j dy)) ≡ true → is_some (mark (get_or old i dy)) ≡ true

  -- it is marked from a milestone on, and all before a place was marked earlier
  pub record IsMarkedFrom (left settled : ℕ) (now : List Y) : Type 0 where
    pub count : length now ≡ length old
    pub each : (i : ℕ) → i < length xs → (get_or now i dy ≡ get_or old i dy) ⊎ (get_or now i dy ≡ made i)
    pub done : (p : ℕ) → left ≤ p → p < length ms → get_or now (index_at p) dy ≡ made (index_at p)
    pub behind : (i : ℕ) → i < length xs → place (get_or xs i dx) < settled → is_some (mark (get_or old i dy)) ≡ true

  module _ (tick x : ℕ) (f : MayBeMarked tick x) where
    known : (p : ℕ) → p < length ms → slice_get (map place xs) (index_at p) ≡ Some (get_or ms p none).place
    known p l = f.are.known (get_or ms p none) (in_at ms p none l)

    pub index_in : (p : ℕ) → p < length ms → index_at p < length xs
    index_in p l = let w = slice_get_within (map place xs) (index_at p) (get_or ms p none).place (known p l) in let n = length-map place xs in omega arith

    place_is : (p : ℕ) → p < length ms → place (get_or xs (index_at p) dx) ≡ (get_or ms p none).place
    place_is p l = sym (get_or-map place xs (index_at p) dx 0 (index_in p l)) ∙ get_or_from_slice_get (map place xs) (index_at p) (get_or ms p none).place 0 (known p l)

    -- nothing is marked yet
    pub begins : (left : ℕ) → AllWithin (λ (m : Milestone). x < m.place) ms left (length ms) → IsMarkedFrom left 0 old
    begins left past = record {
      count = refl;
      each = λ i l. inl refl;
      done = λ p low high. sym (f.ahead (index_at p) (index_in p high) (let a = past p none low high in let b = place_is p high in omega arith));
      behind = λ i l h. absurd (omega arith);
    }

    -- one more is marked
    pub goes_on : (left settled : ℕ) (now : List Y) → IsMarkedFrom left settled now → (p : ℕ) → left ≡ p + 1 → left ≤ length ms → (value : Y) → value ≡ make (get_or xs (index_at p) dx) (get_or now (index_at p) dy)
        → (next : ℕ) → next ≡ settled_by (mark value) tick (get_or ms p none).place settled → IsMarkedFrom p next (set now (index_at p) value)
    goes_on left settled now g p one within value is next so =
        let idx = index_at p in
        let l : idx < length xs = index_in p (omega arith) in
        let in_now : idx < length now = (let a = g.count in let b = f.as_many in omega arith) in
        let value_made : value ≡ made idx = is ∙ one_of idx l (g.each idx l) in
        record {
          count = length-set now idx value ∙ g.count;
          each = λ i k. each_one idx value value_made in_now i k (same_or_not i idx) (g.each i k);
          done = λ q low high. done_one idx value value_made in_now q high (same_or_not (index_at q) idx) (λ other. g.done q (above q low other) high);
          behind = subst (λ n. (i : ℕ) → i < length xs → place (get_or xs i dx) < n → is_some (mark (get_or old i dy)) ≡ true) (sym so)
              (settles (mark value) (λ k e. f.earlier idx k l (ap mark (sym value_made) ∙ e)) l);
        }
      where
        one_of : (i : ℕ) → i < length xs → (get_or now i dy ≡ get_or old i dy) ⊎ (get_or now i dy ≡ made i) → make (get_or xs i dx) (get_or now i dy) ≡ made i
        one_of i l (inl e) = ap (make (get_or xs i dx)) e
        one_of i l (inr e) = ap (make (get_or xs i dx)) e ∙ f.twice i l

        each_one : (idx : ℕ) (value : Y) → value ≡ made idx → idx < length now → (i : ℕ) → i < length xs → (i ≡ idx) ⊎ (i ≡ idx → ⊥)
            → (get_or now i dy ≡ get_or old i dy) ⊎ (get_or now i dy ≡ made i) → (get_or (set now idx value) i dy ≡ get_or old i dy) ⊎ (get_or (set now idx value) i dy ≡ made i)
        each_one idx value made_so in_now i k (inl same) before = inr (get_or-set_at now idx i value dy same in_now ∙ made_so ∙ ap made (sym same))
        each_one idx value made_so in_now i k (inr other) (inl e) = inl (get_or-set_other now idx i value dy other ∙ e)
        each_one idx value made_so in_now i k (inr other) (inr e) = inr (get_or-set_other now idx i value dy other ∙ e)

        done_one : (idx : ℕ) (value : Y) → value ≡ made idx → idx < length now → (q : ℕ) → q < length ms → (index_at q ≡ idx) ⊎ (index_at q ≡ idx → ⊥)
            → ((index_at q ≡ idx → ⊥) → get_or now (index_at q) dy ≡ made (index_at q)) → get_or (set now idx value) (index_at q) dy ≡ made (index_at q)
        done_one idx value made_so in_now q high (inl same) later = get_or-set_at now idx (index_at q) value dy same in_now ∙ made_so ∙ ap made (sym same)
        done_one idx value made_so in_now q high (inr other) later = get_or-set_other now idx (index_at q) value dy other ∙ later other

        above : (q : ℕ) → p ≤ q → (index_at q ≡ index_at p → ⊥) → left ≤ q
        above q low other = go (same_or_not q p)
          where
            go : (q ≡ p) ⊎ (q ≡ p → ⊥) → left ≤ q
            go (inl same) = absurd (other (ap index_at same))
            go (inr differ) = grind (arith, differ)

        settles : (o : Option ℕ) → ((k : ℕ) → o ≡ Some k → k < tick → is_some (mark (get_or old (index_at p) dy)) ≡ true) → index_at p < length xs
            → (i : ℕ) → i < length xs → place (get_or xs i dx) < settled_by o tick (get_or ms p none).place settled → is_some (mark (get_or old i dy)) ≡ true
        settles None had l i k h = g.behind i k h
        settles (Some n) had l i k h = go (nat_lt n tick) refl h
          where
            go : (b : Bool) → nat_lt n tick ≡ b → place (get_or xs i dx) < (if b then (get_or ms p none).place else settled) → is_some (mark (get_or old i dy)) ≡ true
            go true e less = f.in_turn i (index_at p) k l (let s = place_is p (omega arith) in omega arith) (had n refl (ltb-true n tick e))
            go false e less = g.behind i k less

    -- all is marked
    pub ends : (left settled : ℕ) (now : List Y) → IsMarkedFrom left settled now → left ≤ length ms → (1 ≤ left → (get_or ms (left - 1) none).place < settled) → now ≡ map (λ p. make p.0 p.1) (zip xs old)
    ends left settled now g within stop = ext_get_or dy now (map (λ p. make p.0 p.1) (zip xs old)) lengths
        (λ i l. let k : i < length xs = (let a = f.as_many in let b = g.count in omega arith) in
        marked i k (place_of i k) (g.each i k) ∙ sym (of_zip i k))
      where
        lengths : length now ≡ length (map (λ p. make p.0 p.1) (zip xs old))
        lengths = g.count ∙ sym (length-zip xs old f.as_many) ∙ sym (length-map (λ (p : X × Y). make p.0 p.1) (zip xs old))

        of_zip : (i : ℕ) → i < length xs → get_or (map (λ p. make p.0 p.1) (zip xs old)) i dy ≡ made i
        of_zip i k =
            let in_old : i < length old = (let a = f.as_many in omega arith) in
            let in_zip : i < length (zip xs old) = (let z = length-zip xs old f.as_many in omega arith) in
            get_or-map (λ (p : X × Y). make p.0 p.1) (zip xs old) i (dx, dy) dy in_zip ∙ ap (λ (p : X × Y). make p.0 p.1) (get_or-zip xs old i (dx, dy) k in_old)

        place_of : (i : ℕ) → i < length xs → (p : ℕ) × (p < length ms) × (index_at p ≡ i)
        place_of i k = go (list_any_gives (λ (m : Milestone). m.index == i) ms (f.are.all i (let n = length-map place xs in omega arith)))
          where
            at : (m : Milestone) → (m.index == i) ≡ true → Contains ms m → (p : ℕ) × (p < length ms) × (index_at p ≡ i)
            at m e (p, l, same) = (p, l, ap (λ (m : Milestone). m.index) (get_or_default ms p none m l ∙ same) ∙ eqb-true m.index i e)

            go : ((m : Milestone) × In m ms × ((m.index == i) ≡ true)) → (p : ℕ) × (p < length ms) × (index_at p ≡ i)
            go (m, h, e) = at m e (contains_of_in ms m h)

        marked : (i : ℕ) → i < length xs → ((p : ℕ) × (p < length ms) × (index_at p ≡ i)) → (get_or now i dy ≡ get_or old i dy) ⊎ (get_or now i dy ≡ made i) → get_or now i dy ≡ made i
        marked i k at (inr e) = e
        marked i k (p, l, same) (inl e) = go (below_or_not p left)
          where
            go : (p < left) ⊎ (left ≤ p) → get_or now i dy ≡ made i
            go (inr past) = subst (λ j. get_or now j dy ≡ made j) same (g.done p past l)
            go (inl before) =
                let stopped = stop (omega arith) in
                let rises = f.are.rising p (left - 1) none (omega arith) (omega arith) in
                let is = place_is p l in
                let here : place (get_or xs i dx) < settled = subst (λ j. place (get_or xs j dx) < settled) same (omega arith) in
                e ∙ sym (f.kept i k (g.behind i k here))
