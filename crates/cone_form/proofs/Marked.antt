-- Commands marked by the numbers of their trains and routes.
use Rattle.std.proofs.Common.{◌≡◌, ℕ, zero, suc, ◌+◌, ◌-◌, ◌≤◌, ◌<◌, ◌⊎◌, inl, inr, Bool, true, false, List, [], ◌∷◌, ◌++◌, map, get_or, length, refl, sym, ap, subst, ◌∙◌, arith}
use Rattle.std.specs.List.{list_all}
use Rattle.rail_base.specs.declared.station.Station.{Station}
use Rattle.rail_base.specs.declared.station.TrainNo.{TrainNo}
use Rattle.rail_base.specs.declared.route.Route.{Route}
use Rattle.rail_base.specs.declared.plan.Command.{Command}
use Rattle.rail_base.specs.Numbering.{entry}
use Rattle.rail_base.proofs.Members.{below_or_not}
use Rattle.cone_spec.specs.declared.Cone.{Cone}
use Rattle.cone_spec.specs.Cones.{unnamed, first_named, named, has_route, is_named}
use Rattle.cone_spec.specs.Validity.{train_in_design}
use Rattle.cone_spec.proofs.Naming.{IsNamed, named_or_not}
use Rattle.cone_form.specs.Marks.{MarksPath, MarksCone, mark_of}
use Rattle.cone_form.proofs.Ranges.{train_bounds}

-- one more row
pub row_more : (P : ℕ → List Bool → Type 0) (rows : List (List Bool)) (row : List Bool) (number : ℕ) → length rows + 1 ≡ number
    → ((t : ℕ) → 1 ≤ t → t < number → P t (entry [] rows t)) → P number row → (t : ℕ) → 1 ≤ t → t < number + 1 → P t (entry [] (rows ++ row ∷ []) t)
row_more P rows row number many before here zero low high = absurd (omega arith)
row_more P rows row number many before here (suc i) low high = go (below_or_not i (length rows))
  where
    inside : {X : Type 0} (xs : List X) (x other : X) (i : ℕ) → i < length xs → get_or (xs ++ x ∷ []) i other ≡ get_or xs i other
    inside [] x other i l = absurd (omega arith)
    inside (y ∷ ys) x other zero l = refl
    inside (y ∷ ys) x other (suc i) l = inside ys x other i (omega arith)

    last : {X : Type 0} (xs : List X) (x other : X) (i : ℕ) → i ≡ length xs → get_or (xs ++ x ∷ []) i other ≡ x
    last [] x other zero e = refl
    last [] x other (suc i) e = absurd (omega arith)
    last (y ∷ ys) x other zero e = absurd (omega arith)
    last (y ∷ ys) x other (suc i) e = last ys x other i (omega arith)

    go : (i < length rows) ⊎ (length rows ≤ i) → P (suc i) (entry [] (rows ++ row ∷ []) (suc i))
    go (inl l) = subst (P (suc i)) (sym (inside rows row [] i l)) (before (suc i) low (omega arith))
    go (inr l) =
        let number_is : number ≡ suc i = omega arith in
        subst (P (suc i)) (sym (last rows row [] i (omega arith))) (subst (λ n. P n row) number_is here)

entry_past : {X : Type 0} (other : X) (xs : List X) (n : ℕ) → length xs < n → entry other xs n ≡ other
entry_past other xs zero l = refl
entry_past other [] (suc n) l = refl
entry_past other (x ∷ xs) (suc zero) l = absurd (omega arith)
entry_past other (x ∷ xs) (suc (suc n)) l = entry_past other xs (suc n) (omega arith)

entry_none : (i : ℕ) → entry false [] i ≡ false
entry_none zero = refl
entry_none (suc i) = refl

-- a number below 1, from 1 to n, or past n
data Within (i n : ℕ) : Type 0 where
  Low : i ≡ 0 → Within i n
  In : 1 ≤ i → i ≤ n → Within i n
  High : n < i → Within i n

within : (i n : ℕ) → Within i n
within zero n = Low refl
within (suc i) n = go (below_or_not i n)
  where
    go : (i < n) ⊎ (n ≤ i) → Within (suc i) n
    go (inl l) = In (omega arith) (omega arith)
    go (inr l) = High (omega arith)

-- rows of all trains of the design mark the cone, which names no other
pub rows_mark : (d : Station) (routes : List Route) (k : Cone) (rows : List (List Bool)) → list_all (train_in_design d routes k) k.trains ≡ true → length rows ≡ length d.trains
    → ((t : ℕ) → 1 ≤ t → t < length rows + 1 → MarksPath (named k (record { 0 = t })).path (entry [] rows t)) → MarksCone k rows
rows_mark d routes k rows h many marked c = go (within c.train.0 (length rows))
  where
    other : (c.train.0 ≡ 0) ⊎ (length d.trains < c.train.0) → false ≡ is_named k c
    other outside = at (named_or_not k.trains c.train)
      where
        at : IsNamed k.trains c.train ⊎ (first_named c.train k.trains ≡ unnamed c.train) → false ≡ is_named k c
        at (inl i) =
            let b = train_bounds d routes k h (named k c.train) i.member in
            let t : (named k c.train).train.0 ≡ c.train.0 = ap (λ (t : TrainNo). t.0) i.train in
            absurd (no b t outside)
          where
            no : (1 ≤ (named k c.train).train.0) × ((named k c.train).train.0 ≤ length d.trains) → (named k c.train).train.0 ≡ c.train.0 → (c.train.0 ≡ 0) ⊎ (length d.trains < c.train.0) → ⊥
            no (a, b) e (inl z) = absurd (omega arith)
            no (a, b) e (inr z) = absurd (omega arith)
        at (inr e) = sym (ap (λ x. has_route x.path c.route) e)

    go : Within c.train.0 (length rows) → mark_of rows c ≡ is_named k c
    go (Low e) = ap (λ n. entry false (entry [] rows n) c.route.0) e ∙ (entry_none c.route.0 ∙ other (inl e))
    go (In l m) = marked c.train.0 l (omega arith) c.route
    go (High l) = ap (λ row. entry false row c.route.0) (entry_past [] rows c.train.0 l) ∙ (entry_none c.route.0 ∙ other (inr (omega arith)))

-- ---- the mark of a command

pub row_past : (rows : List (List Bool)) (c : Command) → (c.train.0 ≡ 0) ⊎ (length rows < c.train.0) → false ≡ mark_of rows c
row_past rows c (inl e) = sym (ap (λ n. entry false (entry [] rows n) c.route.0) e ∙ entry_none c.route.0)
row_past rows c (inr l) = sym (ap (λ row. entry false row c.route.0) (entry_past [] rows c.train.0 l) ∙ entry_none c.route.0)

pub row_at : {X : Type 0} (f : X → List Bool) (rows : List X) (n : ℕ) (other : X) → 1 ≤ n → n ≤ length rows → f (get_or rows (n - 1) other) ≡ entry [] (map f rows) n
row_at f rows zero other l m = absurd (omega arith)
row_at {X} f rows (suc i) other l m = ap (λ j. f (get_or rows j other)) (minus i) ∙ at rows i (omega arith)
  where
    minus : (i : ℕ) → suc i - 1 ≡ i
    minus i = omega arith

    at : (rows : List X) (i : ℕ) → i < length rows → f (get_or rows i other) ≡ get_or (map f rows) i []
    at [] i m = absurd (omega arith)
    at (x ∷ xs) zero m = refl
    at (x ∷ xs) (suc i) m = at xs i (omega arith)
