-- How many rivals and pairs there are.
use Rattle.std.proofs.Common.{◌≡◌, ℕ, zero, suc, ◌+◌, ◌-◌, ◌*◌, ◌≤◌, ◌<◌, ◌⊎◌, inl, inr, Bool, true, false, ◌==◌, if◌then◌else◌, List, [], ◌∷◌, ◌++◌, take, get_or, length, refl, sym, ap, subst, ◌∙◌, arith, length-append}
use Rattle.std.proofs.Math.Nat.{suc-mul}
use Rattle.rail_base.specs.declared.route.RouteNo.{RouteNo}
use Rattle.rail_base.specs.declared.plan.Command.{Command}
use Rattle.rail_base.proofs.Lists.{length-map}
use Rattle.rail_base.proofs.Members.{below_or_not}
use Rattle.command_set.specs.Blocks.{member_count}
use Rattle.command_set.specs.Commands.{commands_in}
use Rattle.command_set.proofs.Blocks.{counted_few, counted_more, length_blocks}
use Rattle.live_contending.specs.Pairs.{AreStarts, pairs_by_rows, pairs_from, rivals, rivals_of_train}

module _ (row : ℕ → RouteNo → List RouteNo) (short : (t : ℕ) (r : RouteNo) → length (row t r) ≤ 2000) where
  pub few_of_train : (e : Command) (t : ℕ) → length (rivals_of_train row e t) ≤ 2000
  few_of_train e t = go (e.train.0 == t)
    where
      go : (b : Bool) → length (if b then [] else commands_in t (row t e.route)) ≤ 2000
      go true = omega arith
      go false = subst (λ n. n ≤ 2000) (sym (length-map (λ (r : RouteNo). record { train = record { 0 = t }; route = r }) (row t e.route))) (short t e.route)

  pub few_rivals : (e : Command) (n : ℕ) → member_count (rivals_of_train row e) 1 n ≤ n * 2000
  few_rivals e n = counted_few (rivals_of_train row e) 2000 1 n (few_of_train e)

  module _ (trains : ℕ) where
    pub length_from : (e : Command) → length (pairs_from trains row e) ≡ member_count (rivals_of_train row e) 1 trains
    length_from e = length-map (λ (c : Command). (e, c)) (rivals trains row e) ∙ length_blocks (rivals_of_train row e) 1 trains

    pub few_pairs : trains ≤ 128 → (cs : List Command) → length (pairs_by_rows trains row cs) ≤ length cs * 256000
    few_pairs h [] = omega arith
    few_pairs h (e ∷ cs) =
        let rest = few_pairs h cs in
        let both = length-append (pairs_from trains row e) (pairs_by_rows trains row cs) in
        let own = length_from e in
        let few = few_rivals e trains in
        let s = suc-mul (length cs) 256000 in
        omega arith

    -- one command more
    pub pairs_more : (cs : List Command) (i : ℕ) (other : Command) → i < length cs
        → length (pairs_by_rows trains row (take (i + 1) cs)) ≡ length (pairs_by_rows trains row (take i cs)) + member_count (rivals_of_train row (get_or cs i other)) 1 trains
    pairs_more cs i other low = ap (λ k. length (pairs_by_rows trains row (take k cs))) (next i) ∙ (go cs i low ∙ ap (λ m. length (pairs_by_rows trains row (take i cs)) + m) (length_from (get_or cs i other)))
      where
        next : (n : ℕ) → n + 1 ≡ suc n
        next n = omega arith

        go : (xs : List Command) (j : ℕ) → j < length xs → length (pairs_by_rows trains row (take (suc j) xs)) ≡ length (pairs_by_rows trains row (take j xs)) + length (pairs_from trains row (get_or xs j other))
        go [] j l = absurd (omega arith)
        go (x ∷ xs) zero l =
            let both = length-append (pairs_from trains row x) [] in
            omega arith
        go (x ∷ xs) (suc j) l =
            let rest = go xs j (omega arith) in
            let one = length-append (pairs_from trains row x) (pairs_by_rows trains row (take (suc j) xs)) in
            let two = length-append (pairs_from trains row x) (pairs_by_rows trains row (take j xs)) in
            omega arith

-- the start that is read
pub start_is : (trains : ℕ) (row : ℕ → RouteNo → List RouteNo) (cs : List Command) (starts : List ℕ) → AreStarts trains row cs starts → (k x : ℕ) → k < length cs → x ≡ get_or starts k x → x ≡ length (pairs_by_rows trains row (take k cs))
start_is trains row cs starts are k x low is = is ∙ (any_other starts k (let e = are.each in omega arith) ∙ are.before k (omega arith))
  where
    any_other : (xs : List ℕ) (j : ℕ) → j < length xs → get_or xs j x ≡ get_or xs j 0
    any_other [] j h = absurd (omega arith)
    any_other (y ∷ ys) zero h = refl
    any_other (y ∷ ys) (suc j) h = any_other ys j (omega arith)

pub take_short : {X : Type 0} (k : ℕ) (xs : List X) → k ≤ length xs → length (take k xs) ≡ k
take_short zero [] h = refl
take_short zero (x ∷ xs) h = refl
take_short (suc k) [] h = absurd (omega arith)
take_short (suc k) (x ∷ xs) h = ap suc (take_short k xs (omega arith))

pub take_whole : {X : Type 0} (xs : List X) → take (length xs) xs ≡ xs
take_whole [] = refl
take_whole (x ∷ xs) = ap (λ ys. x ∷ ys) (take_whole xs)

-- one sum more
pub pushed : (f : ℕ → ℕ) (old new : List ℕ) (n sum : ℕ) → new ≡ old ++ sum ∷ [] → length old ≡ n → sum ≡ f n → ((k : ℕ) → k < n → get_or old k 0 ≡ f k) → (length new ≡ n + 1) × ((k : ℕ) → k < n + 1 → get_or new k 0 ≡ f k)
pushed f old new n sum e long is each = (ap length e ∙ (more old ∙ ap (λ m. m + 1) long), λ k l. ap (λ xs. get_or xs k 0) e ∙ at k (below_or_not k n) l)
  where
    more : (xs : List ℕ) → length (xs ++ sum ∷ []) ≡ length xs + 1
    more [] = omega arith
    more (x ∷ xs) = let h = more xs in omega arith

    first : (xs : List ℕ) (k : ℕ) → k < length xs → get_or (xs ++ sum ∷ []) k 0 ≡ get_or xs k 0
    first [] k l = absurd (omega arith)
    first (x ∷ xs) zero l = refl
    first (x ∷ xs) (suc k) l = first xs k (omega arith)

    last : (xs : List ℕ) → get_or (xs ++ sum ∷ []) (length xs) 0 ≡ sum
    last [] = refl
    last (x ∷ xs) = last xs

    at : (k : ℕ) → (k < n) ⊎ (n ≤ k) → k < n + 1 → get_or (old ++ sum ∷ []) k 0 ≡ f k
    at k (inl b) l = first old k (omega arith) ∙ each k b
    at k (inr b) l =
        let same : length old ≡ k = omega arith in
        ap (λ m. get_or (old ++ sum ∷ []) m 0) (sym same) ∙ (last old ∙ (is ∙ ap f (omega arith)))

-- one list more, where the numbers go from 1 on
pub next_count : {X : Type 0} (f : ℕ → List X) (n : ℕ) → 1 ≤ n → member_count f 1 (n + 1 - 1) ≡ member_count f 1 (n - 1) + length (f n)
next_count f n low = ap (member_count f 1) (again n low) ∙ (counted_more f 1 (n - 1) ∙ ap (λ k. member_count f 1 (n - 1) + length (f k)) (back n low))
  where
    again : (n : ℕ) → 1 ≤ n → n + 1 - 1 ≡ n - 1 + 1
    again n low = omega arith

    back : (n : ℕ) → 1 ≤ n → 1 + (n - 1) ≡ n
    back n low = omega arith
