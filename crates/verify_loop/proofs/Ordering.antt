-- What orders say, order after order and pair after pair.
use Rattle.std.proofs.Common.{◌≡◌, ℕ, zero, suc, ◌+◌, ◌-◌, ◌<◌, ◌≤◌, Bool, true, false, not, ◌&&◌, is_ok, cond, List, [], ◌∷◌, ◌++◌, map, filter, flat_map, length, take, drop, get_or, refl, sym, ap, ap₂, subst, ◌∙◌, arith, append_assoc, append-nil, true≢false}
use Rattle.std.specs.List.{list_any}
use Rattle.std.proofs.lemmas.List.{map-append, take_more, drop_more}
use Rattle.std.proofs.lemmas.List.Concat.{flat_map-append}
use Rattle.bound_spec.specs.declared.Evidence.{Evidence}
use Rattle.bound_spec.specs.declared.Evidence.TheVariants as evidence
use Rattle.clause_spec.specs.declared.question.BaseKind.{BaseKind}
use Rattle.clause_spec.specs.declared.question.BaseKind.TheVariants.{Live}
use Rattle.clause_spec.specs.declared.question.Turns.{Turns}
use Rattle.live_clause_spec.specs.Live.{is_live}
use Rattle.live_clause_spec.specs.Variables.{live_pairs}
use Rattle.order_bounds.specs.Orders.{bound_by, makes_both, orders_first, said_by, said_of, says, says_first}
use Rattle.proof_judge.specs.Judged.{refuted}
use Rattle.rail_base.specs.declared.plan.Command.{Command}
use Rattle.rail_base.specs.declared.station.Station.{Station}
use Rattle.rail_base.specs.Numbering.{count_from, one_to}
use Rattle.rail_base.proofs.Members.{and_left, false_unless, filter-append}
use Rattle.rail_spec.specs.Track.{routes_of}

-- ---- lists

-- those of a list that pass one test pass another that it asks too
filter_inner : {X : Type 0} (f g : X → Bool) (xs : List X) → ((x : X) → f x ≡ true → g x ≡ true) → filter f (filter g xs) ≡ filter f xs
filter_inner f g [] asks = refl
filter_inner f g (x ∷ xs) asks = go (g x) refl (filter_inner f g xs asks)
  where
    go : (b : Bool) → g x ≡ b → filter f (filter g xs) ≡ filter f xs → filter f (cond b (x ∷ filter g xs) (filter g xs)) ≡ cond (f x) (x ∷ filter f xs) (filter f xs)
    go true e rest = ap (λ ys. cond (f x) (x ∷ ys) ys) rest
    go false e rest = rest ∙ sym (ap (λ c. cond c (x ∷ filter f xs) (filter f xs)) (false_unless (f x) (λ h. true≢false (sym (asks x h) ∙ e))))

split_at : {X : Type 0} (xs : List X) (k : ℕ) → xs ≡ take k xs ++ drop k xs
split_at [] zero = refl
split_at [] (suc k) = refl
split_at (x ∷ xs) zero = refl
split_at (x ∷ xs) (suc k) = ap (λ ys. x ∷ ys) (split_at xs k)

count_split : (a m k : ℕ) → count_from a (m + k) ≡ count_from a m ++ count_from (a + m) k
count_split a zero k = ap₂ count_from (let same : a ≡ a + 0 = omega arith in same) (let same : 0 + k ≡ k = omega arith in same)
count_split a (suc m) k = ap (count_from a) (let same : suc m + k ≡ suc (m + k) = omega arith in same) ∙ ap (λ xs. a ∷ xs) (count_split (a + 1) m k ∙ ap (λ x. count_from (a + 1) m ++ count_from x k) (let same : a + 1 + m ≡ a + suc m = omega arith in same))

-- the numbers up to one, it, and those behind it
numbers_split : (o many : ℕ) → 1 ≤ o → o ≤ many → one_to many ≡ one_to (o - 1) ++ (o ∷ count_from (o + 1) (many - o))
numbers_split zero many some most = absurd (omega arith)
numbers_split (suc k) many some most =
    ap (count_from 1) (let same : many ≡ k + suc (many - suc k) = omega arith in same)
    ∙ (count_split 1 k (suc (many - suc k))
    ∙ ap₂ (λ i j. count_from 1 i ++ (j ∷ count_from (j + 1) (many - suc k))) (let same : k ≡ suc k - 1 = omega arith in same) (let same : 1 + k ≡ suc k = omega arith in same))

module _ (kind : BaseKind) (d : Station) (n : ℕ) where
  abbrev bound : ℕ → Command × Command → Evidence
  bound o p = evidence.Bound (bound_by o p)

  abbrev pairs : List (Command × Command)
  pairs = live_pairs (is_live d (routes_of d)) d (routes_of d)

  -- ---- one order

  said_append : (o : ℕ) (xs ys : List (Command × Command)) → said_of kind d n o (xs ++ ys) ≡ said_of kind d n o xs ++ said_of kind d n o ys
  said_append o xs ys = ap (map (bound o)) (filter-append (says_first kind d n o) xs ys) ∙ map-append (bound o) (filter (says_first kind d n o) xs) (filter (says_first kind d n o) ys)

  said_none : (o : ℕ) (p : Command × Command) → says_first kind d n o p ≡ false → said_of kind d n o (p ∷ []) ≡ []
  said_none o p e = ap (λ b. map (bound o) (cond b (p ∷ []) [])) e

  said_some : (o : ℕ) (p : Command × Command) → says_first kind d n o p ≡ true → said_of kind d n o (p ∷ []) ≡ bound o p ∷ []
  said_some o p e = ap (λ b. map (bound o) (cond b (p ∷ []) [])) e

  module _ (o : ℕ) (ps : List (Command × Command)) (k : ℕ) (p : Command × Command) (less : k < length ps) (at : p ≡ get_or ps k p) where
    next_pair : take (k + 1) ps ≡ take k ps ++ (p ∷ [])
    next_pair = take_more ps k p less ∙ ap (λ (x : Command × Command). take k ps ++ (x ∷ [])) (sym at)

    pub said_without : says_first kind d n o p ≡ false → said_of kind d n o (take (k + 1) ps) ≡ said_of kind d n o (take k ps)
    said_without e =
        ap (said_of kind d n o) next_pair ∙ (said_append o (take k ps) (p ∷ [])
        ∙ (ap (λ zs. said_of kind d n o (take k ps) ++ zs) (said_none o p e) ∙ append-nil (said_of kind d n o (take k ps))))

    pub said_with : says_first kind d n o p ≡ true → said_of kind d n o (take (k + 1) ps) ≡ said_of kind d n o (take k ps) ++ (bound o p ∷ [])
    said_with e =
        ap (said_of kind d n o) next_pair ∙ (said_append o (take k ps) (p ∷ []) ∙ ap (λ zs. said_of kind d n o (take k ps) ++ zs) (said_some o p e))

    -- and those behind it
    said_split : says_first kind d n o p ≡ true → said_of kind d n o ps ≡ said_of kind d n o (take k ps) ++ (bound o p ∷ said_of kind d n o (drop (k + 1) ps))
    said_split e =
        ap (said_of kind d n o) (split_at ps k ∙ ap (λ zs. take k ps ++ zs) (drop_more ps k p less ∙ ap (λ (x : Command × Command). x ∷ drop (k + 1) ps) (sym at)))
        ∙ (said_append o (take k ps) (p ∷ drop (k + 1) ps)
        ∙ ap (λ zs. said_of kind d n o (take k ps) ++ zs) (said_append o (p ∷ []) (drop (k + 1) ps) ∙ ap (λ zs. zs ++ said_of kind d n o (drop (k + 1) ps)) (said_some o p e)))

  -- an order says nothing of pairs with which its visits can't be made
  pub said_whole : (o : ℕ) (ps : List (Command × Command)) → ps ≡ filter (makes_both d (routes_of d) o) pairs → said_of kind d n o ps ≡ said_by kind d n o
  said_whole o ps is =
      ap (said_of kind d n o) is
      ∙ ap (map (bound o)) (filter_inner (says_first kind d n o) (makes_both d (routes_of d) o) pairs (λ p h.
      and_left (makes_both d (routes_of d) o p) (is_ok (refuted kind d n (bound o p))) (and_left (says kind d n o p) (not (list_any (λ q. says kind d n q p) (one_to (o - 1)))) h)))

  -- ---- all orders

  pub said_next : (o : ℕ) → 1 ≤ o → flat_map (said_by kind d n) (one_to (o + 1 - 1)) ≡ flat_map (said_by kind d n) (one_to (o - 1)) ++ said_by kind d n o
  said_next o some =
      ap (λ k. flat_map (said_by kind d n) (one_to k)) (let same : o + 1 - 1 ≡ o = omega arith in same)
      ∙ (ap (flat_map (said_by kind d n)) (numbers_split o o some (omega arith) ∙ ap (λ k. one_to (o - 1) ++ (o ∷ count_from (o + 1) k)) (let none : o - o ≡ 0 = omega arith in none))
      ∙ (flat_map-append (said_by kind d n) (one_to (o - 1)) (o ∷ []) ∙ ap (λ zs. flat_map (said_by kind d n) (one_to (o - 1)) ++ zs) (append-nil (said_by kind d n o))))

  -- what comes behind a bound by an order
  module _ (o : ℕ) (some : 1 ≤ o) (most : o ≤ length d.orders) (ps : List (Command × Command)) (is : ps ≡ filter (makes_both d (routes_of d) o) pairs) (k : ℕ) (p : Command × Command) (less : k < length ps) (at : p ≡ get_or ps k p) where
    abbrev pub behind : List Evidence
    behind = said_of kind d n o (drop (k + 1) ps) ++ flat_map (said_by kind d n) (count_from (o + 1) (length d.orders - o))

    pub all_split : says_first kind d n o p ≡ true → flat_map (said_by kind d n) (one_to (length d.orders)) ≡ (flat_map (said_by kind d n) (one_to (o - 1)) ++ said_of kind d n o (take k ps)) ++ (bound o p ∷ behind)
    all_split e =
        let before = flat_map (said_by kind d n) (one_to (o - 1)) in
        let later = flat_map (said_by kind d n) (count_from (o + 1) (length d.orders - o)) in
        let own : said_by kind d n o ≡ said_of kind d n o (take k ps) ++ (bound o p ∷ said_of kind d n o (drop (k + 1) ps)) = sym (said_whole o ps is) ∙ said_split o ps k p less at e in
        ap (flat_map (said_by kind d n)) (numbers_split o (length d.orders) some most)
        ∙ (flat_map-append (said_by kind d n) (one_to (o - 1)) (o ∷ count_from (o + 1) (length d.orders - o))
        ∙ (ap (λ zs. before ++ (zs ++ later)) own
        ∙ (ap (λ zs. before ++ zs) (append_assoc (said_of kind d n o (take k ps)) (bound o p ∷ said_of kind d n o (drop (k + 1) ps)) later)
        ∙ sym (append_assoc before (said_of kind d n o (take k ps)) (bound o p ∷ behind)))))

-- where live commands are searched, the search begins with what the orders say
pub live_first : (kind : BaseKind) (turns : Turns) (d : Station) (n : ℕ) → kind ≡ Live turns → orders_first kind d n ≡ flat_map (said_by kind d n) (one_to (length d.orders))
live_first kind turns d n is = ap (λ (k : BaseKind). orders_first k d n) is ∙ sym (ap (λ (k : BaseKind). flat_map (said_by k d n) (one_to (length d.orders))) is)
