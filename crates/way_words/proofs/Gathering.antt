-- Lines on trains, gathered train by train.
use Rattle.std.proofs.Common.{◌≡◌, ℕ, zero, suc, ◌+◌, ◌-◌, ◌≤◌, ◌<◌, ◌⊎◌, inl, inr, ◌==◌, if◌then◌else◌, List, [], ◌∷◌, ◌++◌, map, flat_map, length, Option, None, Some, IfSome, refl, sym, ap, ap₂, subst, ◌∙◌, arith, eqb-true, eq-eqb, rules}
use Rattle.std.proofs.lemmas.List.{append_assoc, append-nil, map-append}
use Rattle.rail_base.specs.declared.route.Route.{Route}
use Rattle.rail_base.specs.declared.station.Station.{Station}
use Rattle.rail_base.specs.declared.station.TrainNo.{TrainNo}
use Rattle.rail_base.specs.Members.{In}
use Rattle.rail_base.specs.Numbering.{count_from}
use Rattle.rail_base.specs.Stations.{IsTrain, trains}
use Rattle.rail_base.proofs.Lists.{in_count_back, in_map_back}
use Rattle.rail_base.proofs.Members.{false_unless}
use Rattle.way_spec.specs.Ways.{HasWay, IsFewestSteps, IsFirstUnmade, IsMostSteps}
use Rattle.way_words.specs.Ways.{AreNoWayLines, AreWayLines, IsFewest, IsUnmade, no_way_lines, steps_lines}

abbrev train_no : ℕ → TrainNo
train_no n = record { 0 = n }

one_longer : (a k : ℕ) → count_from a (k + 1) ≡ count_from a k ++ (a + k) ∷ []
one_longer a zero = ap (λ x. x ∷ []) (omega arith)
one_longer a (suc k) =
    let more : suc k + 1 ≡ suc (k + 1) = omega arith in
    let last : a + 1 + k ≡ a + suc k = omega arith in
    ap (count_from a) more ∙ ap (λ xs. a ∷ xs) (one_longer (a + 1) k) ∙ ap (λ n. a ∷ (count_from (a + 1) k ++ n ∷ [])) last

lower_or_last : (m n : ℕ) → m < n + 1 → (m < n) ⊎ (m ≡ n)
lower_or_last m n h = grind arith

flat-same : {X Y : Type 0} (f g : X → List Y) (xs : List X) → ((x : X) → In x xs → f x ≡ g x) → flat_map f xs ≡ flat_map g xs
flat-same f g [] h = refl
flat-same f g (x ∷ xs) h = ap₂ (λ a b. a ++ b) (h x (inl refl)) (flat-same f g xs (λ y m. h y (inr m)))

flat-append : {X Y : Type 0} (f : X → List Y) (xs ys : List X) → flat_map f (xs ++ ys) ≡ flat_map f xs ++ flat_map f ys
flat-append f [] ys = refl
flat-append f (x ∷ xs) ys = ap (λ zs. f x ++ zs) (flat-append f xs ys) ∙ sym (append_assoc (f x) (flat_map f xs) (flat_map f ys))

module _ (d : Station) (routes : List Route) (old : List (List ℕ)) where
  -- the lines on the trains before this number
  pub record SoFar (n : ℕ) (lines : List (List ℕ)) : Type 0 where
    pub unmade : TrainNo → Option ℕ
    pub each : (t : TrainNo) → 1 ≤ t.0 → t.0 < n → IsUnmade d routes t (unmade t)
    pub are : lines ≡ old ++ flat_map (λ t. no_way_lines d t (unmade t)) (map train_no (count_from 1 (n - 1)))

  pub none_yet : SoFar 1 old
  none_yet = record { unmade = λ t. None; each = λ t l h. absurd (omega arith); are = sym (append-nil old) }

  pub one_more : (n : ℕ) (lines after : List (List ℕ)) (k : Option ℕ) → 1 ≤ n → IsUnmade d routes (train_no n) k
      → after ≡ lines ++ no_way_lines d (train_no n) k → SoFar n lines → SoFar (n + 1) after
  one_more n lines after k low is grown so = record {
    unmade = unmade;
    each = λ t l h. each t l (lower_or_last t.0 n h);
    are = total;
  }
    where
      unmade : TrainNo → Option ℕ
      unmade t = if t.0 == n then k else so.unmade t

      there : unmade (train_no n) ≡ k
      there = ap (λ c. if c then k else so.unmade (train_no n)) (eq-eqb n n refl)

      before : (t : TrainNo) → t.0 < n → unmade t ≡ so.unmade t
      before t h = ap (λ c. if c then k else so.unmade t) (false_unless (t.0 == n) (λ e. let s = eqb-true t.0 n e in omega arith))

      each : (t : TrainNo) → 1 ≤ t.0 → (t.0 < n) ⊎ (t.0 ≡ n) → IsUnmade d routes t (unmade t)
      each t l (inl h) = subst (IsUnmade d routes t) (sym (before t h)) (so.each t l h)
      each t l (inr e) = subst (λ u. IsUnmade d routes u (unmade u)) (ap train_no (sym e)) (subst (IsUnmade d routes (train_no n)) (sym there) is)

      said : (TrainNo → Option ℕ) → TrainNo → List (List ℕ)
      said f t = no_way_lines d t (f t)

      earlier : (t : TrainNo) → In t (map train_no (count_from 1 (n - 1))) → said so.unmade t ≡ said unmade t
      earlier t m =
          let i = in_map_back train_no (count_from 1 (n - 1)) t m in
          let b = in_count_back 1 (n - 1) i.0 i.1 in
          let h = b.1 in
          let e : i.0 ≡ t.0 = ap (λ (u : TrainNo). u.0) i.2 in
          ap (no_way_lines d t) (sym (before t (omega arith)))

      total : after ≡ old ++ flat_map (said unmade) (map train_no (count_from 1 (n + 1 - 1)))
      total =
          let many : n + 1 - 1 ≡ n - 1 + 1 = omega arith in
          let last : 1 + (n - 1) ≡ n = omega arith in
          let firsts = map train_no (count_from 1 (n - 1)) in
          let list : map train_no (count_from 1 (n + 1 - 1)) ≡ firsts ++ train_no n ∷ [] =
          ap (λ k. map train_no (count_from 1 k)) many ∙ ap (map train_no) (one_longer 1 (n - 1)) ∙ map-append train_no (count_from 1 (n - 1)) ((1 + (n - 1)) ∷ [])
          ∙ ap (λ k. firsts ++ train_no k ∷ []) last in
          let new : flat_map (said unmade) (train_no n ∷ []) ≡ no_way_lines d (train_no n) k =
          append-nil (said unmade (train_no n)) ∙ ap (no_way_lines d (train_no n)) there in
          let all : flat_map (said unmade) (map train_no (count_from 1 (n + 1 - 1))) ≡ flat_map (said so.unmade) firsts ++ no_way_lines d (train_no n) k =
          ap (flat_map (said unmade)) list ∙ flat-append (said unmade) firsts (train_no n ∷ [])
          ∙ ap₂ (λ a b. a ++ b) (sym (flat-same (said so.unmade) (said unmade) firsts earlier)) new in
          grown ∙ ap (λ ls. ls ++ no_way_lines d (train_no n) k) so.are
          ∙ append_assoc old (flat_map (said so.unmade) firsts) (no_way_lines d (train_no n) k)
          ∙ ap (λ ls. old ++ ls) (sym all)

  -- those on all trains
  pub all_so_far : (n : ℕ) (lines : List (List ℕ)) → n ≡ length d.trains + 1 → SoFar n lines
      → (more : List (List ℕ)) × (lines ≡ old ++ more) × AreNoWayLines d routes more
  all_so_far n lines e so =
      let k : n - 1 ≡ length d.trains = omega arith in (
        flat_map (λ t. no_way_lines d t (so.unmade t)) (trains d),
        so.are ∙ ap (λ k. old ++ flat_map (λ t. no_way_lines d t (so.unmade t)) (map train_no (count_from 1 k))) k,
        record {
          unmade = so.unmade;
          of_train = λ t known. so.each t known.0 (let h = known.1 in omega arith);
          are = refl;
        },
      )

-- ---- what is said of one train, and all lines

pub unmade_of : (d : Station) (routes : List Route) (t : TrainNo) (k : Option ℕ) → (k ≡ None → HasWay d routes t)
    → IfSome k (IsFirstUnmade d routes t) → IsUnmade d routes t k
unmade_of d routes t None none some = none refl
unmade_of d routes t (Some k) none some = some

pub fewest_of : (d : Station) (routes : List Route) (n : Option ℕ)
    → (n ≡ None → (t : TrainNo) × IsTrain d t × (HasWay d routes t → ⊥)) → IfSome n (IsFewestSteps d routes) → IsFewest d routes n
fewest_of d routes None none some = none refl
fewest_of d routes (Some n) none some = some

pub all_lines : (d : Station) (routes : List Route) (old middle new more last : List (List ℕ)) (fewest : Option ℕ) (most : ℕ)
    → middle ≡ old ++ more → AreNoWayLines d routes more → new ≡ middle ++ last → last ≡ steps_lines fewest most
    → IsFewest d routes fewest → IsMostSteps d routes most
    → (all : List (List ℕ)) × (new ≡ old ++ all) × AreWayLines d routes all
all_lines d routes old middle new more last fewest most a no_ways b e is_fewest is_most = (
  more ++ last,
  b ∙ ap (λ ls. ls ++ last) a ∙ append_assoc old more last,
  record { no_ways = more; are_no_ways = no_ways; fewest = fewest; is_fewest = is_fewest; most = most; is_most = is_most; are = ap (λ ls. more ++ ls) e },
)

-- ---- texts

pub four_added : (old a b c e t1 t2 t3 t4 : List ℕ) → t1 ≡ old ++ a → t2 ≡ t1 ++ b → t3 ≡ t2 ++ c → t4 ≡ t3 ++ e → t4 ≡ old ++ (a ++ b ++ c ++ e)
four_added old a b c e t1 t2 t3 t4 x1 x2 x3 x4 =
    let flat = x4 ∙ ap (λ t. t ++ e) (x3 ∙ ap (λ t. t ++ c) (x2 ∙ ap (λ t. t ++ b) x1)) in
    let one = append_assoc old a b in
    let two = append_assoc old (a ++ b) c in
    let three = append_assoc old (a ++ b ++ c) e in
    let four = append_assoc a b (c ++ e) in
    let five = append_assoc (a ++ b) c e in
    search rules
