-- The places of which a cone's clause says something, and what it says of the pairs before the next of them.
use Rattle.std.proofs.Common.{◌≡◌, ℕ, zero, suc, ◌+◌, ◌*◌, ◌≤◌, ◌<◌, ◌⊎◌, inl, inr, Bool, true, false, ◌&&◌, ◌==◌, if◌then◌else◌, List, [], ◌∷◌, ◌++◌, map, filter, flat_map, take, drop, get_or, length, Some, None, refl, sym, ap, ap₂, subst, ◌∙◌, arith, true≢false, append-nil, eqb-true, eq-eqb, le_refl}
use Rattle.std.proofs.lemmas.List.{take_more, take_all, append_assoc, map-append, drop_more}
use Rattle.std.proofs.lemmas.Grind.{flat_map-append}
use Rattle.std.proofs.lemmas.Option.{slice_get-get_or}
use Rattle.std.proofs.lemmas.List.Sorted.{list_any-IsPermutation}
use Rattle.std.specs.List.{list_any, slice_get}
use Rattle.std.specs.List.Sorted.{IsNonDecreasing, IsPermutation}
use Rattle.rail_base.specs.declared.station.Station.{Station}
use Rattle.rail_base.specs.declared.route.Route.{Route}
use Rattle.rail_base.specs.declared.plan.Command.{Command}
use Rattle.rail_base.proofs.Members.{In, in_filter, list_any_from, list_any_gives, false_unless, below_or_not, same_bool}
use Rattle.rail_base.proofs.Lists.{in_filter_back, in_map, in_map_back}
use Rattle.rail_spec.specs.Plans.{is_command, contend}
use Rattle.live_clause_spec.specs.Variables.{live_commands, live_pairs}
use Rattle.cone_spec.specs.declared.Cone.{Cone}
use Rattle.cone_spec.specs.declared.ConeTrain.{ConeTrain}
use Rattle.cone_spec.specs.Cones.{unnamed, first_named, free_path, is_free, has_pair, is_pair}
use Rattle.cone_spec.specs.Clauses.{Before, Literal, before_literals}
use Rattle.cone_spec.proofs.Naming.{IsNamed, named_or_not, has_route_in, in_has_route}
use Rattle.cone_spec.proofs.Saying.{is_command_self}
use Rattle.cone_form.proofs.Placed.{to_place, is_pair_same, pair_itself}
use Rattle.sat_clause.specs.declared.lit.Lit.{Lit}
use Rattle.cone_clause.specs.Numbered.{left_lit}
use Rattle.cone_clause.proofs.Walked.{pair_step}
use Rattle.cone_clause.specs.Places.{Adds, ArePlacesOfPairs, AreSaid, IsPlaceOf, IsPlaceBefore, IsPlaceBeforeFree, IsSaid}
use Rattle.cone_form.proofs.Walks.{drop_end}

some_same : {X : Type 0} {a b : X} → Some a ≡ Some b → a ≡ b
some_same h = cc

-- ---- the place of one pair

-- each pair is there the other way round too
abbrev pub IsMirrored : List (Command × Command) → Type 0
IsMirrored ps = (e c : Command) → In (e, c) ps → In (c, e) ps

-- the commands that contend with one, each with that one before, are all of its pairs
module _ (ps : List (Command × Command)) (c : Command) (others : List Command) (run : map (λ e. (c, e)) others ≡ filter (λ p. is_command p.0 c) ps) where
  -- each stands before it too
  pub before_of : IsMirrored ps → (e : Command) → In e others → In (e, c) ps
  before_of turn e m =
      let there = subst (λ (qs : List (Command × Command)). In (c, e) qs) run (in_map (λ (x : Command). (c, x)) others e m) in
      turn c e (in_filter_back (λ p. is_command p.0 c) ps (c, e) there).0

  -- the place of each pair with this second command is that of one of them
  pub from_others : (i : ℕ) → ((e : Command) × In e others × IsPlaceOf ps (e, c) i) → IsPlaceBefore ps c i
  from_others i (e, m, h) = (e, h)

  pub to_others : IsMirrored ps → (i : ℕ) → IsPlaceBefore ps c i → (e : Command) × In e others × IsPlaceOf ps (e, c) i
  to_others turn i (e, h) =
      let kept = in_filter (λ p. is_command p.0 c) ps (c, e) (turn e c (there ps i h)) (is_command_self c) in
      let back = in_map_back (λ (x : Command). (c, x)) others (c, e) (subst (λ (qs : List (Command × Command)). In (c, e) qs) (sym run) kept) in
      (e, subst (λ (x : Command). In x others) (ap (λ (q : Command × Command). q.1) back.2) back.1, h)
    where
      there : (xs : List (Command × Command)) (i : ℕ) → slice_get xs i ≡ Some (e, c) → In (e, c) xs
      there [] i h = cc
      there (x ∷ xs) zero h = inl (some_same h)
      there (x ∷ xs) (suc i) h = inr (there xs i h)

-- two numbers of one place
pub one_place : (ps : List (Command × Command)) (p : Command × Command) (place : ℕ) → ((i : ℕ) → slice_get ps i ≡ Some p → place ≡ i) → In p ps → IsPlaceOf ps p place
one_place ps p place index m = let k = to_place ps p m in subst (λ i. slice_get ps i ≡ Some p) (sym (index k.0 k.1)) k.1

pub place_inside : (ps : List (Command × Command)) (i : ℕ) (p : Command × Command) → slice_get ps i ≡ Some p → i < length ps
place_inside [] i p h = cc
place_inside (x ∷ xs) zero p h = omega arith
place_inside (x ∷ xs) (suc i) p h = let l = place_inside xs i p h in omega arith

-- ---- all places

module _ (ps : List (Command × Command)) (k : Cone) where
  pub said_free : (i : ℕ) → ((e : ConeTrain) × In e k.trains × IsPlaceBeforeFree ps k e.train i) → IsSaid ps k i
  said_free i (e, m, (r, n, (f, h))) = ((f, record { train = e.train; route = r }), h, inr (in_has_route (free_path k e.train) r n))

  pub said_listed : (i : ℕ) → ((p : Command × Command) × In p k.pairs × IsPlaceOf ps p i) → IsSaid ps k i
  said_listed i (p, m, h) = (p, h, inl (list_any_from (is_pair p.0 p.1) k.pairs p m (pair_itself p.0 p.1)))

  pub free_or_listed : (i : ℕ) → IsSaid ps k i → ((e : ConeTrain) × In e k.trains × IsPlaceBeforeFree ps k e.train i) ⊎ ((p : Command × Command) × In p k.pairs × IsPlaceOf ps p i)
  free_or_listed i (p, h, inl l) = let f = list_any_gives (is_pair p.0 p.1) k.pairs l in inr (p, subst (λ x. In x k.pairs) (is_pair_same p.0 p.1 f.0 f.2) f.1, h)
  free_or_listed i (p, h, inr l) = inl (go (named_or_not k.trains p.1.train))
    where
      member : In p.1.route (free_path k p.1.train)
      member = has_route_in (free_path k p.1.train) p.1.route l

      of_train : (e : ConeTrain) → e.train ≡ p.1.train → IsPlaceBeforeFree ps k e.train i
      of_train e s = subst (λ t. IsPlaceBeforeFree ps k t i) (sym s) (p.1.route, member, (p.0, h))

      nowhere : first_named p.1.train k.trains ≡ unnamed p.1.train → ⊥
      nowhere e = empty (unnamed p.1.train).free (subst (λ (x : ConeTrain). In p.1.route (take x.free x.path)) e member)
        where
          empty : (n : ℕ) → In p.1.route (take n []) → ⊥
          empty zero m = m
          empty (suc n) m = m

      go : IsNamed k.trains p.1.train ⊎ (first_named p.1.train k.trains ≡ unnamed p.1.train) → (e : ConeTrain) × In e k.trains × IsPlaceBeforeFree ps k e.train i
      go (inl n) = (first_named p.1.train k.trains, n.member, of_train (first_named p.1.train k.trains) n.train)
      go (inr e) = absurd (nowhere e)

-- what is added for free commands and for listed pairs, in order, is all of it
pub said_all : (ps : List (Command × Command)) (k : Cone) (old mid new places : List ℕ) → old ≡ []
    → Adds (λ i. (e : ConeTrain) × In e k.trains × IsPlaceBeforeFree ps k e.train i) old mid → Adds (λ i. (p : Command × Command) × In p k.pairs × IsPlaceOf ps p i) mid new
    → IsPermutation new places → IsNonDecreasing places → AreSaid ps k places
said_all ps k old mid new places none free listed moved rising = record {
  rising = rising;
  all = λ i h. to i (added i (free_or_listed ps k i h));
  only = λ i m. from i (listed.no_more i (back i m));
}
  where
    at : (xs : List ℕ) (i : ℕ) → list_any (λ j. j == i) xs ≡ true → In i xs
    at xs i h = let f = list_any_gives (λ j. j == i) xs h in subst (λ j. In j xs) (eqb-true f.0 i f.2) f.1

    has : (xs : List ℕ) (i : ℕ) → In i xs → list_any (λ j. j == i) xs ≡ true
    has xs i m = list_any_from (λ j. j == i) xs i m (eq-eqb i i refl)

    to : (i : ℕ) → In i new → In i places
    to i m = at places i (sym (list_any-IsPermutation (λ j. j == i) new places moved) ∙ has new i m)

    back : (i : ℕ) → In i places → In i new
    back i m = at new i (list_any-IsPermutation (λ j. j == i) new places moved ∙ has places i m)

    added : (i : ℕ) → ((e : ConeTrain) × In e k.trains × IsPlaceBeforeFree ps k e.train i) ⊎ ((p : Command × Command) × In p k.pairs × IsPlaceOf ps p i) → In i new
    added i (inl f) = listed.kept i (free.added i f)
    added i (inr l) = listed.added i l

    first : (i : ℕ) → In i old ⊎ ((e : ConeTrain) × In e k.trains × IsPlaceBeforeFree ps k e.train i) → IsSaid ps k i
    first i (inl m) = absurd (subst (In i) none m)
    first i (inr f) = said_free ps k i f

    from : (i : ℕ) → In i mid ⊎ ((p : Command × Command) × In p k.pairs × IsPlaceOf ps p i) → IsSaid ps k i
    from i (inl m) = first i (free.no_more i m)
    from i (inr l) = said_listed ps k i l

-- what is added for listed pairs alone, in order, is all of their places
pub listed_all : (ps : List (Command × Command)) (k : Cone) (old new places : List ℕ) → old ≡ []
    → Adds (λ i. (p : Command × Command) × In p k.pairs × IsPlaceOf ps p i) old new → IsPermutation new places → IsNonDecreasing places → ArePlacesOfPairs ps k places
listed_all ps k old new places none listed moved rising = record {
  rising = rising;
  all = λ i h. at places i (sym (list_any-IsPermutation (λ j. j == i) new places moved) ∙ has new i (listed.added i h));
  only = λ i m. from i (listed.no_more i (at new i (list_any-IsPermutation (λ j. j == i) new places moved ∙ has places i m)));
}
  where
    at : (xs : List ℕ) (i : ℕ) → list_any (λ j. j == i) xs ≡ true → In i xs
    at xs i h = let f = list_any_gives (λ j. j == i) xs h in subst (λ j. In j xs) (eqb-true f.0 i f.2) f.1

    has : (xs : List ℕ) (i : ℕ) → In i xs → list_any (λ j. j == i) xs ≡ true
    has xs i m = list_any_from (λ j. j == i) xs i m (eq-eqb i i refl)

    from : (i : ℕ) → In i old ⊎ ((p : Command × Command) × In p k.pairs × IsPlaceOf ps p i) → (p : Command × Command) × In p k.pairs × IsPlaceOf ps p i
    from i (inl m) = absurd (subst (In i) none m)
    from i (inr l) = l

-- a pair is listed where its place is one of those
pub listed_at : (ps : List (Command × Command)) (k : Cone) (places : List ℕ) → ArePlacesOfPairs ps k places → (i : ℕ) (other : Command × Command) → i < length ps
    → list_any (λ j. j == i) places ≡ has_pair k (get_or ps i other).0 (get_or ps i other).1
listed_at ps k places are i other inside = same_bool (list_any (λ j. j == i) places) (has_pair k q.0 q.1) to from
  where
    q : Command × Command
    q = get_or ps i other

    here : slice_get ps i ≡ Some q
    here = slice_get-get_or ps i other inside

    to : list_any (λ j. j == i) places ≡ true → has_pair k q.0 q.1 ≡ true
    to h =
        let f = list_any_gives (λ j. j == i) places h in
        let l = are.only i (subst (λ j. In j places) (eqb-true f.0 i f.2) f.1) in
        let same : l.0 ≡ q = some_same (sym l.2 ∙ here) in
        list_any_from (is_pair q.0 q.1) k.pairs q (subst (λ (p : Command × Command). In p k.pairs) same l.1) (pair_itself q.0 q.1)

    from : has_pair k q.0 q.1 ≡ true → list_any (λ j. j == i) places ≡ true
    from h =
        let f = list_any_gives (is_pair q.0 q.1) k.pairs h in
        let m : In q k.pairs = subst (λ (p : Command × Command). In p k.pairs) (is_pair_same q.0 q.1 f.0 f.2) f.1 in
        list_any_from (λ j. j == i) places i (are.all i (q, m, here)) (eq-eqb i i refl)

module _ (live : Command → Bool) (d : Station) (routes : List Route) (k : Cone) where
  abbrev pub said_of : Command × Command → List Literal
  said_of p = before_literals d routes k p.0 p.1

  -- nothing is said of a place that is not one of those
  quiet_at : (i : ℕ) (other : Command × Command) → i < length (live_pairs live d routes) → (IsSaid (live_pairs live d routes) k i → ⊥) → said_of (get_or (live_pairs live d routes) i other) ≡ []
  quiet_at i other l none = go (has_pair k p.0 p.1) (is_free k p.1) (false_unless (has_pair k p.0 p.1) (λ t. none (p, at, inl t))) (false_unless (is_free k p.1) (λ t. none (p, at, inr t)))
    where
      p : Command × Command
      p = get_or (live_pairs live d routes) i other

      at : slice_get (live_pairs live d routes) i ≡ Some p
      at = slice_get-get_or (live_pairs live d routes) i other l

      go : (a b : Bool) → a ≡ false → b ≡ false → ◌≡◌ {A = List Literal} (if a then record { fact = Before p.0 p.1; negated = true } ∷ [] else if b && contend routes p.0 p.1 then record { fact = Before p.0 p.1; negated = false } ∷ [] else []) []
      go true b e f = absurd (true≢false e)
      go false true e f = absurd (true≢false f)
      go false false e f = refl

  -- nothing is said of the pairs between two places with no such place between them
  quiet : (a b : ℕ) (other : Command × Command) → a ≤ b → b ≤ length (live_pairs live d routes) → ((i : ℕ) → a ≤ i → i < b → IsSaid (live_pairs live d routes) k i → ⊥) → flat_map said_of (take b (live_pairs live d routes)) ≡ flat_map said_of (take a (live_pairs live d routes))
  quiet a zero other l m none = let e : zero ≡ a = omega arith in ap (λ n. flat_map said_of (take n (live_pairs live d routes))) e
  quiet a (suc b) other l m none = go (λ f. quiet a b other f (omega arith) (λ i x y. none i x (omega arith))) (below_or_not b a)
    where
      go : (a ≤ b → flat_map said_of (take b (live_pairs live d routes)) ≡ flat_map said_of (take a (live_pairs live d routes))) → (b < a) ⊎ (a ≤ b) → flat_map said_of (take (suc b) (live_pairs live d routes)) ≡ flat_map said_of (take a (live_pairs live d routes))
      go before (inl f) = let e : suc b ≡ a = omega arith in ap (λ n. flat_map said_of (take n (live_pairs live d routes))) e
      go before (inr f) =
          let on : suc b ≡ b + 1 = omega arith in
          let last : said_of (get_or (live_pairs live d routes) b other) ++ [] ≡ [] = ap (λ ls. ls ++ []) (quiet_at b other (omega arith) (none b f (omega arith))) in
          ap (λ n. flat_map said_of (take n (live_pairs live d routes))) on
          ∙ (ap (flat_map said_of) (take_more (live_pairs live d routes) b other (omega arith))
          ∙ (flat_map-append said_of (take b (live_pairs live d routes)) (get_or (live_pairs live d routes) b other ∷ [])
          ∙ (ap (λ ls. flat_map said_of (take b (live_pairs live d routes)) ++ ls) last
          ∙ (append-nil (flat_map said_of (take b (live_pairs live d routes))) ∙ before f))))

  -- the literal of a place of which something is said
  one_said : (n : ℕ) (i : ℕ) (other : Command × Command) → IsSaid (live_pairs live d routes) k i → (v : ℕ) (negated : Bool) → v ≡ length (live_commands live d routes) * n + i + 1 → negated ≡ has_pair k (get_or (live_pairs live d routes) i other).0 (get_or (live_pairs live d routes) i other).1
      → record { var = v; negated = negated } ∷ [] ≡ map (left_lit live d routes n) (said_of (get_or (live_pairs live d routes) i other))
  one_said n i other (p, at, why) v negated is h = pair_step live d routes k n i other inside v (Some negated) is (by negated (has_pair k q.0 q.1) (is_free k q.1) h (free_else why))
    where
      inside : i < length (live_pairs live d routes)
      inside = place_inside (live_pairs live d routes) i p at

      q : Command × Command
      q = get_or (live_pairs live d routes) i other

      same : p ≡ q
      same = some_same (sym at ∙ slice_get-get_or (live_pairs live d routes) i other inside)

      free_else : (has_pair k p.0 p.1 ≡ true) ⊎ (is_free k p.1 ≡ true) → (has_pair k q.0 q.1 ≡ true) ⊎ (is_free k q.1 ≡ true)
      free_else (inl t) = inl (subst (λ (x : Command × Command). has_pair k x.0 x.1 ≡ true) same t)
      free_else (inr t) = inr (subst (λ (x : Command × Command). is_free k x.1 ≡ true) same t)

      by : (r a b : Bool) → r ≡ a → (a ≡ true) ⊎ (b ≡ true) → Some r ≡ (if a then Some true else if b then Some false else None)
      by r true b e w = ap Some e
      by r false true e w = ap Some e
      by r false false e (inl w) = absurd (true≢false (sym w))
      by r false false e (inr w) = absurd (true≢false (sym w))

  module _ (n : ℕ) (old : List Lit) where
    -- the clause says all of the pairs up to a place
    abbrev pub SaysUpTo : List (Command × Command) → ℕ → List Lit → Type 0
    SaysUpTo ps next now = now ≡ old ++ map (left_lit live d routes n) (flat_map said_of (take next ps))

    abbrev More : List (Command × Command) → Type 0
    More ps = (next i : ℕ) (other : Command × Command) (now new : List Lit) → next ≤ i → IsSaid ps k i → ((j : ℕ) → next ≤ j → j < i → IsSaid ps k j → ⊥)
        → (v : ℕ) (negated : Bool) → v ≡ length (live_commands live d routes) * n + i + 1 → negated ≡ has_pair k (get_or ps i other).0 (get_or ps i other).1
        → new ≡ now ++ record { var = v; negated = negated } ∷ [] → SaysUpTo ps next now → SaysUpTo ps (i + 1) new

    abbrev Whole : List (Command × Command) → Type 0
    Whole ps = (next : ℕ) (other : Command × Command) (now : List Lit) → next ≤ length ps → ((j : ℕ) → next ≤ j → IsSaid ps k j → ⊥) → SaysUpTo ps next now
        → now ≡ old ++ map (left_lit live d routes n) (flat_map said_of ps)

    more : More (live_pairs live d routes)
    more next i other now new l said none v negated is h grown before =
        let inside : i < length (live_pairs live d routes) = place_inside (live_pairs live d routes) i said.0 said.1 in
        let p : Command × Command = get_or (live_pairs live d routes) i other in
        let prefix : List Literal = flat_map said_of (take next (live_pairs live d routes)) in
        let parts : flat_map said_of (take (i + 1) (live_pairs live d routes)) ≡ prefix ++ said_of p =
        ap (flat_map said_of) (take_more (live_pairs live d routes) i other inside)
        ∙ (flat_map-append said_of (take i (live_pairs live d routes)) (p ∷ [])
        ∙ ap₂ (λ xs ys. xs ++ ys) (quiet next i other l (omega arith) none) (append-nil (said_of p))) in
        grown ∙ (ap₂ (λ xs ys. xs ++ ys) before (one_said n i other said v negated is h)
        ∙ (append_assoc old (map (left_lit live d routes n) prefix) (map (left_lit live d routes n) (said_of p))
        ∙ ap (λ ls. old ++ ls) (sym (ap (map (left_lit live d routes n)) parts ∙ map-append (left_lit live d routes n) prefix (said_of p)))))

    whole : Whole (live_pairs live d routes)
    whole next other now l none before =
        before ∙ ap (λ ls. old ++ map (left_lit live d routes n) ls)
        (sym (ap (flat_map said_of) (sym (take_all (length (live_pairs live d routes)) (live_pairs live d routes) (le_refl (length (live_pairs live d routes))))) ∙ quiet next (length (live_pairs live d routes)) other l (le_refl (length (live_pairs live d routes))) (λ j x y. none j x)))

    pub says_more : (ps : List (Command × Command)) → ps ≡ live_pairs live d routes → More ps
    says_more ps is = subst More (sym is) more

    pub says_all : (ps : List (Command × Command)) → ps ≡ live_pairs live d routes → Whole ps
    says_all ps is = subst Whole (sym is) whole

-- ---- what is left of the places

module _ (ps : List (Command × Command)) (k : Cone) (places : List ℕ) (said : AreSaid ps k places) where
  -- from a number on, those of which something is said are among the places that are left
  abbrev pub AreLeft : ℕ → ℕ → Type 0
  AreLeft next j = (i : ℕ) → next ≤ i → IsSaid ps k i → In i (drop j places)

  after : (j : ℕ) (x : ℕ) → In x (drop j places) → (m : ℕ) × (j ≤ m) × (m < length places) × ((other : ℕ) → get_or places m other ≡ x)
  after = go places
    where
      go : (xs : List ℕ) (j : ℕ) (x : ℕ) → In x (drop j xs) → (m : ℕ) × (j ≤ m) × (m < length xs) × ((other : ℕ) → get_or xs m other ≡ x)
      go [] zero x m = absurd m
      go [] (suc j) x m = absurd m
      go (y ∷ ys) zero x (inl e) = (zero, omega arith, omega arith, λ other. e)
      go (y ∷ ys) zero x (inr m) = later (go ys zero x m)
        where
          later : (m : ℕ) × (zero ≤ m) × (m < length ys) × ((other : ℕ) → get_or ys m other ≡ x) → (m : ℕ) × (zero ≤ m) × (m < length (y ∷ ys)) × ((other : ℕ) → get_or (y ∷ ys) m other ≡ x)
          later (m, a, b, f) = (suc m, omega arith, omega arith, f)
      go (y ∷ ys) (suc j) x m = later (go ys j x m)
        where
          later : (m : ℕ) × (j ≤ m) × (m < length ys) × ((other : ℕ) → get_or ys m other ≡ x) → (m : ℕ) × (suc j ≤ m) × (m < length (y ∷ ys)) × ((other : ℕ) → get_or (y ∷ ys) m other ≡ x)
          later (m, a, b, f) = (suc m, omega arith, omega arith, f)

  module _ (next j other : ℕ) (inside : j < length places) (left : AreLeft next j) where
    split : (i : ℕ) → next ≤ i → IsSaid ps k i → (get_or places j other ≡ i) ⊎ In i (drop (j + 1) places)
    split i l s = subst (In i) (drop_more places j other inside) (left i l s)

    pub none_between : (i : ℕ) → next ≤ i → i < get_or places j other → IsSaid ps k i → ⊥
    none_between i l m s = go (split i l s)
      where
        go : (get_or places j other ≡ i) ⊎ In i (drop (j + 1) places) → ⊥
        go (inl e) = absurd (omega arith)
        go (inr n) = at (after (j + 1) i n)
          where
            at : (q : ℕ) × (j + 1 ≤ q) × (q < length places) × ((other : ℕ) → get_or places q other ≡ i) → ⊥
            at (q, a, b, f) =
                let e : get_or places q other ≡ i = f other in
                let r : get_or places j other ≤ get_or places q other = said.rising j q other (omega arith) b in
                absurd (omega arith)

    pub left_after : next ≤ get_or places j other → AreLeft (get_or places j other + 1) (j + 1)
    left_after m i l s = go (split i (omega arith) s)
      where
        go : (get_or places j other ≡ i) ⊎ In i (drop (j + 1) places) → In i (drop (j + 1) places)
        go (inl e) = absurd (omega arith)
        go (inr n) = n

    pub left_same : get_or places j other < next → AreLeft next (j + 1)
    left_same m i l s = go (split i l s)
      where
        go : (get_or places j other ≡ i) ⊎ In i (drop (j + 1) places) → In i (drop (j + 1) places)
        go (inl e) = absurd (omega arith)
        go (inr n) = n

  pub none_left : (next j : ℕ) → length places ≤ j → AreLeft next j → (i : ℕ) → next ≤ i → IsSaid ps k i → ⊥
  none_left next j end left i l s = subst (In i) (drop_end places j end) (left i l s)
