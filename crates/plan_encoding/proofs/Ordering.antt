-- The numbers of pairs, in their order.
use Rattle.live_clause_spec.specs.Variables.{live_number, live_pairs}
use Rattle.command_set.specs.Commands.{AreCommandsOf, is_among}
use Rattle.command_set.proofs.Tests.{set_differs}
use Rattle.live_contending.proofs.Distinct.{from_distinct}
use Rattle.live_contending.proofs.Listed.{set_by_firsts}
use Rattle.plan_encoding.proofs.Tabled.{each_pair}
use Rattle.std.proofs.Common.{◌≡◌, ℕ, zero, suc, ◌+◌, ◌*◌, ◌≤◌, ◌<◌, ◌⊎◌, inl, inr, Bool, true, if◌then◌else◌, List, [], ◌∷◌, ◌++◌, map, flat_map, filter, length, take, drop, get_or, refl, sym, ap, subst, ◌∙◌, arith, length-append, append-nil}
use Rattle.std.proofs.lemmas.List.{append_assoc, map-append, take-append-drop, take_all, drop_more}
use Rattle.std.proofs.lemmas.Grind.{flat_map-append}
use Rattle.std.proofs.lemmas.Nat.{mul-le}
use Rattle.rail_base.specs.declared.station.Station.{Station}
use Rattle.rail_base.specs.declared.route.Route.{Route}
use Rattle.rail_base.specs.declared.plan.Command.{Command}
use Rattle.rail_base.specs.Numbering.{before_first}
use Rattle.rail_base.specs.Members.{In, Differ}
use Rattle.rail_base.proofs.Members.{and_left, and_right, and_both, false_unless}
use Rattle.rail_base.proofs.Lists.{in_append, in_map_back, in_flat_map_back, length-map, pairs_across, pairs_filter}
use Rattle.rail_spec.specs.Plans.{contend, is_command}
use Rattle.clause_spec.specs.Variables.{Before, is_pair}
use Rattle.clause_spec.proofs.Steps.{is_command_same, is_command_self}

-- the members before the first that passes, which is named
first_there : {X : Type 0} (test : X → Bool) (xs ys : List X) (y : X) → ((x : X) → In x xs → test x ≡ true → ⊥) → test y ≡ true → before_first test (xs ++ y ∷ ys) ≡ xs
first_there test [] ys y h e = ap (λ b. if b then [] else y ∷ before_first test ys) e
first_there test (x ∷ xs) ys y h e =
    ap (λ b. if b then [] else x ∷ before_first test (xs ++ y ∷ ys)) (false_unless (test x) (h x (inl refl)))
    ∙ ap (λ zs. x ∷ zs) (first_there test xs ys y (λ z m. h z (inr m)) e)

regroup : {X : Type 0} (ws bs cs ds : List X) (x : X) → ws ++ ((bs ++ x ∷ cs) ++ ds) ≡ (ws ++ bs) ++ x ∷ (cs ++ ds)
regroup ws bs cs ds x = ap (λ ys. ws ++ ys) (append_assoc bs (x ∷ cs) ds) ∙ sym (append_assoc ws bs (x ∷ (cs ++ ds)))

-- a list parted at a member
parted : {X : Type 0} (xs : List X) (i : ℕ) (other : X) → i < length xs → xs ≡ take i xs ++ get_or xs i other ∷ drop (i + 1) xs
parted xs i other h = sym (take-append-drop i xs) ∙ ap (λ ys. take i xs ++ ys) (drop_more xs i other h)

length-taken : {X : Type 0} (xs : List X) (i : ℕ) → i ≤ length xs → length (take i xs) ≡ i
length-taken xs zero h = refl
length-taken [] (suc i) h = absurd (omega arith)
length-taken (x ∷ xs) (suc i) h = ap suc (length-taken xs i (omega arith))

pub taken_more : {X : Type 0} (xs : List X) (i : ℕ) (other : X) → i < length xs → take (i + 1) xs ≡ take i xs ++ get_or xs i other ∷ []
taken_more {X} xs i other h = ap (λ n. take n xs) (next i) ∙ go xs i h
  where
    next : (i : ℕ) → i + 1 ≡ suc i
    next i = omega arith

    go : (ys : List X) (j : ℕ) → j < length ys → take (suc j) ys ≡ take j ys ++ get_or ys j other ∷ []
    go [] j l = absurd (omega arith)
    go (y ∷ ys) zero l = refl
    go (y ∷ ys) (suc j) l = ap (λ zs. y ∷ zs) (go ys j (omega arith))

-- the pairs of the first commands
abbrev pub pairs_to : List Command → List Route → ℕ → List (Command × Command)
pairs_to cs routes i = flat_map (each_pair routes cs) (take i cs)

module _ (cs : List Command) (d : Station) (routes : List Route) (are : AreCommandsOf d routes cs) where
  -- no command stands twice
  differ : Differ cs
  differ = from_distinct cs (set_differs cs d routes are)

  module _ (i j : ℕ) (e c : Command) (other some : Command) (is : get_or cs i other ≡ e) (within : i < length cs)
      (is_rival : get_or (filter (contend routes e) cs) j some ≡ c) (rival : j < length (filter (contend routes e) cs)) where
    commands_parted : cs ≡ take i cs ++ e ∷ drop (i + 1) cs
    commands_parted = parted cs i other within ∙ ap (λ x. take i cs ++ x ∷ drop (i + 1) cs) is

    rivals_parted : filter (contend routes e) cs ≡ take j (filter (contend routes e) cs) ++ c ∷ drop (j + 1) (filter (contend routes e) cs)
    rivals_parted = parted (filter (contend routes e) cs) j some rival ∙ ap (λ x. take j (filter (contend routes e) cs) ++ x ∷ drop (j + 1) (filter (contend routes e) cs)) is_rival

    abbrev earlier : List (Command × Command)
    earlier = flat_map (each_pair routes cs) (take i cs)

    abbrev nearer : List (Command × Command)
    nearer = map (λ x. (e, x)) (take j (filter (contend routes e) cs))

    abbrev rest : List (Command × Command)
    rest = map (λ x. (e, x)) (drop (j + 1) (filter (contend routes e) cs)) ++ flat_map (each_pair routes cs) (drop (i + 1) cs)

    pairs_parted : live_pairs (is_among cs) d routes ≡ (earlier ++ nearer) ++ (e, c) ∷ rest
    pairs_parted =
        set_by_firsts cs d routes are
        ∙ (ap (flat_map (each_pair routes cs)) commands_parted
        ∙ (flat_map-append (each_pair routes cs) (take i cs) (e ∷ drop (i + 1) cs)
        ∙ (ap (λ ps. earlier ++ (ps ++ flat_map (each_pair routes cs) (drop (i + 1) cs))) (ap (map (λ x. (e, x))) rivals_parted ∙ map-append (λ x. (e, x)) (take j (filter (contend routes e) cs)) (c ∷ drop (j + 1) (filter (contend routes e) cs)))
        ∙ regroup earlier nearer (map (λ x. (e, x)) (drop (j + 1) (filter (contend routes e) cs))) (flat_map (each_pair routes cs) (drop (i + 1) cs)) (e, c))))

    not_earlier : (p : Command × Command) → In p earlier → is_pair e c p ≡ true → ⊥
    not_earlier p m t =
        let back = in_flat_map_back (each_pair routes cs) (take i cs) p m in
        let made = in_map_back (λ (x : Command). (back.0, x)) (filter (contend routes back.0) cs) p back.2 in
        let first : back.0 ≡ p.0 = ap (λ (q : Command × Command). q.0) made.2 in
        let same : p.0 ≡ e = is_command_same e p.0 (and_left (is_command e p.0) (is_command c p.1) t) in
        pairs_across (λ (x y : Command). x ≡ y → ⊥) (take i cs) (e ∷ drop (i + 1) cs) (subst (λ (cs : List Command). Differ cs) commands_parted differ) back.0 e back.1 (inl refl) (first ∙ same)

    not_nearer : (p : Command × Command) → In p nearer → is_pair e c p ≡ true → ⊥
    not_nearer p m t =
        let made = in_map_back (λ (x : Command). (e, x)) (take j (filter (contend routes e) cs)) p m in
        let second : made.0 ≡ p.1 = ap (λ (q : Command × Command). q.1) made.2 in
        let same : p.1 ≡ c = is_command_same c p.1 (and_right (is_command e p.0) (is_command c p.1) t) in
        pairs_across (λ (x y : Command). x ≡ y → ⊥) (take j (filter (contend routes e) cs)) (c ∷ drop (j + 1) (filter (contend routes e) cs))
        (subst (λ (cs : List Command). Differ cs) rivals_parted (pairs_filter (λ (x y : Command). x ≡ y → ⊥) (contend routes e) cs differ)) made.0 c made.1 (inl refl) (second ∙ same)

    -- the number of a pair follows on those of the pairs before it
    pub number_is : (n : ℕ) → live_number (is_among cs) d routes n (Before e c) ≡ length cs * n + length (pairs_to cs routes i) + j + 1
    number_is n =
        let neither : (p : Command × Command) → In p (earlier ++ nearer) → is_pair e c p ≡ true → ⊥ = λ p m t. go p (in_append p earlier nearer m) t in
        let many = ap (λ (xs : List Command). length xs * n) are in
        let b = ap length (ap (before_first (is_pair e c)) pairs_parted ∙ first_there (is_pair e c) (earlier ++ nearer) rest (e, c) neither (and_both (is_command e e) (is_command c c) (is_command_self e) (is_command_self c))) in
        let l = length-append earlier nearer in
        let pair : Command → Command × Command = λ x. (e, x) in
        let k = length-map pair (take j (filter (contend routes e) cs)) in
        let t = length-taken (filter (contend routes e) cs) j (omega arith) in
        omega arith
      where
        go : (p : Command × Command) → In p earlier ⊎ In p nearer → is_pair e c p ≡ true → ⊥
        go p (inl m) t = not_earlier p m t
        go p (inr m) t = not_nearer p m t

  -- the pairs of one command more
  pub pairs_more : (i : ℕ) (other : Command) → i < length cs → length (pairs_to cs routes (i + 1)) ≡ length (pairs_to cs routes i) + length (filter (contend routes (get_or cs i other)) cs)
  pairs_more i other h =
      let e = get_or cs i other in
      let pair : Command → Command × Command = λ x. (e, x) in
      ap (λ (xs : List Command). length (flat_map (each_pair routes cs) xs)) (taken_more cs i other h)
      ∙ (ap length (flat_map-append (each_pair routes cs) (take i cs) (e ∷ []))
      ∙ (length-append (flat_map (each_pair routes cs) (take i cs)) (each_pair routes cs e ++ [])
      ∙ ap (λ m. length (pairs_to cs routes i) + m) (ap length (append-nil (each_pair routes cs e)) ∙ length-map pair (filter (contend routes e) cs))))

  -- those of all commands are all pairs
  pub pairs_all : (i : ℕ) → length cs ≤ i → length (pairs_to cs routes i) ≡ length (live_pairs (is_among cs) d routes)
  pairs_all i h = ap length (ap (flat_map (each_pair routes cs)) (take_all i cs h) ∙ sym (set_by_firsts cs d routes are))

-- the variables of commands are few
pub own_few : (g n : ℕ) → g ≤ 256000 → n ≤ 256 → g * n ≤ 65536000
own_few g n a b = let all : g * n ≤ 256000 * 256 = mul-le g n 256000 256 a b in omega arith
