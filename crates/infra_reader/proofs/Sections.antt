-- Sections are numbered by the first edges that name them.
use Rattle.std.proofs.Common.{◌≡◌, ℕ, suc, ◌+◌, ◌<◌, inl, inr, Bool, true, false, cond, not, ◌&&◌, ◌||◌, ◌==◌, nat_le, List, [], ◌∷◌, ◌++◌, length, map, fold, bytes_eq, refl, sym, ap, subst, ◌∙◌, append_assoc, append-nil, length-append, arith, if◌then◌else◌}
use Rattle.std.specs.List.{list_any, list_all, position_or_len}
use Rattle.rail_base.specs.Members.{In, all_pairs}
use Rattle.rail_base.specs.Admission.{are_numbered}
use Rattle.rail_base.proofs.Members.{and_left, and_right}
use Rattle.design_table.specs.Parsed.{ParsedEdge}
use Rattle.infra_reader.specs.Names.{Names, is_among, number_in, with_name}
use Rattle.infra_reader.specs.Stations.{edge_in}
use Rattle.infra_reader.proofs.Apart.{bytes_same, names_apart, apart_push, all_push}

-- ---- places in longer lists

module _ {X : Type 0} (p : X → Bool) where
  pub any_append : (xs ys : List X) → list_any p xs ≡ true → list_any p (xs ++ ys) ≡ true
  any_append [] ys h = absurd (cc)
  any_append (x ∷ xs) ys h = go (p x) h (any_append xs ys)
    where
      go : (b : Bool) → (b || list_any p xs) ≡ true → (list_any p xs ≡ true → list_any p (xs ++ ys) ≡ true) → (b || list_any p (xs ++ ys)) ≡ true
      go true e rest = refl
      go false e rest = rest e

  pub any_last : (xs : List X) (x : X) → p x ≡ true → list_any p (xs ++ x ∷ []) ≡ true
  any_last [] x h = ap (λ b. b || false) h
  any_last (y ∷ ys) x h = go (p y) (any_last ys x h)
    where
      go : (b : Bool) → list_any p (ys ++ x ∷ []) ≡ true → (b || list_any p (ys ++ x ∷ [])) ≡ true
      go true rest = refl
      go false rest = rest

  place_in_prefix : (xs ys : List X) → list_any p xs ≡ true → position_or_len p (xs ++ ys) < length xs
  place_in_prefix [] ys h = absurd (cc)
  place_in_prefix (x ∷ xs) ys h = go (p x) h (place_in_prefix xs ys)
    where
      go : (b : Bool) → (b || list_any p xs) ≡ true → (list_any p xs ≡ true → position_or_len p (xs ++ ys) < length xs) → cond (not b) (1 + position_or_len p (xs ++ ys)) 0 < suc (length xs)
      go true e rest = omega arith
      go false e rest = let l = rest e in omega arith

  place_past : (xs ys : List X) (x : X) → list_any p xs ≡ false → p x ≡ true → position_or_len p (xs ++ x ∷ ys) ≡ length xs
  place_past [] ys x h e = rw e refl
  place_past (z ∷ zs) ys x h e = go (p z) h (λ k. place_past zs ys x k e)
    where
      go : (b : Bool) → (b || list_any p zs) ≡ false → (list_any p zs ≡ false → position_or_len p (zs ++ x ∷ ys) ≡ length zs) → cond (not b) (1 + position_or_len p (zs ++ x ∷ ys)) 0 ≡ suc (length zs)
      go true k rest = absurd (cc)
      go false k rest = let l = rest k in omega arith

-- ---- names that are added one by one

pub grown : (known names : List (List ℕ)) → (rest : List (List ℕ)) × (fold with_name known names ≡ known ++ rest)
grown known [] = ([], sym (append-nil known))
grown known (n ∷ ns) = go (is_among known n) (grown known ns) (grown (known ++ n ∷ []) ns)
  where
    go : (b : Bool) → (rest : List (List ℕ)) × (fold with_name known ns ≡ known ++ rest) → (rest : List (List ℕ)) × (fold with_name (known ++ n ∷ []) ns ≡ (known ++ n ∷ []) ++ rest)
        → (rest : List (List ℕ)) × (fold with_name (if b then known else known ++ n ∷ []) ns ≡ known ++ rest)
    go true old new = old
    go false old new = (n ∷ new.0, new.1 ∙ append_assoc known (n ∷ []) new.0)

pub with_among : (known : List (List ℕ)) (name : List ℕ) → is_among (with_name known name) name ≡ true
with_among known name = go (is_among known name) refl
  where
    go : (b : Bool) → is_among known name ≡ b → is_among (if b then known else known ++ name ∷ []) name ≡ true
    go true e = e
    go false e = any_last (bytes_eq name) known name (bytes_same name)

-- each name is among those that are added
pub added_among : (known names : List (List ℕ)) (name : List ℕ) → In name names → is_among (fold with_name known names) name ≡ true
added_among known [] name m = absurd m
added_among known (n ∷ ns) name (inl e) =
    let more = grown (with_name known n) ns in
    subst (λ all. is_among all name ≡ true) (sym more.1) (any_append (bytes_eq name) (with_name known n) more.0 (subst (λ w. is_among (with_name known n) w ≡ true) e (with_among known n)))
added_among known (n ∷ ns) name (inr m) = added_among (with_name known n) ns name m

pub added_apart : (known names : List (List ℕ)) → all_pairs names_apart known ≡ true → all_pairs names_apart (fold with_name known names) ≡ true
added_apart known [] h = h
added_apart known (n ∷ ns) h = added_apart (with_name known n) ns (go (is_among known n) refl)
  where
    go : (b : Bool) → is_among known n ≡ b → all_pairs names_apart (if b then known else known ++ n ∷ []) ≡ true
    go true e = h
    go false e = apart_push known n h e

pub added_all : (test : List ℕ → Bool) (known names : List (List ℕ)) → list_all test known ≡ true → list_all test names ≡ true → list_all test (fold with_name known names) ≡ true
added_all test known [] h k = h
added_all test known (n ∷ ns) h k = added_all test (with_name known n) ns (go (is_among known n)) (and_right (test n) (list_all test ns) k)
  where
    go : (b : Bool) → list_all test (if b then known else known ++ n ∷ []) ≡ true
    go true = h
    go false = all_push test known n h (and_left (test n) (list_all test ns) k)

-- ---- the numbers of edges' sections

abbrev section : ParsedEdge → List ℕ
section e = e.section

first_way : (a b c d : Bool) → a ≡ true → b ≡ true → ((a && b) || (c && d)) ≡ true
first_way a b c d p q = rw (p, q) refl

second_way : (a b c d : Bool) → c ≡ true → d ≡ true → ((a && b) || (c && d)) ≡ true
second_way a b c d p q = rw (p, q) (go (a && b))
  where
    go : (x : Bool) → (x || true) ≡ true
    go true = refl
    go false = refl

pub numbered : (names : Names) (edges : List ParsedEdge) (known : List (List ℕ)) → names.sections ≡ fold with_name known (map section edges) → are_numbered (length names.sections) (length known) (map (edge_in names) edges) ≡ true
numbered names [] known all = ap (λ s. length known == length s) all ∙ same (length known)
  where
    same : (n : ℕ) → (n == n) ≡ true
    same n = grind arith
numbered names (e ∷ es) known all = go (is_among known e.section) refl all (numbered names es known) (numbered names es (known ++ e.section ∷ []))
  where
    go : (b : Bool) → is_among known e.section ≡ b → names.sections ≡ fold with_name (if b then known else known ++ e.section ∷ []) (map section es)
        → (names.sections ≡ fold with_name known (map section es) → are_numbered (length names.sections) (length known) (map (edge_in names) es) ≡ true)
        → (names.sections ≡ fold with_name (known ++ e.section ∷ []) (map section es) → are_numbered (length names.sections) (length (known ++ e.section ∷ [])) (map (edge_in names) es) ≡ true)
        → are_numbered (length names.sections) (length known) (map (edge_in names) (e ∷ es)) ≡ true
    go true there all old later =
        let more = grown known (map section es) in
        let place : position_or_len (bytes_eq e.section) names.sections < length known = subst (λ s. position_or_len (bytes_eq e.section) s < length known) (sym (all ∙ more.1)) (place_in_prefix (bytes_eq e.section) known more.0 there) in
        first_way (nat_le (number_in names.sections e.section) (length known)) (are_numbered (length names.sections) (length known) (map (edge_in names) es)) (number_in names.sections e.section == length known + 1) (are_numbered (length names.sections) (length known + 1) (map (edge_in names) es))
        (grind arith) (old all)
    go false new all old later =
        let more = grown (known ++ e.section ∷ []) (map section es) in
        let place : position_or_len (bytes_eq e.section) names.sections ≡ length known = ap (position_or_len (bytes_eq e.section)) (all ∙ more.1 ∙ append_assoc known (e.section ∷ []) more.0) ∙ place_past (bytes_eq e.section) known more.0 e.section new (bytes_same e.section) in
        let count : length (known ++ e.section ∷ []) ≡ length known + 1 = length-append known (e.section ∷ []) in
        second_way (nat_le (number_in names.sections e.section) (length known)) (are_numbered (length names.sections) (length known) (map (edge_in names) es)) (number_in names.sections e.section == length known + 1) (are_numbered (length names.sections) (length known + 1) (map (edge_in names) es))
        (grind arith) (subst (λ n. are_numbered (length names.sections) n (map (edge_in names) es) ≡ true) count (later all))
