-- Names that stand twice, as a set of the names before finds them.
use Rattle.std.proofs.Common.{position, cond, ap₂, None, nat_lt, ◌≡◌, ℕ, ◌+◌, ◌-◌, ◌<◌, Bool, true, false, not, ◌&&◌, ◌||◌, List, [], ◌∷◌, ◌++◌, length, take, drop, get_or, map, Bor, Some, bytes_eq, refl, ap, sym, ◌∙◌, arith, Result, subst, fold, if◌then◌else◌}
use Rattle.std.proofs.lemmas.List.{length-map, map_push, take_more, drop_more, get_or-map}
use Rattle.std.specs.List.{list_any, position_or_len}
use Rattle.design_table.specs.Texts.{texts}
use Rattle.std.proofs.lemmas.Slice.Eq.{bytes_eq-Decides}
use Rattle.infra_reader.specs.Names.{is_among, with_name, repeated, is_second}
use Rattle.design_table.specs.declared.place.EntryKind.{EntryKind}
use Rattle.design_table.specs.declared.place.EntryKind.TheVariants as kinds
use Rattle.design_table.specs.declared.place.Place.{Place}
use Rattle.design_table.specs.declared.place.Place.TheVariants.{Field}
use Rattle.design_table.specs.declared.key.Key.TheVariants.{Name, Signal}
use Rattle.design_table.specs.declared.fault.Code.TheVariants.{D03}
use Rattle.design_table.specs.declared.fault.DesignFault.{DesignFault}
use Rattle.design_table.specs.Reads.{at, first, ReadsOrRefuses}
use Rattle.infra_reader.proofs.Walking.{places_from}

pub any_text : (n : List ℕ) (ks : List (Bor (List ℕ))) → list_any (bytes_eq n) (texts ks) ≡ list_any (λ k. bytes_eq n k.now) ks
any_text n [] = refl
any_text n (k ∷ ks) = ap (λ b. bytes_eq n k.now || b) (any_text n ks)

-- where a set finds a name
pub place_text : (n : List ℕ) (ks : List (Bor (List ℕ))) → position_or_len (bytes_eq n) (texts ks) ≡ position_or_len (λ k. bytes_eq n k.now) ks
place_text n [] = refl
place_text n (k ∷ ks) = ap (λ l. cond (not (bytes_eq n k.now)) (1 + l) 0) (place_text n ks)

pub position_text : (n : List ℕ) (ks : List (Bor (List ℕ))) → position (bytes_eq n) (texts ks) ≡ position (λ k. bytes_eq n k.now) ks
position_text n ks = ap₂ (λ l m. cond (nat_lt l m) (Some l) None) (place_text n ks) (length-map ks (λ k. k.now))

-- the place of a name, where it stands already in an earlier entry
abbrev pub repeat_at : EntryKind → List (List ℕ) → ℕ → List ℕ → List Place
repeat_at kind names i name = at (is_among (take (i - 1) names) name) (Field kind i Name)

-- what a set says of a name, where `new` is whether it was added
twice : (new found : Bool) → new ≡ not found → new ≡ false → found ≡ true
twice true found e h = absurd (cc)
twice false true e h = refl
twice false false e h = absurd (cc)

once : (new found : Bool) → new ≡ not found → new ≡ true → found ≡ false
once false found e h = absurd (cc)
once true true e h = absurd (cc)
once true false e h = refl

module _ (kind : EntryKind) (names : List (Bor (List ℕ))) (k : ℕ) (d : Bor (List ℕ)) (earlier : List (Bor (List ℕ))) (lt : k < length names) (before : texts earlier ≡ take k (texts names))
    (total : List Place) (so_far : total ≡ places_from (repeat_at kind (texts names)) (λ name. name.now) (k + 1) (drop k names)) where
  abbrev here : List ℕ
  here = (get_or names k d).now

  abbrev found : Bool
  found = list_any (λ e. bytes_eq here e.now) earlier

  is_repeat : is_among (take (k + 1 - 1) (texts names)) here ≡ found
  is_repeat = let back : k + 1 - 1 ≡ k = omega arith in rw (back, ← before) (any_text here earlier)

  now_on : (b : Bool) → found ≡ b → total ≡ at b (Field kind (k + 1) Name) ++ places_from (repeat_at kind (texts names)) (λ name. name.now) (k + 1 + 1) (drop (k + 1) names)
  now_on b e = so_far ∙ rw (drop_more names k d lt, is_repeat, e) refl

  pub repeats_here : (new : Bool) → new ≡ not found → new ≡ false → first total ≡ Some (Field kind (k + 1) Name)
  repeats_here new added h = rw (now_on true (twice new found added h)) refl

  pub repeats_later : (new : Bool) → new ≡ not found → new ≡ true → total ≡ places_from (repeat_at kind (texts names)) (λ name. name.now) (k + 1 + 1) (drop (k + 1) names)
  repeats_later new added h = now_on false (once new found added h)

  pub names_later : (new : Bool) (later : List (Bor (List ℕ))) → new ≡ not found → new ≡ true → later ≡ (if found then earlier else earlier ++ get_or names k d ∷ []) → texts later ≡ take (k + 1) (texts names)
  names_later new later added h pushed =
      let absent : found ≡ false = once new found added h in
      rw (pushed, absent) (map_push (λ (e : Bor (List ℕ)). e.now) earlier (get_or names k d) ∙ rw before (sym next))
    where
      next : take (k + 1) (texts names) ≡ take k (texts names) ++ here ∷ []
      next = take_more (texts names) k here (rw length-map lt) ∙ rw (get_or-map (λ (e : Bor (List ℕ)). e.now) names k d here lt) refl

-- ---- the second overlaps at a signal

-- the place of an overlap at a signal that has an earlier one
abbrev pub second_at : List (List ℕ) → List (List ℕ) → ℕ → List ℕ → List Place
second_at signals names i name = at (is_second signals names i name) (Field kinds.Overlap i Signal)

-- the same names are among the one as among the other
abbrev pub AlsoAmong : List (List ℕ) → List (List ℕ) → Type 0
AlsoAmong xs ys = (name : List ℕ) → is_among xs name ≡ is_among ys name

among_push : (xs : List (List ℕ)) (x name : List ℕ) → is_among (xs ++ x ∷ []) name ≡ (is_among xs name || bytes_eq name x)
among_push [] x name = go (bytes_eq name x)
  where
    go : (b : Bool) → (b || false) ≡ (false || b)
    go true = refl
    go false = refl
among_push (y ∷ ys) x name = ap (λ b. bytes_eq name y || b) (among_push ys x name) ∙ go (bytes_eq name y)
  where
    go : (b : Bool) → (b || (is_among ys name || bytes_eq name x)) ≡ ((b || is_among ys name) || bytes_eq name x)
    go true = refl
    go false = refl

-- one that is there already adds none
among_again : (xs : List (List ℕ)) (x name : List ℕ) → is_among xs x ≡ true → is_among xs name ≡ (is_among xs name || bytes_eq name x)
among_again xs x name there = go (bytes_eq name x) refl
  where
    or_no : (b : Bool) → b ≡ (b || false)
    or_no true = refl
    or_no false = refl

    go : (b : Bool) → bytes_eq name x ≡ b → is_among xs name ≡ (is_among xs name || b)
    go true e = let same : name ≡ x = (bytes_eq-Decides name x).0 e in rw (ap (is_among xs) same ∙ there) refl
    go false e = or_no (is_among xs name)

module _ (signals : List (List ℕ)) (names : List (Bor (List ℕ))) (k : ℕ) (d : Bor (List ℕ)) (earlier : List (Bor (List ℕ))) (lt : k < length names) (before : AlsoAmong (texts earlier) (take k (texts names))) where
  abbrev this : List ℕ
  this = (get_or names k d).now

  abbrev is_found : Bool
  is_found = list_any (λ e. bytes_eq this e.now) earlier

  is_earlier : is_among (take (k + 1 - 1) (texts names)) this ≡ is_found
  is_earlier = let back : k + 1 - 1 ≡ k = omega arith in rw back (sym (before this) ∙ any_text this earlier)

  was_new : (new : Bool) → new ≡ not is_found → is_second signals (texts names) (k + 1) this ≡ (not new && is_among signals this)
  was_new new added = ap (λ b. b && is_among signals this) (is_earlier ∙ go is_found) ∙ ap (λ b. not b && is_among signals this) (sym added)
    where
      go : (b : Bool) → b ≡ not (not b)
      go true = refl
      go false = refl

  pub among_later : (later : List (Bor (List ℕ))) → later ≡ (if is_found then earlier else earlier ++ get_or names k d ∷ []) → AlsoAmong (texts later) (take (k + 1) (texts names))
  among_later later pushed name = ap (λ es. is_among (texts es) name) pushed ∙ go is_found refl ∙ ap (λ b. b || bytes_eq name this) (before name) ∙ sym (among_push (take k (texts names)) this name) ∙ ap (λ ns. is_among ns name) (sym next)
    where
      next : take (k + 1) (texts names) ≡ take k (texts names) ++ this ∷ []
      next = take_more (texts names) k this (rw length-map lt) ∙ rw (get_or-map (λ (e : Bor (List ℕ)). e.now) names k d this lt) refl

      go : (b : Bool) → is_found ≡ b → is_among (texts (if b then earlier else earlier ++ get_or names k d ∷ [])) name ≡ (is_among (texts earlier) name || bytes_eq name this)
      go true e = among_again (texts earlier) this name (any_text this earlier ∙ e)
      go false e = ap (λ ns. is_among ns name) (map_push (λ (e : Bor (List ℕ)). e.now) earlier (get_or names k d)) ∙ among_push (texts earlier) this name

  module _ (total : List Place) (so_far : total ≡ places_from (second_at signals (texts names)) (λ name. name.now) (k + 1) (drop k names)) where
    from_now : (b : Bool) → is_second signals (texts names) (k + 1) this ≡ b → total ≡ at b (Field kinds.Overlap (k + 1) Signal) ++ places_from (second_at signals (texts names)) (λ name. name.now) (k + 1 + 1) (drop (k + 1) names)
    from_now b e = so_far ∙ rw (drop_more names k d lt, e) refl

    pub second_here : (new again : Bool) → new ≡ not is_found → again ≡ (not new && is_among signals this) → again ≡ true → first total ≡ Some (Field kinds.Overlap (k + 1) Signal)
    second_here new again added is h = rw (from_now true (was_new new added ∙ sym is ∙ h)) refl

    pub second_later : (new again : Bool) → new ≡ not is_found → again ≡ (not new && is_among signals this) → again ≡ false → total ≡ places_from (second_at signals (texts names)) (λ name. name.now) (k + 1 + 1) (drop (k + 1) names)
    second_later new again added is h = from_now false (was_new new added ∙ sym is ∙ h)

-- ---- the names of entries, and of what they are seen as

pub texts_seen : {X Y : Type 0} (name : X → Bor (List ℕ)) (named : Y → List ℕ) (seen : X → Y) → ((x : X) → (name x).now ≡ named (seen x)) → (xs : List X) (names : List (Bor (List ℕ))) → names ≡ map name xs
    → texts names ≡ map named (map seen xs)
texts_seen {X} name named seen same xs names is = rw is (go xs)
  where
    go : (xs : List X) → texts (map name xs) ≡ map named (map seen xs)
    go [] = refl
    go (x ∷ xs) = ap₂ (λ n ns. n ∷ ns) (same x) (go xs)

pub reads_names : {X : Type 0} (view : X → List (List ℕ)) (r : Result X DesignFault) (kind : EntryKind) (names parsed : List (List ℕ)) → names ≡ parsed → ReadsOrRefuses view r D03 (repeated kind names) names → ReadsOrRefuses view r D03 (repeated kind parsed) parsed
reads_names view r kind names parsed same h = subst (λ ns. ReadsOrRefuses view r D03 (repeated kind ns) ns) same h

-- ---- each name once

pub with_text : (keys : List (Bor (List ℕ))) (name : Bor (List ℕ)) → texts (if list_any (λ k. bytes_eq name.now k.now) keys then keys else keys ++ name ∷ []) ≡ with_name (texts keys) name.now
with_text keys name = rw any_text (go (list_any (λ k. bytes_eq name.now k.now) keys))
  where
    go : (b : Bool) → texts (if b then keys else keys ++ name ∷ []) ≡ (if b then texts keys else texts keys ++ name.now ∷ [])
    go true = refl
    go false = map_push (λ (e : Bor (List ℕ)). e.now) keys name

pub one_more_name : (names : List (Bor (List ℕ))) (k : ℕ) (d : Bor (List ℕ)) (before after : List (Bor (List ℕ))) (total : List (List ℕ)) → k < length names → total ≡ fold with_name (texts before) (texts (drop k names))
    → after ≡ (if list_any (λ e. bytes_eq (get_or names k d).now e.now) before then before else before ++ get_or names k d ∷ []) → total ≡ fold with_name (texts after) (texts (drop (k + 1) names))
one_more_name names k d before after total lt so_far added =
    so_far ∙ rw (drop_more names k d lt, added, with_text before (get_or names k d)) refl
