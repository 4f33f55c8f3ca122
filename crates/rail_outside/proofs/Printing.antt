-- Lines put one by one.
use Rattle.std.proofs.Common.{◌≡◌, ℕ, ◌+◌, ◌<◌, List, [], ◌∷◌, ◌++◌, length, take, drop, get_or, Option, Some, None, Vec, Global, Err, refl, ap, sym, ◌∙◌, append_assoc}
use Rattle.std.specs.List.{concat}
use Rattle.std.proofs.lemmas.List.{take-append-drop, take_more, take-map, map_push, append-nil}
use Rattle.std.proofs.lemmas.List.Folds.{concat-append}
use Rattle.rail_outside.specs.Growth.{grown, GrowsByPrefix, GrowsByLines}
use Rattle.rail_outside.specs.Lines.{lines_of}
use Rattle.rail_outside.specs.Putting.{put_pieces, PutLeaves}
use Rattle.rail_outside.specs.declared.sink.SinkFault.{SinkFault}
use Rattle.rail_outside.specs.declared.sink.SinkFault.TheVariants.{Failed, Memory}

pub grown-grown : {A : Type 0} (reply_for : Option (List A)) (xs ys : List A) → grown (grown reply_for xs) ys ≡ grown reply_for (xs ++ ys)
grown-grown None xs ys = refl
grown-grown (Some zs) xs ys = ap (λ ws. Some ws) (append_assoc zs xs ys)

-- the line v at the place i
module _ (vs : List (Vec ℕ Global)) (i : ℕ) (v : Vec ℕ Global) (lt : i < length vs) (is : v ≡ get_or vs i v) where
  abbrev before : List (List ℕ)
  before = take i (lines_of vs)

  abbrev after : List (List ℕ)
  after = drop (i + 1) (lines_of vs)

  one_more : take (i + 1) (lines_of vs) ≡ before ++ v.items ∷ []
  one_more = rw (take-map (λ (w : Vec ℕ Global). w.items) (i + 1) vs, take_more vs i v lt, ← is, map_push (λ (w : Vec ℕ Global). w.items) (take i vs) v, take-map (λ (w : Vec ℕ Global). w.items) i vs) refl

  all_parts : lines_of vs ≡ before ++ (v.items ∷ after)
  all_parts = sym (take-append-drop (i + 1) (lines_of vs)) ∙ rw (one_more, append_assoc) refl

  -- the line is put
  pub puts_more : (old mid new : Option (List (List ℕ))) → mid ≡ grown old before → new ≡ grown mid (v.items ∷ []) → new ≡ grown old (take (i + 1) (lines_of vs))
  puts_more old mid new m n = n ∙ rw (m, grown-grown old before (v.items ∷ []), one_more) refl

  pub written_more : (old mid new : Option (List ℕ)) → mid ≡ grown old (concat before) → new ≡ grown mid v.items → new ≡ grown old (concat (take (i + 1) (lines_of vs)))
  written_more old mid new m n = n ∙ rw (m, grown-grown old (concat before) v.items, one_more, concat-append before (v.items ∷ []), append-nil v.items) refl

  -- the put of the line fails
  pub puts_at_fault : (e : SinkFault) (old mid new : Option (List (List ℕ))) → mid ≡ grown old before → new ≡ grown mid (put_pieces {X = Unit {0}} (Err e) v.items) → GrowsByPrefix old new (lines_of vs)
  puts_at_fault Failed old mid new m n = (take (i + 1) (lines_of vs), (after, take-append-drop (i + 1) (lines_of vs)), puts_more old mid new m n)
  puts_at_fault Memory old mid new m n = (before, (drop i (lines_of vs), take-append-drop i (lines_of vs)), n ∙ rw (m, grown-grown old before [], append-nil before) refl)

  pub written_at_failure : (old mid new : Option (List ℕ)) → mid ≡ grown old (concat before) → GrowsByPrefix mid new v.items → GrowsByPrefix old new (concat (lines_of vs))
  written_at_failure old mid new m n =
      let prefix : List ℕ = n.0 in
      let rest : List ℕ = n.1.0 in
      let whole : prefix ++ rest ≡ v.items = n.1.1 in
      let joined : (concat before ++ prefix) ++ (rest ++ concat after) ≡ concat (lines_of vs) =
      append_assoc (concat before) prefix (rest ++ concat after)
      ∙ ap (λ t. concat before ++ t) (sym (append_assoc prefix rest (concat after)) ∙ ap (λ t. t ++ concat after) whole)
      ∙ sym (ap concat all_parts ∙ concat-append before (v.items ∷ after)) in
      (concat before ++ prefix, (rest ++ concat after, joined), n.2 ∙ rw (m, grown-grown old (concat before) prefix) refl)

  pub written_at_want : (old mid new : Option (List ℕ)) → mid ≡ grown old (concat before) → new ≡ mid → GrowsByLines old new (lines_of vs)
  written_at_want old mid new m n = (before, (drop i (lines_of vs), take-append-drop i (lines_of vs)), n ∙ m)

pub leaves_at_failure : (e : SinkFault) (mid new : Option (List ℕ)) (slice bytes : List ℕ) → slice ≡ bytes → e ≡ Failed → PutLeaves {X = Unit {0}} (Err e) mid new slice → GrowsByPrefix mid new bytes
leaves_at_failure Failed mid new slice bytes is e h = rw (← is) h
leaves_at_failure Memory mid new slice bytes is e h = absurd (cc)

pub leaves_at_want : (e : SinkFault) (mid new : Option (List ℕ)) (bytes : List ℕ) → e ≡ Memory → PutLeaves {X = Unit {0}} (Err e) mid new bytes → new ≡ mid
leaves_at_want Memory mid new bytes e h = h
leaves_at_want Failed mid new bytes e h = absurd (cc)
