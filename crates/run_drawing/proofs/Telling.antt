-- Words of the members of a list, one by one.
use Rattle.std.proofs.Common.{◌≡◌, ℕ, ◌+◌, ◌<◌, List, [], ◌∷◌, ◌++◌, length, map, take, get_or, Option, Some, None, refl, ◌∙◌, append_assoc}
use Rattle.std.specs.List.{filter_map}
use Rattle.std.proofs.lemmas.List.{take_more, map_push, append-nil}
use Rattle.std.proofs.lemmas.List.Elements.{filter_map-append}

-- the member at place i is y
module _ {Y : Type 0} (make_reply : Y → Option (List ℕ)) (ys : List Y) (i : ℕ) (d y : Y) (lt : i < length ys) (is : get_or ys i d ≡ y) where
  one_more : take (i + 1) ys ≡ take i ys ++ y ∷ []
  one_more = rw (take_more ys i d lt, is) refl

  -- it has no words
  pub none_told : (old mid : List (List ℕ)) → mid ≡ old ++ filter_map make_reply (take i ys) → make_reply y ≡ None → mid ≡ old ++ filter_map make_reply (take (i + 1) ys)
  none_told old mid before none = before ∙ rw (one_more, filter_map-append make_reply (take i ys) (y ∷ []), none, append-nil (filter_map make_reply (take i ys))) refl

  -- its words are put
  pub one_told : (old mid new : List (List ℕ)) (text : List ℕ) → mid ≡ old ++ filter_map make_reply (take i ys) → make_reply y ≡ Some text → new ≡ mid ++ text ∷ [] → new ≡ old ++ filter_map make_reply (take (i + 1) ys)
  one_told old mid new text before reply_for more =
      more ∙ rw (before, one_more, filter_map-append make_reply (take i ys) (y ∷ []), reply_for) (append_assoc old (filter_map make_reply (take i ys)) (text ∷ []))

-- the text of the member at place i is put
pub text_told : {Y : Type 0} (ys : List Y) (i : ℕ) (d y : Y) → i < length ys → get_or ys i d ≡ y → (tell : Y → List ℕ) (old mid new : List (List ℕ))
    → mid ≡ old ++ map tell (take i ys) → new ≡ mid ++ tell y ∷ [] → new ≡ old ++ map tell (take (i + 1) ys)
text_told ys i d y lt is tell old mid new before more =
    let one : take (i + 1) ys ≡ take i ys ++ y ∷ [] = rw (take_more ys i d lt, is) refl in
    more ∙ rw (before, one, map_push tell (take i ys) y) (append_assoc old (map tell (take i ys)) (tell y ∷ []))
