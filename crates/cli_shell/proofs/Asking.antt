-- What is asked of the shelf, one fetch after the other.
use Rattle.std.proofs.Common.{◌≡◌, List, [], ◌∷◌, ◌++◌, Option, None, Some, refl, ap, sym, ◌∙◌, append_assoc}
use Rattle.std.proofs.lemmas.List.{append-nil}
use Rattle.rail_outside.specs.Growth.{grown, GrowsByPrefix}
use Rattle.rail_outside.proofs.Printing.{grown-grown}

-- nothing more
pub grown-nothing : {A : Type 0} (reply_for : Option (List A)) → reply_for ≡ grown reply_for []
grown-nothing None = refl
grown-nothing (Some xs) = ap (λ ys. Some ys) (sym (append-nil xs))

pub none_of : {A : Type 0} (reply_for : Option (List A)) (all : List A) → GrowsByPrefix reply_for reply_for all
none_of reply_for all = ([], (all, refl), grown-nothing reply_for)

-- a prefix of the first is one of both
pub first_of_two : {A : Type 0} (a b : A) (old new : Option (List A)) → GrowsByPrefix old new (a ∷ []) → GrowsByPrefix old new (a ∷ b ∷ [])
first_of_two a b old new h = (h.0, (h.1.0 ++ b ∷ [], sym (append_assoc h.0 h.1.0 (b ∷ [])) ∙ ap (λ t. t ++ b ∷ []) h.1.1), h.2)

-- the first, and a prefix of the second
pub second_of_two : {A : Type 0} (a b : A) (old mid new : Option (List A)) → mid ≡ grown old (a ∷ []) → GrowsByPrefix mid new (b ∷ []) → GrowsByPrefix old new (a ∷ b ∷ [])
second_of_two a b old mid new first h =
    let prefix = h.0 in
    (a ∷ prefix, (h.1.0, ap (λ t. a ∷ t) h.1.1), h.2 ∙ ap (λ o. grown o prefix) first ∙ grown-grown old (a ∷ []) prefix)

-- both
pub both_of_two : {A : Type 0} (a b : A) (old mid new : Option (List A)) → mid ≡ grown old (a ∷ []) → new ≡ grown mid (b ∷ []) → GrowsByPrefix old new (a ∷ b ∷ [])
both_of_two a b old mid new first second = (a ∷ b ∷ [], ([], refl), second ∙ ap (λ o. grown o (b ∷ [])) first ∙ grown-grown old (a ∷ []) (b ∷ []))
