-- Lines that tell how far a search is.
use Rattle.std.proofs.Common.{◌≡◌, ℕ, List, [], ◌∷◌, ◌++◌, Option, None, Some, Result, Ok, Err, refl, ap, sym, ◌∙◌}
use Rattle.std.proofs.lemmas.List.{append-nil}
use Rattle.std.proofs.lemmas.List.Elements.{All-nil, All-cons, All-append, All-weaker}
use Rattle.rail_outside.specs.Growth.{grown}
use Rattle.rail_outside.specs.Putting.{put_pieces}
use Rattle.rail_outside.specs.declared.sink.SinkFault.{SinkFault}
use Rattle.rail_outside.specs.declared.sink.SinkFault.TheVariants.{Failed, Memory}
use Rattle.rail_outside.proofs.Printing.{grown-grown}
use Rattle.verify_loop.specs.Telling.{TellsLines}

grown-nil : {A : Type 0} (old : Option (List A)) → old ≡ grown old []
grown-nil None = refl
grown-nil (Some xs) = ap (λ ys. Some ys) (sym (append-nil xs))

module _ (Tells : List ℕ → Type 0) where
  -- nothing is told
  pub none_told : (puts : Option (List (List ℕ))) → TellsLines Tells puts puts
  none_told puts = ([], All-nil Tells, grown-nil puts)

  -- first these and then those
  pub told_more : (old mid new : Option (List (List ℕ))) → TellsLines Tells old mid → TellsLines Tells mid new → TellsLines Tells old new
  told_more old mid new one two = (
    one.0 ++ two.0,
    All-append Tells one.0 two.0 one.1 two.1,
    two.2 ∙ (ap (λ z. grown z two.0) one.2 ∙ grown-grown old one.0 two.0),
  )

  -- one line, as far as it is put
  pub told_once : {X : Type 0} (r : Result X SinkFault) (line : List ℕ) (old new : Option (List (List ℕ))) → Tells line → new ≡ grown old (put_pieces r line) → TellsLines Tells old new
  told_once (Ok x) line old new is e = (line ∷ [], All-cons Tells line [] is (All-nil Tells), e)
  told_once (Err Failed) line old new is e = (line ∷ [], All-cons Tells line [] is (All-nil Tells), e)
  told_once (Err Memory) line old new is e = ([], All-nil Tells, e)

-- the same of lines that tell something else too
pub told_else : (Tells Others : List ℕ → Type 0) → ((line : List ℕ) → Tells line → Others line) → (old new : Option (List (List ℕ))) → TellsLines Tells old new → TellsLines Others old new
told_else Tells Others also old new told = (told.0, All-weaker Tells Others also told.0 told.1, told.2)
