use Rattle.std.proofs.Common.{◌≡◌, ◌+◌, ◌++◌, ◌∷◌, [], true, false, List, Vec, Global, ap, drop, filter, map, subst, sym, ◌∙◌}
use Rattle.std.specs.Borrow.{Bor}
use Rattle.std.proofs.lemmas.List.{drop_more}
use Rattle.std.specs.List.{list_any}
use Rattle.evidence_words.specs.Failings.{FailingSeen, seen}
use Rattle.evidence_words.specs.declared.failing.Failing.{Failing}
use Rattle.proof_words.specs.Said.{lent_seen}
use Rattle.proof_words.specs.Summaries.{is_same, one_of_each}
use Rattle.proof_words.proofs.Firsts.{filter_none, is_new, lent_added, turn_added, turn_known}
use Rattle.proof_words.proofs.summary.one_of_each.Goals as goal
use Rattle.proof_words.proofs.summary.one_of_each.Goals.{then-not-has_same+in_ok-push, else-not-has_same}

pub loop-failing-init : goal.loop-failing-init
loop-failing-init c = rw c.new-kinds.ensures.items (filter_none (one_of_each (map seen c.args.failings.now)))

pub loop-failing-preserved : goal.loop-failing-preserved
loop-failing-preserved c =
    let l = c.loop-failing in
    let fs = c.args.failings.now in
    let f = c.failing-item.result in
    let ks = lent_seen l.kinds.items in
    let rest = map seen (drop (l.failing-index + 1) fs) in
    let all = one_of_each (map seen fs) in
    let split : drop l.failing-index fs ≡ f ∷ drop (l.failing-index + 1) fs = drop_more fs l.failing-index f c.loop-failing-test.true ∙ ap (λ (g : Failing). g ∷ drop (l.failing-index + 1) fs) (sym c.failing-item.is) in
    let so : ks ++ filter (is_new ks) (one_of_each (seen f ∷ rest)) ≡ all = subst (λ (gs : List Failing). ks ++ filter (is_new ks) (one_of_each (map seen gs)) ≡ all) split l.invariant in
    let told : c.has_same.result ≡ list_any (λ k. is_same k (seen f)) ks = rw c.deref.ensures.value at c.has_same.ensures in
    elim c.if-not-has_same.branch [
      | then-not-has_same+in_ok-push w ↦
          let isnt : list_any (λ k. is_same k (seen f)) ks ≡ false = sym told ∙ w.if-not-has_same.true in
          let now : lent_seen c.if-not-has_same.kinds.items ≡ ks ++ seen f ∷ [] =
          ap (λ (v : Vec (Bor Failing) Global). lent_seen v.items) w.kinds-is ∙ (ap lent_seen w.in_ok-push.ensures.items ∙ lent_added l.kinds.items _) in
          subst (λ (gs : List FailingSeen). gs ++ filter (is_new gs) (one_of_each rest) ≡ all) (sym now) (turn_added ks (seen f) rest all isnt so)
      | else-not-has_same w ↦
          let is : list_any (λ k. is_same k (seen f)) ks ≡ true = sym told ∙ w.if-not-has_same.false in
          let now : lent_seen c.if-not-has_same.kinds.items ≡ ks = ap (λ (v : Vec (Bor Failing) Global). lent_seen v.items) w.kinds-is in
          subst (λ (gs : List FailingSeen). gs ++ filter (is_new gs) (one_of_each rest) ≡ all) (sym now) (turn_known ks (seen f) rest all is so)
    ]
