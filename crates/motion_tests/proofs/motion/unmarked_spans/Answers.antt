use Rattle.std.proofs.Common.{◌≡◌, ℕ, pos, ◌≤ℤ◌, ◌<ℤ◌, ◌≤◌, ◌+◌, ◌*◌, ◌++◌, List, [], ◌∷◌, All, arith}
use Rattle.std.proofs.lemmas.Int.{ints}
use Rattle.std.proofs.lemmas.List.Elements.{All-push}
use Rattle.std.proofs.lemmas.List.Quantifiers.{all_pairs_push}
use Rattle.rail_motion.specs.declared.Span.{Span}
use Rattle.rail_motion.specs.Track.{IsRising}
use Rattle.motion_tests.proofs.motion.unmarked_spans.Goals as goal

-- one span more, past those before it
push_rising : (xs ys : List Span) (y : Span) (n : ℕ) → ys ≡ xs ++ y ∷ [] → IsRising xs → All (λ s. s.end ≤ℤ pos n) xs → pos n <ℤ y.end → IsRising ys
push_rising xs ys y n is rising behind past =
    rw is (all_pairs_push (λ s t. s.end <ℤ t.end) xs y rising (λ k d l. let before = behind k d l in omega (arith, ints)))

push_behind : (xs ys : List Span) (y : Span) (n m : ℕ) → ys ≡ xs ++ y ∷ [] → All (λ s. s.end ≤ℤ pos n) xs → n ≤ m → y.end ≤ℤ pos m → All (λ s. s.end ≤ℤ pos m) ys
push_behind xs ys y n m is behind less within =
    rw is (All-push (λ s. s.end ≤ℤ pos m) xs y (λ k d l. let before = behind k d l in omega (arith, ints)) within)

pub loop-i-preserved : goal.loop-i-preserved
loop-i-preserved c =
    let invariant = c.loop-i.invariant in
    record {
      rising = push_rising _ _ _ (c.loop-i.i * 500000) c.in_ok-push.ensures.items invariant.rising invariant.behind (omega (arith, ints));
      behind = push_behind _ _ _ (c.loop-i.i * 500000) ((c.loop-i.i + 1) * 500000) c.in_ok-push.ensures.items invariant.behind (omega arith) (omega (arith, ints));
    }
