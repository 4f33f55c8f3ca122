-- Where the end of authority is ahead, or there is none, a train moves.
use Rattle.std.proofs.Common.{◌≡◌, ℕ, zero, suc, ◌+◌, ◌-◌, ◌≤◌, ◌<◌, ◌⊎◌, inl, inr, min, max, Bool, true, false, if◌then◌else◌, List, [], ◌∷◌, nat_le, Option, None, Some, refl, sym, ap, subst, ◌∙◌, arith, le-leb, eq-or-lt_of_le, true≢false}
use Rattle.rail_base.specs.Members.{In}
use Rattle.rail_base.specs.Numbering.{greatest}
use Rattle.rail_spec.specs.Motion.{MotorSeen, SpanSeen, keeps_limits, may_stop, can_brake, reach, permitted, next_speed}
use Rattle.rail_laws.specs.Progress.{MayMove}
use Rattle.rail_base.proofs.Members.{and_both, or_right}

-- a speed within all limits keeps them
keeps_slow : (ss : List SpanSeen) (x y u : ℕ) → ((s : SpanSeen) → In s ss → u ≤ s.limit) → keeps_limits ss x y u ≡ true
keeps_slow [] x y u h = refl
keeps_slow (s ∷ rest) x y u h = and_both _ _ (or_right (nat_le (min s.end y) x) _ (le-leb u s.limit (h s (inl refl)))) (keeps_slow rest (max x s.end) y u (λ z m. h z (inr m)))

may_stop_next : (end : Option ℕ) (x : ℕ) → MayMove end x → may_stop end (x + 1) ≡ true
may_stop_next None x h = refl
may_stop_next (Some e) x h = le-leb (x + 1) e (omega arith)

pub permitted_one : (m : MotorSeen) (ss : List SpanSeen) (end : Option ℕ) (x v : ℕ) → 1 ≤ m.accel → 1 ≤ m.brake → 1 ≤ m.top → ((s : SpanSeen) → In s ss → 1 ≤ s.limit) → MayMove end x → permitted m ss end x v 1 ≡ true
permitted_one m ss end x v gains slows fast limits may =
    and_both _ _ (le-leb 1 (reach m v) (omega arith))
    (and_both _ _ (keeps_slow ss (x - m.tail) (x + 1) 1 limits) (let none : 1 - m.brake ≡ 0 = omega arith in subst (λ u. can_brake 0 m.brake m.tail ss end (x + 1) u ≡ true) (sym none) (may_stop_next end x may)))

pub greatest_above : (test : ℕ → Bool) (n r : ℕ) → r ≤ n → test r ≡ true → r ≤ greatest test n
greatest_above test zero r within passes = within
greatest_above test (suc n) r within passes = go (test (suc n)) refl (eq-or-lt_of_le within) (greatest_above test n r)
  where
    go : (b : Bool) → test (suc n) ≡ b → (r ≡ suc n) ⊎ (r < suc n) → (r ≤ n → test r ≡ true → r ≤ greatest test n) → r ≤ (if b then suc n else greatest test n)
    go true e h below = within
    go false e (inl same) below = absurd (true≢false (sym passes ∙ ap test same ∙ e))
    go false e (inr less) below = below (omega arith) passes

pub moves_on : (m : MotorSeen) (ss : List SpanSeen) (end : Option ℕ) (x v : ℕ) → 1 ≤ m.accel → 1 ≤ m.brake → 1 ≤ m.top → ((s : SpanSeen) → In s ss → 1 ≤ s.limit) → MayMove end x → 1 ≤ next_speed m ss end x v
moves_on m ss end x v gains slows fast limits may = greatest_above (permitted m ss end x v) (reach m v) 1 (omega arith) (permitted_one m ss end x v gains slows fast limits may)
