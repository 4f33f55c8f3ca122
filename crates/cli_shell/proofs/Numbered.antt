-- Lines written one by one, each with its number.
use Rattle.std.proofs.Common.{◌≡◌, ℕ, ◌+◌, ◌<◌, ◌≤◌, List, [], ◌∷◌, ◌++◌, length, take, map, get_or, Vec, Global, refl, ap, sym, ◌∙◌, arith, add_comm}
use Rattle.std.specs.List.{enumerate_from}
use Rattle.std.proofs.lemmas.List.{take_more, map_push, map-append, take_all}
use Rattle.std.proofs.lemmas.List.FromFn.{length-enumerate_from, get_or-enumerate_from}
use Rattle.rail_outside.specs.Lines.{lines_of}

module _ {X : Type 0} (make_reply : ℕ × X → List ℕ) (xs : List X) (i : ℕ) where
  -- the line of the entry at place i is written
  pub one_listed : (x : X) (vs : List (Vec ℕ Global)) (v : Vec ℕ Global) → i < length xs → x ≡ get_or xs i x → lines_of vs ≡ map make_reply (take i (enumerate_from 1 xs)) → v.items ≡ make_reply (i + 1, x)
      → lines_of (vs ++ v ∷ []) ≡ map make_reply (take (i + 1) (enumerate_from 1 xs))
  one_listed x vs v lt is before line =
      let ys = enumerate_from 1 xs in
      let at : get_or ys i (0, x) ≡ (i + 1, x) = get_or-enumerate_from 1 xs i (0, x) lt ∙ (ap (λ (n : ℕ). (n, get_or xs i x)) (add_comm 1 i) ∙ ap (λ (y : X). (i + 1, y)) (sym is)) in
      let within : i < length ys = omega (arith, length-enumerate_from 1 xs) in
      let more : take (i + 1) ys ≡ take i ys ++ (i + 1, x) ∷ [] = rw (take_more ys i (0, x) within, at) refl in
      map_push (λ (w : Vec ℕ Global). w.items) vs v ∙ rw (before, line, more) (sym (map-append make_reply (take i ys) ((i + 1, x) ∷ [])))

  -- all are
  pub all_listed : length xs ≤ i → map make_reply (take i (enumerate_from 1 xs)) ≡ map make_reply (enumerate_from 1 xs)
  all_listed past = ap (map make_reply) (take_all i (enumerate_from 1 xs) (omega (arith, length-enumerate_from 1 xs)))
