-- What a table holds that grew key by key.
use Rattle.std.proofs.Common.{◌≡◌, ℕ, true, false, inl, inr, ◌⊎◌, Ordering, Less, Equal, Greater, nat_cmp, List, option_map, refl, sym, subst}
use Rattle.std.proofs.lemmas.Bool.{cases_Bool, false≢true}
use Rattle.std.proofs.lemmas.Map.Lookups.{exact_bytes}
use Rattle.std.specs.Cmp.Lexicographic.{slice_cmp}
use Rattle.design_table.specs.declared.key.Key.{Key}
use Rattle.design_table.specs.Forms.{is_known, has_unknown}
use Rattle.toml.specs.Data.{same_key, get_member}
use Rattle.toml.specs.Tables.{Node, Nodes, no_nodes, node, close, close_node, get_node, insert}

pub cases_ordering : (o : Ordering) → (o ≡ Less) ⊎ ((o ≡ Equal) ⊎ (o ≡ Greater))
cases_ordering Less = inl refl
cases_ordering Equal = inr (inl refl)
cases_ordering Greater = inr (inr refl)

-- keys that compare as equal are one
pub same_from : (k l : List ℕ) → slice_cmp nat_cmp k l ≡ Equal → k ≡ l
same_from k l h = exact_bytes k l h

-- another key holds what it held
pub insert_other : (q k : List ℕ) (x : Node) (ns : Nodes) → same_key q k ≡ false → get_node q (insert k x ns) ≡ get_node q ns
insert_other q k x no_nodes other = rw other refl
insert_other q k x (node l y ns) other =
    elim (cases_ordering (slice_cmp nat_cmp k l)) [
      | inl less ↦ rw (less, other) refl
      | inr more ↦ elim more [
        | inl tie ↦
            let apart : same_key q l ≡ false = subst (λ m. same_key q m ≡ false) (same_from k l tie) other in
            rw (tie, apart) refl
        | inr later ↦ elim (cases_Bool (same_key q l)) [
          | inl here ↦ rw (later, here) refl
          | inr there ↦ rw (later, there) (insert_other q k x ns other)
        ]
      ]
    ]

-- what a key holds in the table that was read
pub get_closed : (q : List ℕ) (ns : Nodes) → get_member q (close ns) ≡ option_map close_node (get_node q ns)
get_closed q no_nodes = refl
get_closed q (node l y ns) =
    elim (cases_ordering (slice_cmp nat_cmp q l)) [
      | inl less ↦ rw less (get_closed q ns)
      | inr more ↦ elim more [
        | inl tie ↦ rw tie refl
        | inr later ↦ rw later (get_closed q ns)
      ]
    ]

-- no key is unknown that was not before
pub still_known : (known : List Key) (k : List ℕ) (x : Node) (ns : Nodes) → is_known known k ≡ true → has_unknown known (close ns) ≡ false → has_unknown known (close (insert k x ns)) ≡ false
still_known known k x no_nodes new old = rw new refl
still_known known k x (node l y ns) new old =
    elim (cases_ordering (slice_cmp nat_cmp k l)) [
      | inl less ↦ rw (less, new) old
      | inr more ↦ elim more [
        | inl tie ↦ rw tie old
        | inr later ↦ elim (cases_Bool (is_known known l)) [
          | inl here ↦ rw (later, here) (still_known known k x ns new (rw here at old))
          | inr there ↦ absurd (false≢true (sym (rw there at old)))
        ]
      ]
    ]
