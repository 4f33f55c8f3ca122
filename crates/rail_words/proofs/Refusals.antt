-- An error that is none of memory comes only where the command does not take the words.
use Rattle.std.proofs.Common.{◌≡◌, ◌<◌, List, [], ◌∷◌, true, false, length, nat_eq, refl, inl, inr, arith}
use Rattle.std.proofs.lemmas.Bool.Decides.{nat_tests}
use Rattle.clap.specs.Words.{App, Text, fault_of, is_simple, is_simple_and_free, HasKind, HasMatchesOf, kind_of, subcommand_of, subcommand_rows_of}
use Rattle.clap.specs.declared.parser.matches.ArgMatches.{ArgMatches}
use Rattle.clap.specs.declared.error.Error.{Error}
use Rattle.clap.specs.declared.error.kind.ErrorKind.{ErrorKind}
use Rattle.clap.specs.declared.error.kind.ErrorKind.TheVariants.{OutOfMemory}
use Rattle.clap.proofs.OnLiterals.{clap_on_literals}
use Rattle.rail_words.specs.FixedCommand.{rcv_app, is_taken}

rcv_is_simple : is_simple_and_free rcv_app ≡ true
unfolding clap_on_literals
rcv_is_simple = refl

some_kind : (e : Error) (kinds : List ErrorKind) → HasKind kinds e → (kind_of e ≡ OutOfMemory → ⊥) → nat_eq (length kinds) 0 ≡ false
some_kind e [] has other = absurd (elim has [ inl memory ↦ other memory | inr among ↦ among ])
some_kind e (k ∷ ks) has other = let more : 0 < length (k ∷ ks) = omega arith in grind (arith, nat_tests)

pub not_taken : (app : App) (words : List Text) (e : Error) → app ≡ rcv_app → (is_simple_and_free app ≡ true → HasKind (fault_of app words) e) → (kind_of e ≡ OutOfMemory → ⊥) → is_taken words ≡ false
not_taken app words e same has other =
    let kinds : HasKind (fault_of rcv_app words) e = rw same at (has (rw (same, rcv_is_simple) refl)) in
    some_kind e (fault_of rcv_app words) kinds other

-- what is parsed is taken
pub taken : (app : App) (words : List Text) → app ≡ rcv_app → (is_simple_and_free app ≡ true → fault_of app words ≡ []) → is_taken words ≡ true
taken app words same none =
    let no_fault : fault_of rcv_app words ≡ [] = rw same at (none (rw (same, rcv_is_simple) refl)) in
    rw no_fault refl

rcv_has_rows : is_simple rcv_app ≡ true
unfolding clap_on_literals
rcv_has_rows = refl

-- the subcommand's matches are those that the words name
pub rows_named : (app : App) (words : List Text) (m : ArgMatches) → app ≡ rcv_app → HasMatchesOf app words m → subcommand_rows_of m ≡ subcommand_of rcv_app words
rows_named app words m same has = rw same at (has (rw (same, rcv_has_rows) refl)).1
