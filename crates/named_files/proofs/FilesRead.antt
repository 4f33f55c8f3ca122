-- Files, read.
use Rattle.std.proofs.Common.{◌≡◌, ℕ, List, Option, Some, None, Result, Err, Vec, Global, refl, ap, subst}
use Rattle.rail_outside.specs.Files.{Files}
use Rattle.cli_shell.specs.declared.input.InputFile.{InputFile}
use Rattle.cli_shell.specs.declared.reply.Reply.{Reply}
use Rattle.cli_shell.specs.declared.ending.Ending.{Ending}
use Rattle.cli_shell.specs.declared.ending.Ending.TheVariants as ending
use Rattle.cli_shell.specs.Answers.{ReplySeen, within_limit}
use Rattle.cli_shell.specs.Replies.{ReadsOrEnds}
use Rattle.named_files.specs.declared.unmade.Unmade.{Unmade}
use Rattle.named_files.specs.declared.unmade.Unmade.TheVariants.{Refused}
use Rattle.named_files.specs.Replies.{Fetches, Reads}

-- where the files are known, the bytes are those of this name, and else some
pub some_fetch : (known : Option Files) (f : InputFile) (name : List ℕ) (r : Result (Vec ℕ Global) Unmade)
    → ((files : Files) → known ≡ Some files → Reads r name (within_limit f (files name)))
    → ((bytes : List ℕ) × Reads r name (within_limit f bytes)) → Fetches known f name r
some_fetch (Some files) f name r told some = record {
  bytes = files name;
  held = λ others is. let same : files ≡ others = cc in ap (λ (g : Files). g name) same;
  reads = told files refl;
}
some_fetch None f name r told some = record { bytes = some.0; held = λ others is. absurd (cc); reads = some.1 }

-- a reading that refuses
pub read_refused : (e : Ending) (reply : Reply) (name : List ℕ) (reading : Result (List ℕ) ReplySeen) → e ≡ ending.RefusedWith reply
    → ReadsOrEnds (λ (v : Vec ℕ Global). v.items) (Err e) reading → Reads (Err (Refused reply)) name reading
read_refused e reply name reading is h = subst (λ (x : Ending). ReadsOrEnds (λ (v : Vec ℕ Global). v.items) (Err x) reading) is h
