use Rattle.std.proofs.Common.{ap, [], ◌∷◌, codes}
use Rattle.rail_words.specs.Requests.{request_of}
use Rattle.rail_words.proofs.Timed.{in_time_read}
use Rattle.why_words.specs.Wanted.{by_check, of_design, or_else, words_with_proof}
use Rattle.why_words.proofs.laws.time_and_steps_are_read.Goals as goal

pub returns : goal.returns
returns c = λ program within max_ms steps design file w x n a b is plain_design plain_file.
    ap (λ request. or_else (by_check request) (of_design (by_check (request_of (words_with_proof (program ∷ codes "--within" ∷ within ∷ codes "--max-ms" ∷ max_ms ∷ codes "--steps" ∷ steps ∷ design ∷ file ∷ []))))))
    (in_time_read program within max_ms steps design file w x n a b is plain_design plain_file)
