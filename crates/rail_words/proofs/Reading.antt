-- What the matches say is what the definition reads.
use Rattle.std.proofs.Common.{◌≡◌, Bool, List, true, false, Option, None, option_and_then, if◌then◌else◌, ap, sym, ◌∙◌}
use Rattle.std.specs.Option.{option_map_or}
use Rattle.clap.specs.Words.{Row, Text, subcommand_of}
use Rattle.rail_words.specs.FixedCommand.{rcv_app, is_taken}
use Rattle.rail_words.specs.Requests.{RequestSeen, asked_by, is_watched, is_watched_by, request_of}

pub request_of-taken : (words : List Text) → is_taken words ≡ true → request_of words ≡ option_and_then asked_by (subcommand_of rcv_app words)
unfolding request_of
request_of-taken words h = ap (λ b. if b then option_and_then asked_by (subcommand_of rcv_app words) else None) h

pub request_of-refused : (words : List Text) → is_taken words ≡ false → request_of words ≡ None
unfolding request_of
request_of-refused words h = ap (λ b. if b then option_and_then asked_by (subcommand_of rcv_app words) else None) h

pub request_of-read : (words : List Text) (rows : Option (Text × List Row)) (read : Option RequestSeen) → read ≡ option_and_then asked_by rows → rows ≡ subcommand_of rcv_app words → is_taken words ≡ true → read ≡ request_of words
request_of-read words rows read is same taken = is ∙ ap (λ o. option_and_then asked_by o) same ∙ sym (request_of-taken words taken)

pub is_watched-read : (words : List Text) (rows : Option (Text × List Row)) (read : Bool) → read ≡ option_map_or is_watched_by rows false → rows ≡ subcommand_of rcv_app words → is_taken words ≡ true → read ≡ is_watched words
unfolding is_watched
is_watched-read words rows read is same taken = is ∙ ap (λ o. option_map_or is_watched_by o false) same ∙ sym (ap (λ b. if b then option_map_or is_watched_by (subcommand_of rcv_app words) false else false) taken)
