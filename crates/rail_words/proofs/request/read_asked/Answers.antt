use Rattle.std.proofs.Common.{◌≡◌, option_map, ap, sym, ◌∙◌, Ok}
use Rattle.rail_words.specs.Requests.{request_of}
use Rattle.rail_words.specs.Words.{request_seen, texts_of}
use Rattle.rail_words.proofs.Reading.{request_of-read, request_of-refused, is_watched-read}
use Rattle.rail_words.proofs.Ranges.{answer_in_range}
use Rattle.rail_words.proofs.request.read_asked.Goals as goal

pub returns-in_default-clause-usage : goal.returns-in_default-clause-usage
returns-in_default-clause-usage c = λ e.
    let read : option_map request_seen c.request_in.result ≡ request_of (texts_of c.args.words.now) = request_of-read _ _ _ c.request_in.ensures c.in-Ok.ensures.subcommand c.in-Ok.ensures.taken in
    sym read ∙ ap (λ r. option_map request_seen r) c.in_default.is

pub returns-in-Some-clause-ok : goal.returns-in-Some-clause-ok
returns-in-Some-clause-ok c =
    let read : option_map request_seen c.request_in.result ≡ request_of (texts_of c.args.words.now) = request_of-read _ _ _ c.request_in.ensures c.in-Ok.ensures.subcommand c.in-Ok.ensures.taken in
    sym read ∙ ap (λ r. option_map request_seen r) c.in-Some.is

pub returns-in-Some-clause-watched : goal.returns-in-Some-clause-watched
returns-in-Some-clause-watched c = is_watched-read _ _ _ c.is_watched-watched.ensures c.in-Ok.ensures.subcommand c.in-Ok.ensures.taken

pub returns-in-Some-clause-range : goal.returns-in-Some-clause-range
returns-in-Some-clause-range c = answer_in_range (texts_of c.args.words.now) (Ok c.in-Some.request) (returns-in-Some-clause-ok c)

pub returns-in-Err-clause-usage : goal.returns-in-Err-clause-usage
returns-in-Err-clause-usage c = λ e. request_of-refused (texts_of c.args.words.now) (c.in-Err.ensures.usage (cc))
