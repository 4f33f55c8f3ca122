use Rattle.std.proofs.Common.{rules, Option, None, Some, Err, refl, sym, subst}
use Rattle.rail_words.specs.Requests.{RequestSeen, request_of}
use Rattle.rail_words.specs.Words.{texts_of, request_seen}
use Rattle.cli_shell.specs.declared.ending.Ending.TheVariants.{Memory}
use Rattle.rail_cli.specs.Replies.{RepliesSo}
use Rattle.rail_cli.proofs.Deciding.{done_where_feasible}
use Rattle.rail_cli.proofs.Finding.{usage_so, want_so}
use Rattle.rail_cli.proofs.Leaving.{asked_leaves}
use Rattle.rail_cli.proofs.Trying.{tries_asked, tries_want}
use Rattle.rail_cli.proofs.AnyShelf.{asks_some, some_usage, some_wanting}
use Rattle.rail_cli.proofs.Telling.{nothing_told, asked_tells}
use Rattle.rail_cli.proofs.run.reply.Goals as goal

pub returns-in-Ok-clause-replies : goal.returns-in-Ok-clause-replies
returns-in-Ok-clause-replies g c = λ files reply_for. subst (λ (a : Option RequestSeen). RepliesSo c.asked_reply.result files a) (sym c.in-Ok.ensures.ok) (c.asked_reply.ensures.replies files reply_for)

pub returns-in-Ok-clause-done : goal.returns-in-Ok-clause-done
returns-in-Ok-clause-done g c = λ files reply_for.
    let so = c.asked_reply.ensures.replies files reply_for in
    done_where_feasible files so.0 (texts_of c.args.words.now) (request_seen c.in-Ok.asked.request) c.asked_reply.result c.in-Ok.ensures.ok so.2 c.asked_reply.ensures.refuses (c.asked_reply.ensures.decides files reply_for)

pub returns-in-Ok-clause-stored : goal.returns-in-Ok-clause-stored
returns-in-Ok-clause-stored g c = asked_leaves c.asked_reply.result (g.S.Shelf.known_files c.args.shelf.now) (g.S.Shelf.known_files c.asked_reply.new.shelf) (request_of (texts_of c.args.words.now)) (Some (request_seen c.in-Ok.asked.request)) c.in-Ok.ensures.ok c.asked_reply.ensures.stored

pub returns-in_err-usage-in-Err-Usage-clause-replies : goal.returns-in_err-usage-in-Err-Usage-clause-replies
returns-in_err-usage-in-Err-Usage-clause-replies g c = λ files reply_for. want_so _ files (request_of (texts_of c.args.words.now)) (search rules)

pub returns-in_ok-usage-in-Err-Usage-clause-replies : goal.returns-in_ok-usage-in-Err-Usage-clause-replies
returns-in_ok-usage-in-Err-Usage-clause-replies g c = λ files reply_for. usage_so files (request_of (texts_of c.args.words.now)) c.in_ok-usage-in-Err-Usage.field-0 (search rules) (search rules)

pub returns-in-Err-Memory-clause-replies : goal.returns-in-Err-Memory-clause-replies
returns-in-Err-Memory-clause-replies g c = λ files reply_for. want_so (Err Memory) files (request_of (texts_of c.args.words.now)) refl

pub returns-in-Ok-clause-tries : goal.returns-in-Ok-clause-tries
returns-in-Ok-clause-tries g c = tries_asked c.asked_reply.result (request_of (texts_of c.args.words.now)) (Some (request_seen c.in-Ok.asked.request)) c.in-Ok.ensures.ok c.asked_reply.ensures.tries

pub returns-in_err-usage-in-Err-Usage-clause-tries : goal.returns-in_err-usage-in-Err-Usage-clause-tries
returns-in_err-usage-in-Err-Usage-clause-tries g c = tries_want _ (request_of (texts_of c.args.words.now)) (search rules)

pub returns-in_ok-usage-in-Err-Usage-clause-tries : goal.returns-in_ok-usage-in-Err-Usage-clause-tries
returns-in_ok-usage-in-Err-Usage-clause-tries g c = tries_asked _ (request_of (texts_of c.args.words.now)) None (search rules) tt

pub returns-in-Err-Memory-clause-tries : goal.returns-in-Err-Memory-clause-tries
returns-in-Err-Memory-clause-tries g c = tries_want (Err Memory) (request_of (texts_of c.args.words.now)) refl

pub returns-in-Ok-clause-for_some_files : goal.returns-in-Ok-clause-for_some_files
returns-in-Ok-clause-for_some_files g c = asks_some c.asked_reply.result (request_of (texts_of c.args.words.now)) (Some (request_seen c.in-Ok.asked.request)) c.in-Ok.ensures.ok c.asked_reply.ensures.for_some_files

pub returns-in_err-usage-in-Err-Usage-clause-for_some_files : goal.returns-in_err-usage-in-Err-Usage-clause-for_some_files
returns-in_err-usage-in-Err-Usage-clause-for_some_files g c = some_wanting _ (request_of (texts_of c.args.words.now)) (search rules)

pub returns-in_ok-usage-in-Err-Usage-clause-for_some_files : goal.returns-in_ok-usage-in-Err-Usage-clause-for_some_files
returns-in_ok-usage-in-Err-Usage-clause-for_some_files g c = asks_some _ (request_of (texts_of c.args.words.now)) None (search rules) (some_usage _ c.in_ok-usage-in-Err-Usage.field-0 refl (search rules))

pub returns-in-Err-Memory-clause-for_some_files : goal.returns-in-Err-Memory-clause-for_some_files
returns-in-Err-Memory-clause-for_some_files g c = some_wanting (Err Memory) (request_of (texts_of c.args.words.now)) refl

pub returns-in-Ok-clause-tells : goal.returns-in-Ok-clause-tells
returns-in-Ok-clause-tells g c = λ files reply_for. asked_tells files (request_of (texts_of c.args.words.now)) (request_seen c.in-Ok.asked.request) _ _ c.in-Ok.ensures.ok (c.asked_reply.ensures.tells files reply_for)

pub returns-in_err-usage-in-Err-Usage-clause-tells : goal.returns-in_err-usage-in-Err-Usage-clause-tells
returns-in_err-usage-in-Err-Usage-clause-tells g c = λ files reply_for. nothing_told files (request_of (texts_of c.args.words.now)) _

pub returns-in_ok-usage-in-Err-Usage-clause-tells : goal.returns-in_ok-usage-in-Err-Usage-clause-tells
returns-in_ok-usage-in-Err-Usage-clause-tells g c = λ files reply_for. nothing_told files (request_of (texts_of c.args.words.now)) _

pub returns-in-Err-Memory-clause-tells : goal.returns-in-Err-Memory-clause-tells
returns-in-Err-Memory-clause-tells g c = λ files reply_for. nothing_told files (request_of (texts_of c.args.words.now)) _
