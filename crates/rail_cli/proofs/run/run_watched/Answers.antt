use Rattle.std.proofs.Common.{rules, ◌≡◌, ◌↔◌, Err, Ok, None, refl}
use Rattle.rail_spelling.proofs.Asked.{trial_asked}
use Rattle.rail_words.specs.Words.{texts_of}
use Rattle.rail_words.specs.Requests.{request_of}
use Rattle.rail_words.proofs.Asks.{silence_has_a_cause}
use Rattle.rail_cli.specs.Ended.{none_ended}
use Rattle.cli_shell.specs.declared.status.Status.TheVariants.{Usage}
use Rattle.rail_cli.specs.Answers.{answer_of}
use Rattle.rail_cli.specs.Searches.{Leaves}
use Rattle.rail_cli.specs.Simulations.{DoneWhereFeasible}
use Rattle.cli_shell.proofs.Deciding.{told_reply}
use Rattle.rail_cli.proofs.Finding.{may_want, finds_so, told_so, run_so, run_infeasible, run_met, tells_plan, tells_none}
use Rattle.rail_cli.proofs.Shortly.{no_verdict, simulated, checked, found, found_none}
use Rattle.rail_cli.proofs.TimeShortly.{checked_in_time, found_least, found_no_time}
use Rattle.rail_cli.proofs.TimeTelling.{tells_least, tells_no_time}
use Rattle.rail_cli.proofs.Leaving.{told_status, run_leaves}
use Rattle.rail_cli.proofs.Trying.{tries_trial, told_trial_reply, tells_nothing, tells_trial}
use Rattle.cli_shell.proofs.Silence.{silent_for_memory, silent_at_shelf}
use Rattle.rail_cli.proofs.Verdicts.{run_comes, no_answer}
use Rattle.rail_cli.proofs.AnyShelf.{prints_some, prints_told, want_prints, fault_prints}
use Rattle.rail_cli.proofs.run.run_watched.Goals as goal

pub returns-in-Ok-clause-answer : goal.returns-in-Ok-clause-answer
returns-in-Ok-clause-answer g c = λ files reply_for. run_so files (texts_of c.args.words.now) c.in-Ok.reply c.print.result _ _ _ _ (c.in-Ok.ensures.replies files reply_for) c.print.ensures.prints

pub returns-in-Ok-clause-met : goal.returns-in-Ok-clause-met
returns-in-Ok-clause-met g c = λ files reply_for d plan s answered. run_met files (texts_of c.args.words.now) c.in-Ok.reply c.print.result _ _ _ _ (c.in-Ok.ensures.replies files reply_for) (c.in-Ok.ensures.done files reply_for) c.print.ensures.prints d plan s answered

pub returns-in-Ok-clause-infeasible : goal.returns-in-Ok-clause-infeasible
returns-in-Ok-clause-infeasible g c = λ files reply_for n d checks done. run_infeasible files (texts_of c.args.words.now) c.in-Ok.reply c.print.result _ _ _ _ n d (c.in-Ok.ensures.replies files reply_for) c.print.ensures.prints checks done

pub returns-in-Ok-clause-planned : goal.returns-in-Ok-clause-planned
returns-in-Ok-clause-planned g c = λ files reply_for n d s done. tells_plan files (texts_of c.args.words.now) n d s c.in-Ok.reply c.print.result _ _ _ _ (c.in-Ok.ensures.replies files reply_for) c.print.ensures.prints done

pub returns-in-Ok-clause-stored : goal.returns-in-Ok-clause-stored
returns-in-Ok-clause-stored g c = run_leaves (request_of (texts_of c.args.words.now)) c.in-Ok.reply.status c.print.result (g.S.Shelf.known_files c.args.shelf.now) (g.S.Shelf.known_files c.reply.new.shelf) c.in-Ok.reply.answered c.print.ensures.prints.status c.print.ensures.no_shelf c.in-Ok.ensures.stored

pub returns-in-Ok-clause-proven : goal.returns-in-Ok-clause-proven
returns-in-Ok-clause-proven g c = λ files reply_for n d s no. tells_none files (texts_of c.args.words.now) n d s c.in-Ok.reply c.print.result _ _ _ _ (c.in-Ok.ensures.replies files reply_for) c.print.ensures.prints _ _ reply_for
    (run_leaves (request_of (texts_of c.args.words.now)) c.in-Ok.reply.status c.print.result (g.S.Shelf.known_files c.args.shelf.now) (g.S.Shelf.known_files c.reply.new.shelf) c.in-Ok.reply.answered c.print.ensures.prints.status c.print.ensures.no_shelf c.in-Ok.ensures.stored) no

pub returns-in-Err-RefusedWith-clause-answer : goal.returns-in-Err-RefusedWith-clause-answer
returns-in-Err-RefusedWith-clause-answer g c = λ files reply_for. run_so files (texts_of c.args.words.now) c.in-Err-RefusedWith.reply c.print-in-Err-RefusedWith.result _ _ _ _ (told_so c.in-Err-RefusedWith.field-0 c.in-Err-RefusedWith.reply files (request_of (texts_of c.args.words.now)) c.in-Err-RefusedWith.field-0-is (c.in-Err-RefusedWith.ensures.replies files reply_for)) c.print-in-Err-RefusedWith.ensures.prints

pub returns-in-Err-RefusedWith-clause-met : goal.returns-in-Err-RefusedWith-clause-met
returns-in-Err-RefusedWith-clause-met g c = λ files reply_for d plan s answered. run_met files (texts_of c.args.words.now) c.in-Err-RefusedWith.reply c.print-in-Err-RefusedWith.result _ _ _ _ (told_so c.in-Err-RefusedWith.field-0 c.in-Err-RefusedWith.reply files (request_of (texts_of c.args.words.now)) c.in-Err-RefusedWith.field-0-is (c.in-Err-RefusedWith.ensures.replies files reply_for)) (told_reply c.in-Err-RefusedWith.field-0 c.in-Err-RefusedWith.reply (λ reply. DoneWhereFeasible files (texts_of c.args.words.now) reply.status) c.in-Err-RefusedWith.field-0-is (c.in-Err-RefusedWith.ensures.done files reply_for)) c.print-in-Err-RefusedWith.ensures.prints d plan s answered

pub returns-in-Err-RefusedWith-clause-infeasible : goal.returns-in-Err-RefusedWith-clause-infeasible
returns-in-Err-RefusedWith-clause-infeasible g c = λ files reply_for n d checks done. run_infeasible files (texts_of c.args.words.now) c.in-Err-RefusedWith.reply c.print-in-Err-RefusedWith.result _ _ _ _ n d (told_so c.in-Err-RefusedWith.field-0 c.in-Err-RefusedWith.reply files (request_of (texts_of c.args.words.now)) c.in-Err-RefusedWith.field-0-is (c.in-Err-RefusedWith.ensures.replies files reply_for)) c.print-in-Err-RefusedWith.ensures.prints checks done

pub returns-in-Err-RefusedWith-clause-planned : goal.returns-in-Err-RefusedWith-clause-planned
returns-in-Err-RefusedWith-clause-planned g c = λ files reply_for n d s done. tells_plan files (texts_of c.args.words.now) n d s c.in-Err-RefusedWith.reply c.print-in-Err-RefusedWith.result _ _ _ _ (told_so c.in-Err-RefusedWith.field-0 c.in-Err-RefusedWith.reply files (request_of (texts_of c.args.words.now)) c.in-Err-RefusedWith.field-0-is (c.in-Err-RefusedWith.ensures.replies files reply_for)) c.print-in-Err-RefusedWith.ensures.prints done

pub returns-in-Err-RefusedWith-clause-stored : goal.returns-in-Err-RefusedWith-clause-stored
returns-in-Err-RefusedWith-clause-stored g c = run_leaves (request_of (texts_of c.args.words.now)) c.in-Err-RefusedWith.reply.status c.print-in-Err-RefusedWith.result (g.S.Shelf.known_files c.args.shelf.now) (g.S.Shelf.known_files c.reply.new.shelf) c.in-Err-RefusedWith.reply.answered c.print-in-Err-RefusedWith.ensures.prints.status c.print-in-Err-RefusedWith.ensures.no_shelf (told_status c.in-Err-RefusedWith.field-0 c.in-Err-RefusedWith.reply (λ s. Leaves (request_of (texts_of c.args.words.now)) s (g.S.Shelf.known_files c.args.shelf.now) (g.S.Shelf.known_files c.reply.new.shelf)) c.in-Err-RefusedWith.field-0-is c.in-Err-RefusedWith.ensures.stored)

pub returns-in-Err-RefusedWith-clause-proven : goal.returns-in-Err-RefusedWith-clause-proven
returns-in-Err-RefusedWith-clause-proven g c = λ files reply_for n d s no. tells_none files (texts_of c.args.words.now) n d s c.in-Err-RefusedWith.reply c.print-in-Err-RefusedWith.result _ _ _ _ (told_so c.in-Err-RefusedWith.field-0 c.in-Err-RefusedWith.reply files (request_of (texts_of c.args.words.now)) c.in-Err-RefusedWith.field-0-is (c.in-Err-RefusedWith.ensures.replies files reply_for)) c.print-in-Err-RefusedWith.ensures.prints _ _ reply_for
    (run_leaves (request_of (texts_of c.args.words.now)) c.in-Err-RefusedWith.reply.status c.print-in-Err-RefusedWith.result (g.S.Shelf.known_files c.args.shelf.now) (g.S.Shelf.known_files c.reply.new.shelf) c.in-Err-RefusedWith.reply.answered c.print-in-Err-RefusedWith.ensures.prints.status c.print-in-Err-RefusedWith.ensures.no_shelf (told_status c.in-Err-RefusedWith.field-0 c.in-Err-RefusedWith.reply (λ s. Leaves (request_of (texts_of c.args.words.now)) s (g.S.Shelf.known_files c.args.shelf.now) (g.S.Shelf.known_files c.reply.new.shelf)) c.in-Err-RefusedWith.field-0-is c.in-Err-RefusedWith.ensures.stored)) no

pub returns-in-Err-Memory-clause-answer : goal.returns-in-Err-Memory-clause-answer
returns-in-Err-Memory-clause-answer g c = λ files reply_for. (none_ended, finds_so files (request_of (texts_of c.args.words.now)) none_ended (may_want files (request_of (texts_of c.args.words.now))), silent_for_memory (answer_of files none_ended (texts_of c.args.words.now)) _ _)

pub returns-in-Err-ShelfFault-clause-answer : goal.returns-in-Err-ShelfFault-clause-answer
returns-in-Err-ShelfFault-clause-answer g c = λ files reply_for. (none_ended, finds_so files (request_of (texts_of c.args.words.now)) none_ended (may_want files (request_of (texts_of c.args.words.now))), silent_at_shelf (answer_of files none_ended (texts_of c.args.words.now)) _ _)

pub returns-in-Ok-clause-tried : goal.returns-in-Ok-clause-tried
returns-in-Ok-clause-tried g c = λ seed size asked. tells_trial seed size c.print.result _ _ _ _ c.in-Ok.reply (tries_trial (Ok c.in-Ok.reply) seed size (request_of (texts_of c.args.words.now)) asked c.in-Ok.ensures.tries) c.print.ensures.prints

pub returns-in-Err-RefusedWith-clause-tried : goal.returns-in-Err-RefusedWith-clause-tried
returns-in-Err-RefusedWith-clause-tried g c = λ seed size asked. tells_trial seed size c.print-in-Err-RefusedWith.result _ _ _ _ c.in-Err-RefusedWith.reply
    (told_trial_reply c.in-Err-RefusedWith.field-0 c.in-Err-RefusedWith.reply seed size c.in-Err-RefusedWith.field-0-is (tries_trial (Err c.in-Err-RefusedWith.field-0) seed size (request_of (texts_of c.args.words.now)) asked c.in-Err-RefusedWith.ensures.tries)) c.print-in-Err-RefusedWith.ensures.prints

pub returns-in-Err-Memory-clause-tried : goal.returns-in-Err-Memory-clause-tried
returns-in-Err-Memory-clause-tried g c = λ seed size asked. tells_nothing seed size _ _ _ refl

pub returns-in-Err-ShelfFault-clause-tried : goal.returns-in-Err-ShelfFault-clause-tried
returns-in-Err-ShelfFault-clause-tried g c = λ seed size asked. tells_nothing seed size _ _ _ refl

pub returns-in-Ok-clause-usage : goal.returns-in-Ok-clause-usage
returns-in-Ok-clause-usage g c = λ answered.
    let same : (c.print.result ≡ Usage) ↔ (request_of (texts_of c.args.words.now) ≡ None) = search rules in
    let law = silence_has_a_cause (texts_of c.args.words.now) in
    (λ is. law.0 (same.0 is), λ nothing. same.1 (law.1 nothing))

pub returns-in-Err-RefusedWith-clause-usage : goal.returns-in-Err-RefusedWith-clause-usage
returns-in-Err-RefusedWith-clause-usage g c = λ answered.
    let same : (c.print-in-Err-RefusedWith.result ≡ Usage) ↔ (request_of (texts_of c.args.words.now) ≡ None) = search rules in
    let law = silence_has_a_cause (texts_of c.args.words.now) in
    (λ is. law.0 (same.0 is), λ nothing. same.1 (law.1 nothing))

pub returns-in-Ok-clause-has_verdict : goal.returns-in-Ok-clause-has_verdict
returns-in-Ok-clause-has_verdict g c = λ files reply_for. run_comes files (texts_of c.args.words.now) c.print.result _ _ _ _ (run_so files (texts_of c.args.words.now) c.in-Ok.reply c.print.result _ _ _ _ (c.in-Ok.ensures.replies files reply_for) c.print.ensures.prints)

pub returns-in-Err-RefusedWith-clause-has_verdict : goal.returns-in-Err-RefusedWith-clause-has_verdict
returns-in-Err-RefusedWith-clause-has_verdict g c = λ files reply_for. run_comes files (texts_of c.args.words.now) c.print-in-Err-RefusedWith.result _ _ _ _
    (run_so files (texts_of c.args.words.now) c.in-Err-RefusedWith.reply c.print-in-Err-RefusedWith.result _ _ _ _ (told_so c.in-Err-RefusedWith.field-0 c.in-Err-RefusedWith.reply files (request_of (texts_of c.args.words.now)) c.in-Err-RefusedWith.field-0-is (c.in-Err-RefusedWith.ensures.replies files reply_for)) c.print-in-Err-RefusedWith.ensures.prints)

pub returns-in-Err-Memory-clause-has_verdict : goal.returns-in-Err-Memory-clause-has_verdict
returns-in-Err-Memory-clause-has_verdict g c = λ files reply_for u answered. no_answer files (request_of (texts_of c.args.words.now)) _ refl answered

pub returns-in-Err-ShelfFault-clause-has_verdict : goal.returns-in-Err-ShelfFault-clause-has_verdict
returns-in-Err-ShelfFault-clause-has_verdict g c = λ files reply_for u answered. no_answer files (request_of (texts_of c.args.words.now)) _ refl answered

pub returns-in-Ok-clause-for_some_files : goal.returns-in-Ok-clause-for_some_files
returns-in-Ok-clause-for_some_files g c = prints_some (request_of (texts_of c.args.words.now)) c.print.result _ _ _ _ c.in-Ok.reply c.in-Ok.ensures.for_some_files c.print.ensures.prints

pub returns-in-Err-RefusedWith-clause-for_some_files : goal.returns-in-Err-RefusedWith-clause-for_some_files
returns-in-Err-RefusedWith-clause-for_some_files g c = prints_told (request_of (texts_of c.args.words.now)) c.print-in-Err-RefusedWith.result _ _ _ _ c.in-Err-RefusedWith.field-0 c.in-Err-RefusedWith.reply c.in-Err-RefusedWith.field-0-is c.in-Err-RefusedWith.ensures.for_some_files c.print-in-Err-RefusedWith.ensures.prints

pub returns-in-Err-Memory-clause-for_some_files : goal.returns-in-Err-Memory-clause-for_some_files
returns-in-Err-Memory-clause-for_some_files g c = want_prints (request_of (texts_of c.args.words.now)) _ _

pub returns-in-Err-ShelfFault-clause-for_some_files : goal.returns-in-Err-ShelfFault-clause-for_some_files
returns-in-Err-ShelfFault-clause-for_some_files g c = fault_prints (request_of (texts_of c.args.words.now)) _ _

pub returns-in-Ok-clause-simulated : goal.returns-in-Ok-clause-simulated
returns-in-Ok-clause-simulated g c = λ files told design plan line verdict. simulated files (texts_of c.args.words.now) c.print.result _ _ _ _ (returns-in-Ok-clause-answer g c files told) design plan (returns-in-Ok-clause-met g c files told) line verdict

pub returns-in-Ok-clause-checked : goal.returns-in-Ok-clause-checked
returns-in-Ok-clause-checked g c = λ files told n design proof line done. checked files (texts_of c.args.words.now) c.print.result _ _ _ _ (returns-in-Ok-clause-answer g c files told) n design proof (returns-in-Ok-clause-infeasible g c files told n) line done

pub returns-in-Ok-clause-found : goal.returns-in-Ok-clause-found
returns-in-Ok-clause-found g c = λ files told n design proof line done. found files (texts_of c.args.words.now) c.print.result _ _ _ _ (returns-in-Ok-clause-answer g c files told) n design proof line (returns-in-Ok-clause-planned g c files told n) done

pub returns-in-Ok-clause-found_none : goal.returns-in-Ok-clause-found_none
returns-in-Ok-clause-found_none g c = λ files told n design proof line no. found_none files (texts_of c.args.words.now) c.print.result _ _ _ _ (returns-in-Ok-clause-answer g c files told) n design proof line (g.S.Shelf.known_files c.reply.new.shelf) (returns-in-Ok-clause-proven g c files told n) no

pub returns-in-Err-RefusedWith-clause-simulated : goal.returns-in-Err-RefusedWith-clause-simulated
returns-in-Err-RefusedWith-clause-simulated g c = λ files told design plan line verdict. simulated files (texts_of c.args.words.now) c.print-in-Err-RefusedWith.result _ _ _ _ (returns-in-Err-RefusedWith-clause-answer g c files told) design plan (returns-in-Err-RefusedWith-clause-met g c files told) line verdict

pub returns-in-Err-RefusedWith-clause-checked : goal.returns-in-Err-RefusedWith-clause-checked
returns-in-Err-RefusedWith-clause-checked g c = λ files told n design proof line done. checked files (texts_of c.args.words.now) c.print-in-Err-RefusedWith.result _ _ _ _ (returns-in-Err-RefusedWith-clause-answer g c files told) n design proof (returns-in-Err-RefusedWith-clause-infeasible g c files told n) line done

pub returns-in-Err-RefusedWith-clause-found : goal.returns-in-Err-RefusedWith-clause-found
returns-in-Err-RefusedWith-clause-found g c = λ files told n design proof line done. found files (texts_of c.args.words.now) c.print-in-Err-RefusedWith.result _ _ _ _ (returns-in-Err-RefusedWith-clause-answer g c files told) n design proof line (returns-in-Err-RefusedWith-clause-planned g c files told n) done

pub returns-in-Err-RefusedWith-clause-found_none : goal.returns-in-Err-RefusedWith-clause-found_none
returns-in-Err-RefusedWith-clause-found_none g c = λ files told n design proof line no. found_none files (texts_of c.args.words.now) c.print-in-Err-RefusedWith.result _ _ _ _ (returns-in-Err-RefusedWith-clause-answer g c files told) n design proof line (g.S.Shelf.known_files c.reply.new.shelf) (returns-in-Err-RefusedWith-clause-proven g c files told n) no

pub returns-in-Err-Memory-clause-simulated : goal.returns-in-Err-Memory-clause-simulated
returns-in-Err-Memory-clause-simulated g c = λ files told design plan line verdict. absurd (no_verdict _ refl verdict)

pub returns-in-Err-ShelfFault-clause-simulated : goal.returns-in-Err-ShelfFault-clause-simulated
returns-in-Err-ShelfFault-clause-simulated g c = λ files told design plan line verdict. absurd (no_verdict _ refl verdict)

pub returns-in-Ok-clause-tried_by_line : goal.returns-in-Ok-clause-tried_by_line
returns-in-Ok-clause-tried_by_line g c = λ seed size line. returns-in-Ok-clause-tried g c seed size (trial_asked (texts_of c.args.words.now) seed size line)

pub returns-in-Err-RefusedWith-clause-tried_by_line : goal.returns-in-Err-RefusedWith-clause-tried_by_line
returns-in-Err-RefusedWith-clause-tried_by_line g c = λ seed size line. returns-in-Err-RefusedWith-clause-tried g c seed size (trial_asked (texts_of c.args.words.now) seed size line)

pub returns-in-Err-Memory-clause-tried_by_line : goal.returns-in-Err-Memory-clause-tried_by_line
returns-in-Err-Memory-clause-tried_by_line g c = λ seed size line. returns-in-Err-Memory-clause-tried g c seed size (trial_asked (texts_of c.args.words.now) seed size line)

pub returns-in-Err-ShelfFault-clause-tried_by_line : goal.returns-in-Err-ShelfFault-clause-tried_by_line
returns-in-Err-ShelfFault-clause-tried_by_line g c = λ seed size line. returns-in-Err-ShelfFault-clause-tried g c seed size (trial_asked (texts_of c.args.words.now) seed size line)

pub returns-in-Ok-clause-found_least : goal.returns-in-Ok-clause-found_least
returns-in-Ok-clause-found_least g c = λ files reply_for n w d s ends. tells_least files (texts_of c.args.words.now) n w d s c.in-Ok.reply c.print.result _ _ _ _ (c.in-Ok.ensures.replies files reply_for) c.print.ensures.prints _ _ reply_for
    (run_leaves (request_of (texts_of c.args.words.now)) c.in-Ok.reply.status c.print.result (g.S.Shelf.known_files c.args.shelf.now) (g.S.Shelf.known_files c.reply.new.shelf) c.in-Ok.reply.answered c.print.ensures.prints.status c.print.ensures.no_shelf c.in-Ok.ensures.stored) ends

pub returns-in-Ok-clause-found_no_time : goal.returns-in-Ok-clause-found_no_time
returns-in-Ok-clause-found_no_time g c = λ files reply_for n w d s ends. tells_no_time files (texts_of c.args.words.now) n w d s c.in-Ok.reply c.print.result _ _ _ _ (c.in-Ok.ensures.replies files reply_for) c.print.ensures.prints _ _ reply_for
    (run_leaves (request_of (texts_of c.args.words.now)) c.in-Ok.reply.status c.print.result (g.S.Shelf.known_files c.args.shelf.now) (g.S.Shelf.known_files c.reply.new.shelf) c.in-Ok.reply.answered c.print.ensures.prints.status c.print.ensures.no_shelf c.in-Ok.ensures.stored) ends

pub returns-in-Ok-clause-checked_in_time : goal.returns-in-Ok-clause-checked_in_time
returns-in-Ok-clause-checked_in_time g c = λ files told n w ms design proof line done. checked_in_time files (texts_of c.args.words.now) c.print.result _ _ _ _ (returns-in-Ok-clause-answer g c files told) n w ms design proof (returns-in-Ok-clause-infeasible g c files told n) line done

pub returns-in-Ok-clause-tightest : goal.returns-in-Ok-clause-tightest
returns-in-Ok-clause-tightest g c = λ files told n w design proof line done. found_least files (texts_of c.args.words.now) c.print.result _ _ _ _ (returns-in-Ok-clause-answer g c files told) n w design proof line (g.S.Shelf.known_files c.reply.new.shelf) (returns-in-Ok-clause-found_least g c files told n w) done

pub returns-in-Ok-clause-no_time : goal.returns-in-Ok-clause-no_time
returns-in-Ok-clause-no_time g c = λ files told n w design proof line no. found_no_time files (texts_of c.args.words.now) c.print.result _ _ _ _ (returns-in-Ok-clause-answer g c files told) n w design proof line (g.S.Shelf.known_files c.reply.new.shelf) (returns-in-Ok-clause-found_no_time g c files told n w) no

pub returns-in-Err-RefusedWith-clause-found_least : goal.returns-in-Err-RefusedWith-clause-found_least
returns-in-Err-RefusedWith-clause-found_least g c = λ files reply_for n w d s ends. tells_least files (texts_of c.args.words.now) n w d s c.in-Err-RefusedWith.reply c.print-in-Err-RefusedWith.result _ _ _ _ (told_so c.in-Err-RefusedWith.field-0 c.in-Err-RefusedWith.reply files (request_of (texts_of c.args.words.now)) c.in-Err-RefusedWith.field-0-is (c.in-Err-RefusedWith.ensures.replies files reply_for)) c.print-in-Err-RefusedWith.ensures.prints _ _ reply_for
    (run_leaves (request_of (texts_of c.args.words.now)) c.in-Err-RefusedWith.reply.status c.print-in-Err-RefusedWith.result (g.S.Shelf.known_files c.args.shelf.now) (g.S.Shelf.known_files c.reply.new.shelf) c.in-Err-RefusedWith.reply.answered c.print-in-Err-RefusedWith.ensures.prints.status c.print-in-Err-RefusedWith.ensures.no_shelf (told_status c.in-Err-RefusedWith.field-0 c.in-Err-RefusedWith.reply (λ s. Leaves (request_of (texts_of c.args.words.now)) s (g.S.Shelf.known_files c.args.shelf.now) (g.S.Shelf.known_files c.reply.new.shelf)) c.in-Err-RefusedWith.field-0-is c.in-Err-RefusedWith.ensures.stored)) ends

pub returns-in-Err-RefusedWith-clause-found_no_time : goal.returns-in-Err-RefusedWith-clause-found_no_time
returns-in-Err-RefusedWith-clause-found_no_time g c = λ files reply_for n w d s ends. tells_no_time files (texts_of c.args.words.now) n w d s c.in-Err-RefusedWith.reply c.print-in-Err-RefusedWith.result _ _ _ _ (told_so c.in-Err-RefusedWith.field-0 c.in-Err-RefusedWith.reply files (request_of (texts_of c.args.words.now)) c.in-Err-RefusedWith.field-0-is (c.in-Err-RefusedWith.ensures.replies files reply_for)) c.print-in-Err-RefusedWith.ensures.prints _ _ reply_for
    (run_leaves (request_of (texts_of c.args.words.now)) c.in-Err-RefusedWith.reply.status c.print-in-Err-RefusedWith.result (g.S.Shelf.known_files c.args.shelf.now) (g.S.Shelf.known_files c.reply.new.shelf) c.in-Err-RefusedWith.reply.answered c.print-in-Err-RefusedWith.ensures.prints.status c.print-in-Err-RefusedWith.ensures.no_shelf (told_status c.in-Err-RefusedWith.field-0 c.in-Err-RefusedWith.reply (λ s. Leaves (request_of (texts_of c.args.words.now)) s (g.S.Shelf.known_files c.args.shelf.now) (g.S.Shelf.known_files c.reply.new.shelf)) c.in-Err-RefusedWith.field-0-is c.in-Err-RefusedWith.ensures.stored)) ends

pub returns-in-Err-RefusedWith-clause-checked_in_time : goal.returns-in-Err-RefusedWith-clause-checked_in_time
returns-in-Err-RefusedWith-clause-checked_in_time g c = λ files told n w ms design proof line done. checked_in_time files (texts_of c.args.words.now) c.print-in-Err-RefusedWith.result _ _ _ _ (returns-in-Err-RefusedWith-clause-answer g c files told) n w ms design proof (returns-in-Err-RefusedWith-clause-infeasible g c files told n) line done

pub returns-in-Err-RefusedWith-clause-tightest : goal.returns-in-Err-RefusedWith-clause-tightest
returns-in-Err-RefusedWith-clause-tightest g c = λ files told n w design proof line done. found_least files (texts_of c.args.words.now) c.print-in-Err-RefusedWith.result _ _ _ _ (returns-in-Err-RefusedWith-clause-answer g c files told) n w design proof line (g.S.Shelf.known_files c.reply.new.shelf) (returns-in-Err-RefusedWith-clause-found_least g c files told n w) done

pub returns-in-Err-RefusedWith-clause-no_time : goal.returns-in-Err-RefusedWith-clause-no_time
returns-in-Err-RefusedWith-clause-no_time g c = λ files told n w design proof line no. found_no_time files (texts_of c.args.words.now) c.print-in-Err-RefusedWith.result _ _ _ _ (returns-in-Err-RefusedWith-clause-answer g c files told) n w design proof line (g.S.Shelf.known_files c.reply.new.shelf) (returns-in-Err-RefusedWith-clause-found_no_time g c files told n w) no
