use Rattle.rd_commands.proofs.SheetAsks.{made, made_from, made_import, made_in_rows, made_named, made_flagged_import, made_trusting, sheet_ask}
use Rattle.std.proofs.Common.{◌≡◌}
use Rattle.clap.specs.Words.{found_of, rows_of}
use Rattle.rd_commands.proofs.asked.sheet_asked.Goals as goal

is : (c : goal.After-sheet_ask) → c.sheet_ask.result ≡ sheet_ask c.in_ok-import.import c.is_set-dry_run.result c.is_set-keep_going.result
is c = made c.in_ok-import.import c.is_set-dry_run.result c.is_set-keep_going.result c.sheet_ask.result c.sheet_ask.ensures.import c.sheet_ask.ensures.flagged_import

pub returns-in_err-import-clause-import : goal.returns-in_err-import-clause-import
returns-in_err-import-clause-import c = λ store key sheet moment rule found flags. absurd (c.in_err-import.ensures.asked store key sheet moment rule found)

pub returns-in_err-import-clause-flagged_import : goal.returns-in_err-import-clause-flagged_import
returns-in_err-import-clause-flagged_import c = λ store key sheet moment rule dry_run keep_going found flags one. absurd (c.in_err-import.ensures.asked store key sheet moment rule found)

pub returns-clause-import : goal.returns-clause-import
returns-clause-import c = λ store key sheet moment rule found flags.
    made_import c.in_ok-import.import c.is_set-dry_run.result c.is_set-keep_going.result c.sheet_ask.result store key sheet moment rule (is c)
    (c.is_set-dry_run.ensures _ flags.dry_run_given) (c.is_set-keep_going.ensures _ flags.keep_going_given) (c.in_ok-import.ensures.asked store key sheet moment rule found)

pub returns-clause-flagged_import : goal.returns-clause-flagged_import
returns-clause-flagged_import c = λ store key sheet moment rule dry_run keep_going found flags one.
    made_flagged_import c.in_ok-import.import c.is_set-dry_run.result c.is_set-keep_going.result c.sheet_ask.result store key sheet moment rule dry_run keep_going (is c)
    (c.is_set-dry_run.ensures _ flags.dry_run_given) (c.is_set-keep_going.ensures _ flags.keep_going_given) one (c.in_ok-import.ensures.asked store key sheet moment rule found)

pub returns-clause-from : goal.returns-clause-from
returns-clause-from c =
    made_from (rows_of (found_of c.args.found.now)) c.in_ok-import.import c.is_set-dry_run.result c.is_set-keep_going.result c.sheet_ask.result (is c)
    c.in_ok-import.ensures.from (λ dry going flags. (c.is_set-dry_run.ensures _ flags.dry_run_given, c.is_set-keep_going.ensures _ flags.keep_going_given))

pub returns-clause-named : goal.returns-clause-named
returns-clause-named c = made_named c.in_ok-import.import c.is_set-dry_run.result c.is_set-keep_going.result c.sheet_ask.result (is c)

pub returns-clause-rows : goal.returns-clause-rows
returns-clause-rows c = made_in_rows c.in_ok-import.import c.is_set-dry_run.result c.is_set-keep_going.result c.sheet_ask.result (is c)

pub returns-clause-trust : goal.returns-clause-trust
returns-clause-trust c = λ trusted told.
    made_trusting c.in_ok-import.import c.is_set-dry_run.result c.is_set-keep_going.result c.sheet_ask.result trusted (is c) (c.in_ok-import.ensures.trust trusted told)
