use Rattle.std.proofs.Common.{◌≡◌, ◌∙◌, Some, ap, codes, false, inl, inr, refl, subst, sym}
use Rattle.clap.specs.Words.{one_of, subcommand_rows_of}
use Rattle.rd_commands.specs.Asks.{AreCatRows, AreCheckRows, AreCopyRows, AreExportRows, AreFilesRows, AreImportRows, AreInitRows, AreServeRows, AreShowRows, AreStaffKeyRows, AreImportFlags, AsksOneQuestion, EntersAs}
use Rattle.rd_commands.specs.declared.words.Question.TheVariants.{Show}
use Rattle.rd_commands.specs.Zones.{HasZoneRule, IsFlagGiven, TellsTrust}
use Rattle.rd_commands.proofs.GetterLemmas.{clockless, entered_as, entered_named, name_met, no_init, rows_met}
use Rattle.rd_commands.proofs.Looks.{check_name, question_from, sheet_from, sheet_timed, sheet_within, shown_in}
use Rattle.rd_commands.specs.Parsed.{question_name}
use Rattle.rd_commands.proofs.Places.{timed_met}
use Rattle.rd_commands.proofs.words.ask_found.Goals as goal

pub returns-in_err-file_asked-in-cat-clause-file : goal.returns-in_err-file_asked-in-cat-clause-file
returns-in_err-file_asked-in-cat-clause-file c = λ kind image slot enters.
    let rows = rows_met c.args.matches.now _ enters.rows _ enters.into (sym c.in_ok-name.ensures.rows) in
    absurd (c.in_err-file_asked-in-cat.ensures.asked kind image slot (subst (λ r. AreCatRows r kind image slot) rows enters.found))

pub returns-in_ok-file_asked-in-cat-clause-file : goal.returns-in_ok-file_asked-in-cat-clause-file
returns-in_ok-file_asked-in-cat-clause-file c = λ kind image slot enters.
    let rows = rows_met c.args.matches.now _ enters.rows _ enters.into (sym c.in_ok-name.ensures.rows) in
    c.in_ok-file_asked-in-cat.ensures.asked kind image slot (subst (λ r. AreCatRows r kind image slot) rows enters.found)

pub returns-in_ok-init_asked-in-init-clause-init : goal.returns-in_ok-init_asked-in-init-clause-init
returns-in_ok-init_asked-in-init-clause-init c = λ store key enters.
    let rows = rows_met c.args.matches.now _ enters.rows _ enters.into (sym c.in_ok-name.ensures.rows) in
    c.in_ok-init_asked-in-init.ensures.asked store key (subst (λ r. AreInitRows r store key) rows enters.found)

pub returns-in_err-serve_asked-in-serve-clause-serve : goal.returns-in_err-serve_asked-in-serve-clause-serve
returns-in_err-serve_asked-in-serve-clause-serve c = λ store place count rule enters.
    let rows = rows_met c.args.matches.now _ enters.rows _ enters.into (sym c.in_ok-name.ensures.rows) in
    absurd (c.in_err-serve_asked-in-serve.ensures.asked store place count rule (subst (λ r. AreServeRows r store place count rule) rows enters.found))

pub returns-in_ok-serve_asked-in-serve-clause-serve : goal.returns-in_ok-serve_asked-in-serve-clause-serve
returns-in_ok-serve_asked-in-serve-clause-serve c = λ store place count rule enters.
    let rows = rows_met c.args.matches.now _ enters.rows _ enters.into (sym c.in_ok-name.ensures.rows) in
    c.in_ok-serve_asked-in-serve.ensures.asked store place count rule (subst (λ r. AreServeRows r store place count rule) rows enters.found)

pub returns-in_err-sheet_asked-in-import-clause-import : goal.returns-in_err-sheet_asked-in-import-clause-import
returns-in_err-sheet_asked-in-import-clause-import c = λ store key sheet moment rule enters.
    let rows = rows_met c.args.matches.now _ enters.rows _ enters.into (sym c.in_ok-name.ensures.rows) in
    absurd (c.in_err-sheet_asked-in-import.ensures.import store key sheet moment rule (subst (λ r. AreImportRows r store key sheet moment rule) rows enters.found)
    (subst (λ r. AreImportFlags r false false) rows enters.flags))

pub returns-in_ok-sheet_asked-in-import-clause-import : goal.returns-in_ok-sheet_asked-in-import-clause-import
returns-in_ok-sheet_asked-in-import-clause-import c = λ store key sheet moment rule enters.
    let rows = rows_met c.args.matches.now _ enters.rows _ enters.into (sym c.in_ok-name.ensures.rows) in
    c.in_ok-sheet_asked-in-import.ensures.import store key sheet moment rule (subst (λ r. AreImportRows r store key sheet moment rule) rows enters.found)
    (subst (λ r. AreImportFlags r false false) rows enters.flags)

pub returns-in_err-sheet_asked-in-import-clause-flagged_import : goal.returns-in_err-sheet_asked-in-import-clause-flagged_import
returns-in_err-sheet_asked-in-import-clause-flagged_import c = λ store key sheet moment rule dry_run keep_going enters.
    let rows = rows_met c.args.matches.now _ enters.rows _ enters.into (sym c.in_ok-name.ensures.rows) in
    absurd (c.in_err-sheet_asked-in-import.ensures.flagged_import store key sheet moment rule dry_run keep_going (subst (λ r. AreImportRows r store key sheet moment rule) rows enters.found)
    (subst (λ r. AreImportFlags r dry_run keep_going) rows enters.flags) enters.one)

pub returns-in_ok-sheet_asked-in-import-clause-flagged_import : goal.returns-in_ok-sheet_asked-in-import-clause-flagged_import
returns-in_ok-sheet_asked-in-import-clause-flagged_import c = λ store key sheet moment rule dry_run keep_going enters.
    let rows = rows_met c.args.matches.now _ enters.rows _ enters.into (sym c.in_ok-name.ensures.rows) in
    c.in_ok-sheet_asked-in-import.ensures.flagged_import store key sheet moment rule dry_run keep_going (subst (λ r. AreImportRows r store key sheet moment rule) rows enters.found)
    (subst (λ r. AreImportFlags r dry_run keep_going) rows enters.flags) enters.one

pub returns-in_err-extract_asked-in-files-clause-extract : goal.returns-in_err-extract_asked-in-files-clause-extract
returns-in_err-extract_asked-in-files-clause-extract c = λ kind image folder enters.
    let rows = rows_met c.args.matches.now _ enters.rows _ enters.into (sym c.in_ok-name.ensures.rows) in
    absurd (c.in_err-extract_asked-in-files.ensures.asked kind image folder (subst (λ r. AreFilesRows r kind image folder) rows enters.found))

pub returns-in_ok-extract_asked-in-files-clause-extract : goal.returns-in_ok-extract_asked-in-files-clause-extract
returns-in_ok-extract_asked-in-files-clause-extract c = λ kind image folder enters.
    let rows = rows_met c.args.matches.now _ enters.rows _ enters.into (sym c.in_ok-name.ensures.rows) in
    c.in_ok-extract_asked-in-files.ensures.asked kind image folder (subst (λ r. AreFilesRows r kind image folder) rows enters.found)

pub returns-in_ok-extract_asked-in-files-clause-zone : goal.returns-in_ok-extract_asked-in-files-clause-zone
returns-in_ok-extract_asked-in-files-clause-zone c = λ name rows into clocks.
    let met = name_met c.args.matches.now name _ rows _ into c.in_ok-name.ensures.name c.in_ok-name.ensures.rows in
    absurd (clockless name (inr (inr (inl (met ∙ c.in-files.is)))) clocks)

pub returns-in_err-export_asked-in-export-clause-export : goal.returns-in_err-export_asked-in-export-clause-export
returns-in_err-export_asked-in-export-clause-export c = λ store key moment rule enters.
    let rows = rows_met c.args.matches.now _ enters.rows _ enters.into (sym c.in_ok-name.ensures.rows) in
    absurd (c.in_err-export_asked-in-export.ensures.asked store key moment rule (subst (λ r. AreExportRows r store key moment rule) rows enters.found))

pub returns-in_ok-export_asked-in-export-clause-export : goal.returns-in_ok-export_asked-in-export-clause-export
returns-in_ok-export_asked-in-export-clause-export c = λ store key moment rule enters.
    let rows = rows_met c.args.matches.now _ enters.rows _ enters.into (sym c.in_ok-name.ensures.rows) in
    c.in_ok-export_asked-in-export.ensures.asked store key moment rule (subst (λ r. AreExportRows r store key moment rule) rows enters.found)

pub returns-in_err-check_asked-in-check-clause-check : goal.returns-in_err-check_asked-in-check-clause-check
returns-in_err-check_asked-in-check-clause-check c = λ store key acc moment rule enters.
    let rows = rows_met c.args.matches.now _ enters.rows _ enters.into (sym c.in_ok-name.ensures.rows) in
    absurd (c.in_err-check_asked-in-check.ensures.asked store key acc moment rule (subst (λ r. AreCheckRows r store key acc moment rule) rows enters.found))

pub returns-in_ok-check_asked-in-check-clause-check : goal.returns-in_ok-check_asked-in-check-clause-check
returns-in_ok-check_asked-in-check-clause-check c = λ store key acc moment rule enters.
    let rows = rows_met c.args.matches.now _ enters.rows _ enters.into (sym c.in_ok-name.ensures.rows) in
    c.in_ok-check_asked-in-check.ensures.asked store key acc moment rule (subst (λ r. AreCheckRows r store key acc moment rule) rows enters.found)

pub returns-in_ok-sheet_asked-in-import-clause-written_on_output : goal.returns-in_ok-sheet_asked-in-import-clause-written_on_output
returns-in_ok-sheet_asked-in-import-clause-written_on_output c = λ tells.
    inl (subst (λ name. EntersAs name (subcommand_rows_of c.args.matches.now)) c.in-import.is
    (entered_as c.args.matches.now _ _ c.in_ok-name.ensures.name c.in_ok-name.ensures.rows))

pub returns-in_ok-check_asked-in-check-clause-written_on_output : goal.returns-in_ok-check_asked-in-check-clause-written_on_output
returns-in_ok-check_asked-in-check-clause-written_on_output c = λ tells.
    inr (subst (λ name. EntersAs name (subcommand_rows_of c.args.matches.now)) c.in-check.is
    (entered_as c.args.matches.now _ _ c.in_ok-name.ensures.name c.in_ok-name.ensures.rows))

pub returns-in_ok-file_asked-in-cat-clause-zone : goal.returns-in_ok-file_asked-in-cat-clause-zone
returns-in_ok-file_asked-in-cat-clause-zone c = λ name rows into clocks.
    let met = name_met c.args.matches.now name _ rows _ into c.in_ok-name.ensures.name c.in_ok-name.ensures.rows in
    absurd (clockless name (inl (met ∙ c.in-cat.is)) clocks)

pub returns-in_ok-files_asked-in-list-clause-zone : goal.returns-in_ok-files_asked-in-list-clause-zone
returns-in_ok-files_asked-in-list-clause-zone c = λ name rows into clocks.
    let met = name_met c.args.matches.now name _ rows _ into c.in_ok-name.ensures.name c.in_ok-name.ensures.rows in
    absurd (clockless name (inr (inl (met ∙ c.in-list.is))) clocks)

pub returns-in_ok-init_asked-in-init-clause-zone : goal.returns-in_ok-init_asked-in-init-clause-zone
returns-in_ok-init_asked-in-init-clause-zone c = λ name rows into clocks.
    let met = name_met c.args.matches.now name _ rows _ into c.in_ok-name.ensures.name c.in_ok-name.ensures.rows in
    absurd (clockless name (inr (inr (inr (inl (met ∙ c.in-init.is))))) clocks)

pub returns-in_ok-staff_key_asked-in-text-clause-staff_key : goal.returns-in_ok-staff_key_asked-in-text-clause-staff_key
returns-in_ok-staff_key_asked-in-text-clause-staff_key c = λ store key enters.
    let rows = rows_met c.args.matches.now _ enters.rows _ enters.into (sym c.in_ok-name.ensures.rows) in
    c.in_ok-staff_key_asked-in-text.ensures.asked store key (subst (λ r. AreStaffKeyRows r store key) rows enters.found)

pub returns-in_ok-staff_key_asked-in-text-clause-zone : goal.returns-in_ok-staff_key_asked-in-text-clause-zone
returns-in_ok-staff_key_asked-in-text-clause-zone c = λ name rows into clocks.
    let met = name_met c.args.matches.now name _ rows _ into c.in_ok-name.ensures.name c.in_ok-name.ensures.rows in
    absurd (clockless name (inr (inr (inr (inr (inl (met ∙ c.in-text.is)))))) clocks)

pub returns-in_ok-serve_asked-in-serve-clause-zone : goal.returns-in_ok-serve_asked-in-serve-clause-zone
returns-in_ok-serve_asked-in-serve-clause-zone c = λ name rows into clocks.
    subst HasZoneRule (sym (rows_met c.args.matches.now name rows _ into (sym c.in_ok-name.ensures.rows))) (c.in_ok-serve_asked-in-serve.ensures.zone)

pub returns-in_ok-serve_asked-in-serve-clause-timeouts : goal.returns-in_ok-serve_asked-in-serve-clause-timeouts
returns-in_ok-serve_asked-in-serve-clause-timeouts c = λ rows into.
    timed_met _ rows _ (rows_met c.args.matches.now _ rows _ into (sym c.in_ok-name.ensures.rows)) c.in_ok-serve_asked-in-serve.ensures.timeouts

pub returns-in_ok-sheet_asked-in-import-clause-zone : goal.returns-in_ok-sheet_asked-in-import-clause-zone
returns-in_ok-sheet_asked-in-import-clause-zone c = λ name rows into clocks.
    subst HasZoneRule (sym (rows_met c.args.matches.now name rows _ into (sym c.in_ok-name.ensures.rows))) (c.in_ok-sheet_asked-in-import.ensures.zone)

pub returns-in_ok-export_asked-in-export-clause-zone : goal.returns-in_ok-export_asked-in-export-clause-zone
returns-in_ok-export_asked-in-export-clause-zone c = λ name rows into clocks.
    subst HasZoneRule (sym (rows_met c.args.matches.now name rows _ into (sym c.in_ok-name.ensures.rows))) (c.in_ok-export_asked-in-export.ensures.zone)

pub returns-in_ok-check_asked-in-check-clause-zone : goal.returns-in_ok-check_asked-in-check-clause-zone
returns-in_ok-check_asked-in-check-clause-zone c = λ name rows into clocks.
    subst HasZoneRule (sym (rows_met c.args.matches.now name rows _ into (sym c.in_ok-name.ensures.rows))) (c.in_ok-check_asked-in-check.ensures.zone)

pub returns-in_err-show_asked-in-show-clause-show : goal.returns-in_err-show_asked-in-show-clause-show
returns-in_err-show_asked-in-show-clause-show c = λ store key what moment rule is enters.
    let rows = rows_met c.args.matches.now _ enters.rows _ enters.into (sym c.in_ok-name.ensures.rows) in
    absurd (c.in_err-show_asked-in-show.ensures.asked store key moment rule (subst (λ r. AreShowRows r store key moment rule) rows enters.found))

pub returns-in_ok-show_asked-in-show-clause-show : goal.returns-in_ok-show_asked-in-show-clause-show
returns-in_ok-show_asked-in-show-clause-show c = λ store key what moment rule is enters.
    let rows = rows_met c.args.matches.now _ enters.rows _ enters.into (sym c.in_ok-name.ensures.rows) in
    let both : Some c.in_ok-shown-in-show.field-0 ≡ Some what = sym c.in_ok-shown-in-show.was ∙ is in
    let same : c.in_ok-shown-in-show.field-0 ≡ what = cc in
    subst (λ w. AsksOneQuestion c.in_ok-show_asked-in-show.field-0 store (Some key) (Show w) moment rule) same
    (c.in_ok-show_asked-in-show.ensures.asked store key moment rule (subst (λ r. AreShowRows r store key moment rule) rows enters.found))

pub returns-in_ok-sheet_asked-in-import-clause-accession : goal.returns-in_ok-sheet_asked-in-import-clause-accession
returns-in_ok-sheet_asked-in-import-clause-accession c = sheet_within c.in_ok-sheet_asked-in-import.field-0 c.in_ok-sheet_asked-in-import.ensures.rows

pub returns-in_ok-sheet_asked-in-import-clause-timeouts : goal.returns-in_ok-sheet_asked-in-import-clause-timeouts
returns-in_ok-sheet_asked-in-import-clause-timeouts c = sheet_timed c.in_ok-sheet_asked-in-import.field-0 _ c.in_ok-sheet_asked-in-import.ensures.rows

-- ---- in all forms

pub returns-in_ok-file_asked-in-cat-clause-from : goal.returns-in_ok-file_asked-in-cat-clause-from
returns-in_ok-file_asked-in-cat-clause-from c = λ naming. (_, entered_named c.args.matches.now _ (codes "cat") _ c.in_ok-name.ensures.name c.in_ok-name.ensures.rows c.in-cat.is, c.in_ok-file_asked-in-cat.ensures.from)

pub returns-in_ok-files_asked-in-list-clause-from : goal.returns-in_ok-files_asked-in-list-clause-from
returns-in_ok-files_asked-in-list-clause-from c = λ naming. (_, entered_named c.args.matches.now _ (codes "list") _ c.in_ok-name.ensures.name c.in_ok-name.ensures.rows c.in-list.is, c.in_ok-files_asked-in-list.ensures.from)

pub returns-in_ok-extract_asked-in-files-clause-from : goal.returns-in_ok-extract_asked-in-files-clause-from
returns-in_ok-extract_asked-in-files-clause-from c = λ naming. (_, entered_named c.args.matches.now _ (codes "files") _ c.in_ok-name.ensures.name c.in_ok-name.ensures.rows c.in-files.is, c.in_ok-extract_asked-in-files.ensures.from)

pub returns-in_ok-init_asked-in-init-clause-from : goal.returns-in_ok-init_asked-in-init-clause-from
returns-in_ok-init_asked-in-init-clause-from c = λ naming. (_, entered_named c.args.matches.now _ (codes "init") _ c.in_ok-name.ensures.name c.in_ok-name.ensures.rows c.in-init.is, c.in_ok-init_asked-in-init.ensures.from)

pub returns-in_ok-serve_asked-in-serve-clause-from : goal.returns-in_ok-serve_asked-in-serve-clause-from
returns-in_ok-serve_asked-in-serve-clause-from c = λ naming. (_, entered_named c.args.matches.now _ (codes "serve") _ c.in_ok-name.ensures.name c.in_ok-name.ensures.rows c.in-serve.is, c.in_ok-serve_asked-in-serve.ensures.from)

pub returns-in_ok-sheet_asked-in-import-clause-from : goal.returns-in_ok-sheet_asked-in-import-clause-from
returns-in_ok-sheet_asked-in-import-clause-from c = λ naming.
    sheet_from _ _ c.in_ok-sheet_asked-in-import.field-0 (entered_named c.args.matches.now _ (codes "import") _ c.in_ok-name.ensures.name c.in_ok-name.ensures.rows c.in-import.is) c.in_ok-sheet_asked-in-import.ensures.named c.in_ok-sheet_asked-in-import.ensures.from

pub returns-in_ok-export_asked-in-export-clause-from : goal.returns-in_ok-export_asked-in-export-clause-from
returns-in_ok-export_asked-in-export-clause-from c = λ naming.
    question_from _ _ c.in_ok-export_asked-in-export.field-0 (codes "export") (entered_named c.args.matches.now _ (codes "export") _ c.in_ok-name.ensures.name c.in_ok-name.ensures.rows c.in-export.is) (ap question_name c.in_ok-export_asked-in-export.ensures.question)
    c.in_ok-export_asked-in-export.ensures.from

pub returns-in_ok-check_asked-in-check-clause-from : goal.returns-in_ok-check_asked-in-check-clause-from
returns-in_ok-check_asked-in-check-clause-from c = λ naming.
    question_from _ _ c.in_ok-check_asked-in-check.field-0 (codes "check") (entered_named c.args.matches.now _ (codes "check") _ c.in_ok-name.ensures.name c.in_ok-name.ensures.rows c.in-check.is)
    (check_name c.in_ok-check_asked-in-check.field-0.question c.in_ok-check_asked-in-check.ensures.of) c.in_ok-check_asked-in-check.ensures.from

pub returns-in_ok-show_asked-in-show-clause-from : goal.returns-in_ok-show_asked-in-show-clause-from
returns-in_ok-show_asked-in-show-clause-from c = λ naming.
    let into = entered_named c.args.matches.now _ (codes "show") _ c.in_ok-name.ensures.name c.in_ok-name.ensures.rows c.in-show.is in
    question_from _ _ c.in_ok-show_asked-in-show.field-0 (codes "show") into (ap question_name c.in_ok-show_asked-in-show.ensures.question)
    (c.in_ok-show_asked-in-show.ensures.from (shown_in _ _ c.in_ok-shown-in-show.field-0 _ naming into c.in_ok-shown-in-show.was))

-- ---- the clock

pub returns-in_ok-file_asked-in-cat-clause-trust : goal.returns-in_ok-file_asked-in-cat-clause-trust
returns-in_ok-file_asked-in-cat-clause-trust c = λ trusted told.
    let met = name_met c.args.matches.now told.0 _ told.1 _ told.2 c.in_ok-name.ensures.name c.in_ok-name.ensures.rows in
    absurd (clockless told.0 (inl (met ∙ c.in-cat.is)) told.3)

pub returns-in_ok-files_asked-in-list-clause-trust : goal.returns-in_ok-files_asked-in-list-clause-trust
returns-in_ok-files_asked-in-list-clause-trust c = λ trusted told.
    let met = name_met c.args.matches.now told.0 _ told.1 _ told.2 c.in_ok-name.ensures.name c.in_ok-name.ensures.rows in
    absurd (clockless told.0 (inr (inl (met ∙ c.in-list.is))) told.3)

pub returns-in_ok-extract_asked-in-files-clause-trust : goal.returns-in_ok-extract_asked-in-files-clause-trust
returns-in_ok-extract_asked-in-files-clause-trust c = λ trusted told.
    let met = name_met c.args.matches.now told.0 _ told.1 _ told.2 c.in_ok-name.ensures.name c.in_ok-name.ensures.rows in
    absurd (clockless told.0 (inr (inr (inl (met ∙ c.in-files.is)))) told.3)

pub returns-in_ok-init_asked-in-init-clause-trust : goal.returns-in_ok-init_asked-in-init-clause-trust
returns-in_ok-init_asked-in-init-clause-trust c = λ trusted told.
    let met = name_met c.args.matches.now told.0 _ told.1 _ told.2 c.in_ok-name.ensures.name c.in_ok-name.ensures.rows in
    absurd (clockless told.0 (inr (inr (inr (inl (met ∙ c.in-init.is))))) told.3)

pub returns-in_ok-staff_key_asked-in-text-clause-trust : goal.returns-in_ok-staff_key_asked-in-text-clause-trust
returns-in_ok-staff_key_asked-in-text-clause-trust c = λ trusted told.
    let met = name_met c.args.matches.now told.0 _ told.1 _ told.2 c.in_ok-name.ensures.name c.in_ok-name.ensures.rows in
    absurd (clockless told.0 (inr (inr (inr (inr (inl (met ∙ c.in-text.is)))))) told.3)

pub returns-in_ok-serve_asked-in-serve-clause-trust : goal.returns-in_ok-serve_asked-in-serve-clause-trust
returns-in_ok-serve_asked-in-serve-clause-trust c = λ trusted told.
    c.in_ok-serve_asked-in-serve.ensures.trust trusted (subst (λ rows. TellsTrust rows trusted) (rows_met c.args.matches.now told.0 told.1 _ told.2 (sym c.in_ok-name.ensures.rows)) told.4)

pub returns-in_ok-sheet_asked-in-import-clause-trust : goal.returns-in_ok-sheet_asked-in-import-clause-trust
returns-in_ok-sheet_asked-in-import-clause-trust c = λ trusted told.
    c.in_ok-sheet_asked-in-import.ensures.trust trusted (subst (λ rows. TellsTrust rows trusted) (rows_met c.args.matches.now told.0 told.1 _ told.2 (sym c.in_ok-name.ensures.rows)) told.4)

pub returns-in_ok-export_asked-in-export-clause-trust : goal.returns-in_ok-export_asked-in-export-clause-trust
returns-in_ok-export_asked-in-export-clause-trust c = λ trusted told.
    c.in_ok-export_asked-in-export.ensures.trust trusted (subst (λ rows. TellsTrust rows trusted) (rows_met c.args.matches.now told.0 told.1 _ told.2 (sym c.in_ok-name.ensures.rows)) told.4)

pub returns-in_ok-check_asked-in-check-clause-trust : goal.returns-in_ok-check_asked-in-check-clause-trust
returns-in_ok-check_asked-in-check-clause-trust c = λ trusted told.
    c.in_ok-check_asked-in-check.ensures.trust trusted (subst (λ rows. TellsTrust rows trusted) (rows_met c.args.matches.now told.0 told.1 _ told.2 (sym c.in_ok-name.ensures.rows)) told.4)

pub returns-in_ok-show_asked-in-show-clause-trust : goal.returns-in_ok-show_asked-in-show-clause-trust
returns-in_ok-show_asked-in-show-clause-trust c = λ trusted told.
    c.in_ok-show_asked-in-show.ensures.trust trusted (subst (λ rows. TellsTrust rows trusted) (rows_met c.args.matches.now told.0 told.1 _ told.2 (sym c.in_ok-name.ensures.rows)) told.4)

-- ---- sums

pub returns-in_ok-init_asked-in-init-clause-sums : goal.returns-in_ok-init_asked-in-init-clause-sums
returns-in_ok-init_asked-in-init-clause-sums c = λ summed told.
    c.in_ok-init_asked-in-init.ensures.sums summed
    (subst (λ rows. IsFlagGiven (one_of (codes "sums") rows) summed) (rows_met c.args.matches.now _ told.0 _ told.1 (sym c.in_ok-name.ensures.rows)) told.2)

pub returns-in_ok-file_asked-in-cat-clause-sums : goal.returns-in_ok-file_asked-in-cat-clause-sums
returns-in_ok-file_asked-in-cat-clause-sums c = λ summed told.
    let met = name_met c.args.matches.now (codes "init") _ told.0 _ told.1 c.in_ok-name.ensures.name c.in_ok-name.ensures.rows in
    absurd (no_init _ refl (met ∙ c.in-cat.is))

pub returns-in_ok-files_asked-in-list-clause-sums : goal.returns-in_ok-files_asked-in-list-clause-sums
returns-in_ok-files_asked-in-list-clause-sums c = λ summed told.
    let met = name_met c.args.matches.now (codes "init") _ told.0 _ told.1 c.in_ok-name.ensures.name c.in_ok-name.ensures.rows in
    absurd (no_init _ refl (met ∙ c.in-list.is))

pub returns-in_ok-serve_asked-in-serve-clause-sums : goal.returns-in_ok-serve_asked-in-serve-clause-sums
returns-in_ok-serve_asked-in-serve-clause-sums c = λ summed told.
    let met = name_met c.args.matches.now (codes "init") _ told.0 _ told.1 c.in_ok-name.ensures.name c.in_ok-name.ensures.rows in
    absurd (no_init _ refl (met ∙ c.in-serve.is))

pub returns-in_ok-sheet_asked-in-import-clause-sums : goal.returns-in_ok-sheet_asked-in-import-clause-sums
returns-in_ok-sheet_asked-in-import-clause-sums c = λ summed told.
    let met = name_met c.args.matches.now (codes "init") _ told.0 _ told.1 c.in_ok-name.ensures.name c.in_ok-name.ensures.rows in
    absurd (no_init _ refl (met ∙ c.in-import.is))

pub returns-in_ok-export_asked-in-export-clause-sums : goal.returns-in_ok-export_asked-in-export-clause-sums
returns-in_ok-export_asked-in-export-clause-sums c = λ summed told.
    let met = name_met c.args.matches.now (codes "init") _ told.0 _ told.1 c.in_ok-name.ensures.name c.in_ok-name.ensures.rows in
    absurd (no_init _ refl (met ∙ c.in-export.is))

pub returns-in_ok-check_asked-in-check-clause-sums : goal.returns-in_ok-check_asked-in-check-clause-sums
returns-in_ok-check_asked-in-check-clause-sums c = λ summed told.
    let met = name_met c.args.matches.now (codes "init") _ told.0 _ told.1 c.in_ok-name.ensures.name c.in_ok-name.ensures.rows in
    absurd (no_init _ refl (met ∙ c.in-check.is))

pub returns-in_ok-show_asked-in-show-clause-sums : goal.returns-in_ok-show_asked-in-show-clause-sums
returns-in_ok-show_asked-in-show-clause-sums c = λ summed told.
    let met = name_met c.args.matches.now (codes "init") _ told.0 _ told.1 c.in_ok-name.ensures.name c.in_ok-name.ensures.rows in
    absurd (no_init _ refl (met ∙ c.in-show.is))

pub returns-in_ok-staff_key_asked-in-text-clause-sums : goal.returns-in_ok-staff_key_asked-in-text-clause-sums
returns-in_ok-staff_key_asked-in-text-clause-sums c = λ summed told.
    let met = name_met c.args.matches.now (codes "init") _ told.0 _ told.1 c.in_ok-name.ensures.name c.in_ok-name.ensures.rows in
    absurd (no_init _ refl (met ∙ c.in-text.is))

pub returns-in_ok-extract_asked-in-files-clause-sums : goal.returns-in_ok-extract_asked-in-files-clause-sums
returns-in_ok-extract_asked-in-files-clause-sums c = λ summed told.
    let met = name_met c.args.matches.now (codes "init") _ told.0 _ told.1 c.in_ok-name.ensures.name c.in_ok-name.ensures.rows in
    absurd (no_init _ refl (met ∙ c.in-files.is))

pub returns-in_ok-staff_key_asked-in-text-clause-from : goal.returns-in_ok-staff_key_asked-in-text-clause-from
returns-in_ok-staff_key_asked-in-text-clause-from c = λ naming. (_, entered_named c.args.matches.now _ (codes "staff-key") _ c.in_ok-name.ensures.name c.in_ok-name.ensures.rows c.in-text.is, c.in_ok-staff_key_asked-in-text.ensures.from)

-- ---- `copy`

pub returns-in_ok-copy_asked-in-copy-clause-copy : goal.returns-in_ok-copy_asked-in-copy-clause-copy
returns-in_ok-copy_asked-in-copy-clause-copy c = λ store target summed enters.
    let rows = rows_met c.args.matches.now _ enters.rows _ enters.into (sym c.in_ok-name.ensures.rows) in
    c.in_ok-copy_asked-in-copy.ensures.asked store target summed (subst (λ r. AreCopyRows r store target summed) rows enters.found)

pub returns-in_ok-copy_asked-in-copy-clause-zone : goal.returns-in_ok-copy_asked-in-copy-clause-zone
returns-in_ok-copy_asked-in-copy-clause-zone c = λ name rows into clocks.
    let met = name_met c.args.matches.now name _ rows _ into c.in_ok-name.ensures.name c.in_ok-name.ensures.rows in
    absurd (clockless name (inr (inr (inr (inr (inr (met ∙ c.in-copy.is)))))) clocks)

pub returns-in_ok-copy_asked-in-copy-clause-trust : goal.returns-in_ok-copy_asked-in-copy-clause-trust
returns-in_ok-copy_asked-in-copy-clause-trust c = λ trusted told.
    let met = name_met c.args.matches.now told.0 _ told.1 _ told.2 c.in_ok-name.ensures.name c.in_ok-name.ensures.rows in
    absurd (clockless told.0 (inr (inr (inr (inr (inr (met ∙ c.in-copy.is)))))) told.3)

pub returns-in_ok-copy_asked-in-copy-clause-sums : goal.returns-in_ok-copy_asked-in-copy-clause-sums
returns-in_ok-copy_asked-in-copy-clause-sums c = λ summed told.
    let met = name_met c.args.matches.now (codes "init") _ told.0 _ told.1 c.in_ok-name.ensures.name c.in_ok-name.ensures.rows in
    absurd (no_init _ refl (met ∙ c.in-copy.is))

pub returns-in_ok-copy_asked-in-copy-clause-from : goal.returns-in_ok-copy_asked-in-copy-clause-from
returns-in_ok-copy_asked-in-copy-clause-from c = λ naming. (_, entered_named c.args.matches.now _ (codes "copy") _ c.in_ok-name.ensures.name c.in_ok-name.ensures.rows c.in-copy.is, c.in_ok-copy_asked-in-copy.ensures.from)
