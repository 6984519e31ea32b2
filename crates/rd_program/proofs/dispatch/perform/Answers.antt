use Rattle.std.proofs.Common.{◌≡◌, IfOk, ap, inl, subst, sym}
use Rattle.std.proofs.lemmas.Result.{IfErr-weaker}
use Rattle.rd_commands.specs.Asks.{TellsOnOutput}
use Rattle.rd_commands.specs.Cat.{Refuses, Serves}
use Rattle.std.specs.Io.KnownBytes.{Keeps}
use Rattle.rd_commands.specs.Listed.{Lists, RefusesList}
use Rattle.rd_program.proofs.AnswerLemmas.{once_kept, once_never}
use Rattle.rd_program.proofs.ImportLemmas.{err_whole, ok_whole, whole_is}
use Rattle.rd_program.proofs.CopyLemmas.{copy_kept, copy_never}
use Rattle.rd_program.proofs.StaffKeyLemmas.{staff_key_never, staff_key_not_1}
use Rattle.rd_program.proofs.FileLemmas.{flushed_once}
use Rattle.std.specs.Prelude.{IsSome}
use Rattle.rd_commands.specs.declared.done.Done.TheVariants.{InPart}
use Rattle.rd_commands.specs.Asks.{IsExtraction}
use Rattle.rd_program.proofs.ExtractLemmas.{files_kept, files_never}
use Rattle.std.specs.Prelude.{MatchResult}
use Rattle.rd_program.specs.Does.{Does, DoesCopy, DoesInit, DoesServe, DoesStaffKey}
use Rattle.rd_program.proofs.FileLemmas.{shown_as}
use Rattle.rd_program.proofs.PerformLemmas.{at_both, at_image}
use Rattle.rd_program.proofs.dispatch.perform.Goals as goal

-- ---- what is done

pub returns-in-File-clause-does : goal.returns-in-File-clause-does
returns-in-File-clause-does g c =
    subst (λ ask. Does g.M.Disk.Store g.M.Door.Door.so_far g.M.Door.Door.coming (g.M.Machine.seen c.args.machine.now) (g.M.Machine.seen c.cat.new.machine)
    (record { input = g.R.Read.remaining c.args.input.now; out = g.W.Write.contents c.args.output.now; written = g.W.Write.contents c.cat.new.output }) ask c.whole.result) (sym c.in-File.is) (record {
      same = ap g.M.Machine.seen c.cat.ensures.same;
      so = record {
        on_input = λ dash. at_image (g.R.Read.remaining c.args.input.now) c.cat.result c.whole.result (λ image. Serves c.in-File.ask.kind c.in-File.ask.slot image (g.W.Write.contents c.args.output.now) (g.W.Write.contents c.cat.new.output)) (λ refusal image. Refuses refusal c.in-File.ask.kind c.in-File.ask.slot image (g.W.Write.contents c.args.output.now) (g.W.Write.contents c.cat.new.output)) c.whole.ensures (c.cat.ensures.done dash) (c.cat.ensures.refused dash);
        in_file = λ other. shown_as _ _ c.in-File.ask.image.now (λ image. MatchResult c.whole.result (λ done. Serves c.in-File.ask.kind c.in-File.ask.slot image (g.W.Write.contents c.args.output.now) (g.W.Write.contents c.cat.new.output)) (λ refusal. Refuses refusal c.in-File.ask.kind c.in-File.ask.slot image (g.W.Write.contents c.args.output.now) (g.W.Write.contents c.cat.new.output))) (g.met.M.Machine.gives c.args.machine.now).0
            (at_image (g.M.Files.file_bytes c.args.machine.now c.in-File.ask.image.now) c.cat.result c.whole.result (λ image. Serves c.in-File.ask.kind c.in-File.ask.slot image (g.W.Write.contents c.args.output.now) (g.W.Write.contents c.cat.new.output)) (λ refusal image. Refuses refusal c.in-File.ask.kind c.in-File.ask.slot image (g.W.Write.contents c.args.output.now) (g.W.Write.contents c.cat.new.output)) c.whole.ensures (c.cat.ensures.done_file other) (c.cat.ensures.refused_file other));
      };
    })

pub returns-in-Files-clause-does : goal.returns-in-Files-clause-does
returns-in-Files-clause-does g c =
    subst (λ ask. Does g.M.Disk.Store g.M.Door.Door.so_far g.M.Door.Door.coming (g.M.Machine.seen c.args.machine.now) (g.M.Machine.seen c.list.new.machine)
    (record { input = g.R.Read.remaining c.args.input.now; out = g.W.Write.contents c.args.output.now; written = g.W.Write.contents c.list.new.output }) ask c.whole-in-Files.result) (sym c.in-Files.is) (record {
      same = ap g.M.Machine.seen c.list.ensures.same;
      so = record {
        on_input = λ dash. at_image (g.R.Read.remaining c.args.input.now) c.list.result c.whole-in-Files.result (λ image. Lists c.in-Files.ask.kind image (g.W.Write.contents c.args.output.now) (g.W.Write.contents c.list.new.output)) (λ refusal image. RefusesList refusal c.in-Files.ask.kind image (g.W.Write.contents c.args.output.now) (g.W.Write.contents c.list.new.output)) c.whole-in-Files.ensures (c.list.ensures.done dash) (c.list.ensures.refused dash);
        in_file = λ other. shown_as _ _ c.in-Files.ask.image.now (λ image. MatchResult c.whole-in-Files.result (λ done. Lists c.in-Files.ask.kind image (g.W.Write.contents c.args.output.now) (g.W.Write.contents c.list.new.output)) (λ refusal. RefusesList refusal c.in-Files.ask.kind image (g.W.Write.contents c.args.output.now) (g.W.Write.contents c.list.new.output))) (g.met.M.Machine.gives c.args.machine.now).0
            (at_image (g.M.Files.file_bytes c.args.machine.now c.in-Files.ask.image.now) c.list.result c.whole-in-Files.result (λ image. Lists c.in-Files.ask.kind image (g.W.Write.contents c.args.output.now) (g.W.Write.contents c.list.new.output)) (λ refusal image. RefusesList refusal c.in-Files.ask.kind image (g.W.Write.contents c.args.output.now) (g.W.Write.contents c.list.new.output)) c.whole-in-Files.ensures (c.list.ensures.done_file other) (c.list.ensures.refused_file other));
      };
    })

pub returns-in-Extract-clause-does : goal.returns-in-Extract-clause-does
returns-in-Extract-clause-does g c =
    subst (λ ask. Does g.M.Disk.Store g.M.Door.Door.so_far g.M.Door.Door.coming (g.M.Machine.seen c.args.machine.now) (g.M.Machine.seen c.extract.new.machine)
    (record { input = g.R.Read.remaining c.args.input.now; out = g.W.Write.contents c.args.output.now; written = g.W.Write.contents c.extract.new.output }) ask c.whole-in-Extract.result) (sym c.in-Extract.is) (record {
      frame = c.extract.ensures.frame;
      so = at_both c.extract.result c.whole-in-Extract.result _ _ c.whole-in-Extract.ensures c.extract.ensures.extracted c.extract.ensures.refused;
    })

pub returns-in-Init-clause-does : goal.returns-in-Init-clause-does
returns-in-Init-clause-does g c =
    subst (λ ask. Does g.M.Disk.Store g.M.Door.Door.so_far g.M.Door.Door.coming (g.M.Machine.seen c.args.machine.now) (g.M.Machine.seen c.init.new.machine)
    (record { input = g.R.Read.remaining c.args.input.now; out = g.W.Write.contents c.args.output.now; written = g.W.Write.contents c.init.new.output }) ask c.whole-in-Init.result) (sym c.in-Init.is) (subst (DoesInit g.M.Disk.Store (g.M.Machine.seen c.args.machine.now) (g.M.Machine.seen c.init.new.machine) (g.W.Write.contents c.args.output.now) (g.W.Write.contents c.init.new.output) c.in-Init.ask)
    (sym c.whole-in-Init.ensures) c.init.ensures.does)

pub returns-in-StaffKey-clause-does : goal.returns-in-StaffKey-clause-does
returns-in-StaffKey-clause-does g c =
    subst (λ ask. Does g.M.Disk.Store g.M.Door.Door.so_far g.M.Door.Door.coming (g.M.Machine.seen c.args.machine.now) (g.M.Machine.seen c.staff_key.new.machine)
    (record { input = g.R.Read.remaining c.args.input.now; out = g.W.Write.contents c.args.output.now; written = g.W.Write.contents c.staff_key.new.output }) ask c.whole-in-StaffKey.result) (sym c.in-StaffKey.is) (subst (DoesStaffKey g.M.Disk.Store (g.M.Machine.seen c.args.machine.now) (g.M.Machine.seen c.staff_key.new.machine) (g.W.Write.contents c.args.output.now) (g.W.Write.contents c.staff_key.new.output) c.in-StaffKey.ask)
    (sym c.whole-in-StaffKey.ensures) c.staff_key.ensures.does)

pub returns-in-Copy-clause-does : goal.returns-in-Copy-clause-does
returns-in-Copy-clause-does g c =
    subst (λ ask. Does g.M.Disk.Store g.M.Door.Door.so_far g.M.Door.Door.coming (g.M.Machine.seen c.args.machine.now) (g.M.Machine.seen c.copy.new.machine)
    (record { input = g.R.Read.remaining c.args.input.now; out = g.W.Write.contents c.args.output.now; written = g.W.Write.contents c.copy.new.output }) ask c.whole-in-Copy.result) (sym c.in-Copy.is) (subst (DoesCopy g.M.Disk.Store (g.M.Machine.seen c.args.machine.now) (g.M.Machine.seen c.copy.new.machine) (g.W.Write.contents c.args.output.now) (g.W.Write.contents c.copy.new.output) c.in-Copy.ask)
    (sym c.whole-in-Copy.ensures) c.copy.ensures.does)

pub returns-in-OneQuestion-clause-does : goal.returns-in-OneQuestion-clause-does
returns-in-OneQuestion-clause-does g c =
    subst (λ ask. Does g.M.Disk.Store g.M.Door.Door.so_far g.M.Door.Door.coming (g.M.Machine.seen c.args.machine.now) (g.M.Machine.seen c.ask_once.new.machine)
    (record { input = g.R.Read.remaining c.args.input.now; out = g.W.Write.contents c.args.output.now; written = g.W.Write.contents c.ask_once.new.output }) ask c.ask_once.result) (sym c.in-OneQuestion.is) c.ask_once.ensures.does

pub returns-in-Import-clause-does : goal.returns-in-Import-clause-does
returns-in-Import-clause-does g c =
    subst (λ ask. Does g.M.Disk.Store g.M.Door.Door.so_far g.M.Door.Door.coming (g.M.Machine.seen c.args.machine.now) (g.M.Machine.seen c.import.new.machine)
    (record { input = g.R.Read.remaining c.args.input.now; out = g.W.Write.contents c.args.output.now; written = g.W.Write.contents c.import.new.output }) ask c.import.result) (sym c.in-Import.is) c.import.ensures.does

pub returns-in-FlaggedImport-clause-does : goal.returns-in-FlaggedImport-clause-does
returns-in-FlaggedImport-clause-does g c =
    subst (λ ask. Does g.M.Disk.Store g.M.Door.Door.so_far g.M.Door.Door.coming (g.M.Machine.seen c.args.machine.now) (g.M.Machine.seen c.import-in-FlaggedImport.new.machine)
    (record { input = g.R.Read.remaining c.args.input.now; out = g.W.Write.contents c.args.output.now; written = g.W.Write.contents c.import-in-FlaggedImport.new.output }) ask c.import-in-FlaggedImport.result) (sym c.in-FlaggedImport.is) c.import-in-FlaggedImport.ensures.does

pub returns-in-Serve-clause-does : goal.returns-in-Serve-clause-does
returns-in-Serve-clause-does g c =
    subst (λ ask. Does g.M.Disk.Store g.M.Door.Door.so_far g.M.Door.Door.coming (g.M.Machine.seen c.args.machine.now) (g.M.Machine.seen c.serve.new.machine)
    (record { input = g.R.Read.remaining c.args.input.now; out = g.W.Write.contents c.args.output.now; written = g.W.Write.contents c.serve.new.output }) ask c.whole-in-Serve.result) (sym c.in-Serve.is) (subst (DoesServe g.M.Disk.Store (g.M.Machine.seen c.args.machine.now) (g.M.Machine.seen c.serve.new.machine) (g.W.Write.contents c.args.output.now) (g.W.Write.contents c.serve.new.output)
    g.M.Door.Door.so_far g.M.Door.Door.coming c.in-Serve.ask) (sym c.whole-in-Serve.ensures) c.serve.ensures.does)

-- ---- no refusal is a mistake in the words

pub returns-in-OneQuestion-clause-never : goal.returns-in-OneQuestion-clause-never
returns-in-OneQuestion-clause-never g c = IfErr-weaker c.ask_once.result _ _ (λ refusal refused. once_never refusal _ _ refused) c.ask_once.ensures.does.refused

pub returns-in-StaffKey-clause-never : goal.returns-in-StaffKey-clause-never
returns-in-StaffKey-clause-never g c =
    err_whole _ c.staff_key.result c.whole-in-StaffKey.result c.whole-in-StaffKey.ensures
    (IfErr-weaker c.staff_key.result _ _ (λ refusal refused. staff_key_never refusal _ _ refused) c.staff_key.ensures.refused)

pub returns-in-Copy-clause-never : goal.returns-in-Copy-clause-never
returns-in-Copy-clause-never g c =
    err_whole _ c.copy.result c.whole-in-Copy.result c.whole-in-Copy.ensures
    (IfErr-weaker c.copy.result _ _ (λ refusal refused. copy_never refusal _ _ refused) c.copy.ensures.refused)

pub returns-in-Extract-clause-never : goal.returns-in-Extract-clause-never
returns-in-Extract-clause-never g c =
    err_whole _ c.extract.result c.whole-in-Extract.result c.whole-in-Extract.ensures
    (IfErr-weaker c.extract.result _ _ (λ refusal refused. files_never refusal refused) c.extract.ensures.named)

-- ---- what is written at 1

pub returns-in-OneQuestion-clause-kept : goal.returns-in-OneQuestion-clause-kept
returns-in-OneQuestion-clause-kept g c = IfErr-weaker c.ask_once.result _ _ (λ refusal refused one. inl (once_kept refusal _ _ refused one)) c.ask_once.ensures.does.refused

pub returns-in-StaffKey-clause-kept : goal.returns-in-StaffKey-clause-kept
returns-in-StaffKey-clause-kept g c =
    err_whole _ c.staff_key.result c.whole-in-StaffKey.result c.whole-in-StaffKey.ensures
    (IfErr-weaker c.staff_key.result _ _ (λ refusal refused one. absurd (staff_key_not_1 refusal _ _ refused one)) c.staff_key.ensures.refused)

pub returns-in-Copy-clause-kept : goal.returns-in-Copy-clause-kept
returns-in-Copy-clause-kept g c =
    err_whole _ c.copy.result c.whole-in-Copy.result c.whole-in-Copy.ensures
    (IfErr-weaker c.copy.result _ _ (λ refusal refused one. inl (copy_kept refusal _ _ refused one)) c.copy.ensures.refused)

pub returns-in-Extract-clause-kept : goal.returns-in-Extract-clause-kept
returns-in-Extract-clause-kept g c = err_whole _ c.extract.result c.whole-in-Extract.result c.whole-in-Extract.ensures
    (files_kept c.extract.result (Keeps (g.W.Write.contents c.args.output.now) (g.W.Write.contents c.extract.new.output)) c.args.ask (subst IsExtraction (sym c.in-Extract.is) tt))

-- ---- what is done in part

pub returns-in-File-clause-in_part : goal.returns-in-File-clause-in_part
returns-in-File-clause-in_part g c = whole_is _ c.cat.result c.whole.result c.whole.ensures

pub returns-in-Files-clause-in_part : goal.returns-in-Files-clause-in_part
returns-in-Files-clause-in_part g c = whole_is _ c.list.result c.whole-in-Files.result c.whole-in-Files.ensures

pub returns-in-Init-clause-in_part : goal.returns-in-Init-clause-in_part
returns-in-Init-clause-in_part g c = whole_is _ c.init.result c.whole-in-Init.result c.whole-in-Init.ensures

pub returns-in-Serve-clause-in_part : goal.returns-in-Serve-clause-in_part
returns-in-Serve-clause-in_part g c = whole_is _ c.serve.result c.whole-in-Serve.result c.whole-in-Serve.ensures

pub returns-in-OneQuestion-clause-in_part : goal.returns-in-OneQuestion-clause-in_part
returns-in-OneQuestion-clause-in_part g c =
    subst (λ ask. IfOk c.ask_once.result (λ done. done ≡ InPart → TellsOnOutput ask)) (sym c.in-OneQuestion.is) c.ask_once.ensures.in_part

pub returns-in-StaffKey-clause-in_part : goal.returns-in-StaffKey-clause-in_part
returns-in-StaffKey-clause-in_part g c = whole_is _ c.staff_key.result c.whole-in-StaffKey.result c.whole-in-StaffKey.ensures

pub returns-in-Copy-clause-in_part : goal.returns-in-Copy-clause-in_part
returns-in-Copy-clause-in_part g c = whole_is _ c.copy.result c.whole-in-Copy.result c.whole-in-Copy.ensures

pub returns-in-Extract-clause-in_part : goal.returns-in-Extract-clause-in_part
returns-in-Extract-clause-in_part g c = whole_is _ c.extract.result c.whole-in-Extract.result c.whole-in-Extract.ensures

-- ---- what is flushed

pub returns-in-File-clause-flushed : goal.returns-in-File-clause-flushed
returns-in-File-clause-flushed g c =
    ok_whole _ c.cat.result c.whole.result c.whole.ensures
    (flushed_once g.M.Files.flushed (g.W.Write.contents c.args.output.now) (g.W.Write.contents c.cat.new.output) c.cat.result c.cat.ensures.flushed)

pub returns-in-Files-clause-flushed : goal.returns-in-Files-clause-flushed
returns-in-Files-clause-flushed g c =
    ok_whole _ c.list.result c.whole-in-Files.result c.whole-in-Files.ensures
    (flushed_once g.M.Files.flushed (g.W.Write.contents c.args.output.now) (g.W.Write.contents c.list.new.output) c.list.result c.list.ensures.flushed)

pub returns-in-Init-clause-flushed : goal.returns-in-Init-clause-flushed
returns-in-Init-clause-flushed g c =
    ok_whole _ c.init.result c.whole-in-Init.result c.whole-in-Init.ensures
    (flushed_once g.M.Files.flushed (g.W.Write.contents c.args.output.now) (g.W.Write.contents c.init.new.output) c.init.result c.init.ensures.flushed)

pub returns-in-Serve-clause-flushed : goal.returns-in-Serve-clause-flushed
returns-in-Serve-clause-flushed g c =
    ok_whole _ c.serve.result c.whole-in-Serve.result c.whole-in-Serve.ensures
    (flushed_once g.M.Files.flushed (g.W.Write.contents c.args.output.now) (g.W.Write.contents c.serve.new.output) c.serve.result c.serve.ensures.flushed)

pub returns-in-Import-clause-flushed : goal.returns-in-Import-clause-flushed
returns-in-Import-clause-flushed g c = c.import.ensures.flushed

pub returns-in-OneQuestion-clause-flushed : goal.returns-in-OneQuestion-clause-flushed
returns-in-OneQuestion-clause-flushed g c =
    flushed_once g.M.Files.flushed (g.W.Write.contents c.args.output.now) (g.W.Write.contents c.ask_once.new.output) c.ask_once.result c.ask_once.ensures.flushed

pub returns-in-StaffKey-clause-flushed : goal.returns-in-StaffKey-clause-flushed
returns-in-StaffKey-clause-flushed g c =
    ok_whole _ c.staff_key.result c.whole-in-StaffKey.result c.whole-in-StaffKey.ensures
    (flushed_once g.M.Files.flushed (g.W.Write.contents c.args.output.now) (g.W.Write.contents c.staff_key.new.output) c.staff_key.result c.staff_key.ensures.flushed)

pub returns-in-Copy-clause-flushed : goal.returns-in-Copy-clause-flushed
returns-in-Copy-clause-flushed g c =
    ok_whole _ c.copy.result c.whole-in-Copy.result c.whole-in-Copy.ensures
    (flushed_once g.M.Files.flushed (g.W.Write.contents c.args.output.now) (g.W.Write.contents c.copy.new.output) c.copy.result c.copy.ensures.flushed)

pub returns-in-Extract-clause-flushed : goal.returns-in-Extract-clause-flushed
returns-in-Extract-clause-flushed g c = ok_whole _ c.extract.result c.whole-in-Extract.result c.whole-in-Extract.ensures c.extract.ensures.flushed

pub returns-in-FlaggedImport-clause-flushed : goal.returns-in-FlaggedImport-clause-flushed
returns-in-FlaggedImport-clause-flushed g c = c.import-in-FlaggedImport.ensures.flushed

-- ---- the connection that is given back

pub returns-in-File-clause-back : goal.returns-in-File-clause-back
returns-in-File-clause-back g c = λ shows had. subst (λ m. IsSome (g.M.Machine.seen m).left) (sym c.cat.ensures.same) had

pub returns-in-Files-clause-back : goal.returns-in-Files-clause-back
returns-in-Files-clause-back g c = λ shows had. subst (λ m. IsSome (g.M.Machine.seen m).left) (sym c.list.ensures.same) had
