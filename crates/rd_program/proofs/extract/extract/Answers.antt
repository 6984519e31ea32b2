use Rattle.std.proofs.Common.{◌≡◌, ◌∙◌, ◌<◌, IfErr, ap, arith, false, inr, length, refl, rules, subst, sym, true}
use Rattle.rd_geometry.specs.Images.{bytes_of, kind_of}
use Rattle.rd_geometry.specs.Kinds.{size_of}
use Rattle.rd_volume.specs.Volumes.{AreFounds}
use Rattle.rd_commands.specs.declared.refusal.Refusal.TheVariants.{NoMemory, WrongSize}
use Rattle.rd_program.specs.Extracting.{OfImage, RefusesExtract}
use Rattle.rd_program.proofs.FileLemmas.{shown_as}
use Rattle.rd_program.proofs.FolderLemmas.{all_of_image, extracts_all, fails_named, makes_more, makes_same, of_sized, part_of_image, refuses_at, refuses_early, size_refused}
use Rattle.rd_program.proofs.ShowLemmas.{passed_on}
use Rattle.rd_program.proofs.extract.extract.Goals.{then-is_given+in_ok-extract_one, else-is_given}
use Rattle.std.specs.Prelude.{IsSome}
use Rattle.std.proofs.lemmas.Grind.{common_steps}
use Rattle.rd_program.specs.World.{ChangesFolders, World}
use Rattle.rd_program.proofs.Frames.{more_made}
use Rattle.rd_program.proofs.extract.extract.Goals as goal

-- ---- before the first file

pub returns-in_err-image-clause-refused : goal.returns-in_err-image-clause-refused
returns-in_err-image-clause-refused g c =
    let made = (g.M.Machine.seen c.args.machine.now).written in
    let out = g.W.Write.contents c.args.output.now in
    subst (λ machine. IfErr c.from_residual-in_err-image.result (λ refusal. OfImage (g.M.Machine.seen c.args.machine.now).files (g.R.Read.remaining c.args.input.now) c.args.ask.image.image.now
    (λ image. RefusesExtract c.args.ask.image.kind image c.args.ask.folder.now made (g.M.Machine.seen machine).written out out refusal))) (sym c.read_image.ensures.same)
    (passed_on c.from_residual-in_err-image.result WrongSize _ c.from_residual-in_err-image.ensures.1
    (size_refused _ _ _ c.in_ok-bytes.bytes.items c.args.ask.folder.now c.args.ask.image.kind made out c.in_ok-bytes.ensures.front (λ other. shown_as _ _ c.args.ask.image.image.now (λ file. c.in_ok-bytes.bytes.items ≡ file) (g.met.M.Machine.gives c.args.machine.now).0 (c.in_ok-bytes.ensures.of_file other))
    (λ sized. let none : false ≡ true = c.in_err-image.ensures.taken.1 (ap length c.as_slice.ensures.value ∙ sized) in absurd (cc none))))

pub returns-in_err-files-clause-refused : goal.returns-in_err-files-clause-refused
returns-in_err-files-clause-refused g c =
    let made = (g.M.Machine.seen c.args.machine.now).written in
    let out = g.W.Write.contents c.args.output.now in
    subst (λ machine. IfErr c.from_residual-in_err-files.result (λ refusal. OfImage (g.M.Machine.seen c.args.machine.now).files (g.R.Read.remaining c.args.input.now) c.args.ask.image.image.now
    (λ image. RefusesExtract c.args.ask.image.kind image c.args.ask.folder.now made (g.M.Machine.seen machine).written out out refusal))) (sym c.read_image.ensures.same)
    (passed_on c.from_residual-in_err-files.result NoMemory _ c.from_residual-in_err-files.ensures.1
    (refuses_early _ _ _ c.args.ask.folder.now c.args.ask.image.kind made out NoMemory tt))

-- ---- file after file

pub loop-file-preserved : goal.loop-file-preserved
loop-file-preserved g c =
    let at = c.loop-file in
    let files = c.as_slice-file-items.result.now in
    let inside : at.file-index < length files = omega arith in
    elim c.if-is_given.branch [
      | then-is_given+in_ok-extract_one w ↦ rw (w.machine-is, w.output-is) (record {
        makes = makes_more (kind_of c.in_ok-image.image) (bytes_of c.in_ok-image.image) c.args.ask.folder.now files at.file-index c.file-item.result _ _ _ _ _ _ inside (sym c.file-item.is)
            (sym c.is_given.ensures ∙ w.if-is_given.true) at.invariant.makes w.in_ok-extract_one.ensures.made w.in_ok-extract_one.ensures.line;
        flushed = inr w.in_ok-extract_one.ensures.flushed;
        frame = more_made (g.M.Machine.seen c.args.machine.now) (g.M.Machine.seen at.machine) (g.M.Machine.seen w.extract_one.new.machine) at.invariant.frame w.extract_one.ensures.frame;
      })
      | else-is_given w ↦ rw (w.machine-is, w.output-is) (record {
        makes = makes_same (kind_of c.in_ok-image.image) (bytes_of c.in_ok-image.image) c.args.ask.folder.now files at.file-index c.file-item.result _ _ _ _ inside (sym c.file-item.is)
            (sym c.is_given.ensures ∙ w.if-is_given.false) at.invariant.makes;
        flushed = at.invariant.flushed;
        frame = at.invariant.frame;
      })
    ]

pub returns-in_err-extract_one-clause-refused : goal.returns-in_err-extract_one-clause-refused
returns-in_err-extract_one-clause-refused g c =
    let at = c.loop-file in
    let files = c.as_slice-file-items.result.now in
    let inside : at.file-index < length files = omega arith in
    let are : AreFounds (kind_of c.in_ok-image.image) (bytes_of c.in_ok-image.image) files = subst (AreFounds _ _) (sym c.as_slice-file-items.ensures) c.in_ok-files.ensures.files in
    let refused = refuses_at (kind_of c.in_ok-image.image) (bytes_of c.in_ok-image.image) c.args.ask.folder.now files at.file-index c.file-item.result _ _ _ _ _ _ c.in_err-extract_one.field-0.0
    are inside (sym c.file-item.is) (sym c.is_given.ensures ∙ c.if-is_given.true) at.invariant.makes c.in_err-extract_one.ensures.failed in
    passed_on c.from_residual-in_err-extract_one.result c.in_err-extract_one.field-0.0 _ c.from_residual-in_err-extract_one.ensures.1
    (of_sized _ _ _ c.in_ok-bytes.bytes.items (size_of c.args.ask.image.kind) _ c.in_ok-bytes.ensures.front (λ other. shown_as _ _ c.args.ask.image.image.now (λ file. c.in_ok-bytes.bytes.items ≡ file) (g.met.M.Machine.gives c.args.machine.now).0 (c.in_ok-bytes.ensures.of_file other))
    (ap length (sym c.as_slice.ensures.value) ∙ c.in_ok-image.ensures.taken.0 (refl {a = true}))
    (part_of_image c.args.ask.image.kind _ c.in_ok-bytes.bytes.items _ c.args.ask.folder.now _ _ _ _ c.in_err-extract_one.field-0.0 c.in_ok-image.ensures.kind
    (c.in_ok-image.ensures.bytes ∙ c.as_slice.ensures.value) refused))

pub returns-in_err-extract_one-clause-named : goal.returns-in_err-extract_one-clause-named
returns-in_err-extract_one-clause-named g c =
    passed_on c.from_residual-in_err-extract_one.result c.in_err-extract_one.field-0.0 _ c.from_residual-in_err-extract_one.ensures.1 (fails_named _ _ _ _ _ _ c.in_err-extract_one.field-0.0 c.in_err-extract_one.ensures.failed)

pub returns-clause-extracted : goal.returns-clause-extracted
returns-clause-extracted g c =
    let at = c.loop-file in
    let files = c.as_slice-file-items.result.now in
    let are : AreFounds (kind_of c.in_ok-image.image) (bytes_of c.in_ok-image.image) files = subst (AreFounds _ _) (sym c.as_slice-file-items.ensures) c.in_ok-files.ensures.files in
    let all = extracts_all (kind_of c.in_ok-image.image) (bytes_of c.in_ok-image.image) c.args.ask.folder.now files at.file-index _ _ _ _ are (omega arith) at.invariant.makes in
    of_sized _ _ _ c.in_ok-bytes.bytes.items (size_of c.args.ask.image.kind) _ c.in_ok-bytes.ensures.front (λ other. shown_as _ _ c.args.ask.image.image.now (λ file. c.in_ok-bytes.bytes.items ≡ file) (g.met.M.Machine.gives c.args.machine.now).0 (c.in_ok-bytes.ensures.of_file other))
    (ap length (sym c.as_slice.ensures.value) ∙ c.in_ok-image.ensures.taken.0 (refl {a = true}))
    (all_of_image c.args.ask.image.kind _ c.in_ok-bytes.bytes.items _ c.args.ask.folder.now _ _ _ _ c.in_ok-image.ensures.kind
    (c.in_ok-image.ensures.bytes ∙ c.as_slice.ensures.value) all)

pub returns-in_err-bytes-clause-frame : goal.returns-in_err-bytes-clause-frame
returns-in_err-bytes-clause-frame g c =
    subst (λ machine. ChangesFolders (g.M.Machine.seen c.args.machine.now) (g.M.Machine.seen machine)) (sym c.read_image.ensures.same) refl

pub returns-in_err-image-clause-frame : goal.returns-in_err-image-clause-frame
returns-in_err-image-clause-frame g c =
    subst (λ machine. ChangesFolders (g.M.Machine.seen c.args.machine.now) (g.M.Machine.seen machine)) (sym c.read_image.ensures.same) refl

pub returns-in_err-files-clause-frame : goal.returns-in_err-files-clause-frame
returns-in_err-files-clause-frame g c =
    subst (λ machine. ChangesFolders (g.M.Machine.seen c.args.machine.now) (g.M.Machine.seen machine)) (sym c.read_image.ensures.same) refl

pub loop-file-init : goal.loop-file-init
loop-file-init g c = record {
  makes = first_of (search rules, grind (arith, common_steps));
  flushed = first_of (search rules, grind (arith, common_steps));
  frame = subst (λ machine. ChangesFolders (g.M.Machine.seen c.args.machine.now) (g.M.Machine.seen machine)) (sym c.read_image.ensures.same) refl;
}

pub returns-in_err-extract_one-clause-frame : goal.returns-in_err-extract_one-clause-frame
returns-in_err-extract_one-clause-frame g c =
    more_made (g.M.Machine.seen c.args.machine.now) (g.M.Machine.seen c.loop-file.machine) (g.M.Machine.seen c.extract_one.new.machine) c.loop-file.invariant.frame c.extract_one.ensures.frame

pub returns-in_err-extract_one-clause-back : goal.returns-in_err-extract_one-clause-back
returns-in_err-extract_one-clause-back g c = λ shows had. subst (λ left. IsSome left) (sym (ap (λ (w : World _ _). w.left) (more_made (g.M.Machine.seen c.args.machine.now) (g.M.Machine.seen c.loop-file.machine) (g.M.Machine.seen c.extract_one.new.machine) c.loop-file.invariant.frame c.extract_one.ensures.frame))) had

pub returns-clause-frame : goal.returns-clause-frame
returns-clause-frame g c = c.loop-file.invariant.frame

pub returns-clause-back : goal.returns-clause-back
returns-clause-back g c = λ shows had. subst (λ left. IsSome left) (sym (ap (λ (w : World _ _). w.left) c.loop-file.invariant.frame)) had
