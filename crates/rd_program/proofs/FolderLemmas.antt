-- The files of an image that are made in a folder, one after another.
use Rattle.std.proofs.Common.{◌≡◌, ◌≢◌, ◌∙◌, ◌⊎◌, ◌++◌, ◌∷◌, [], ◌+◌, ◌<◌, ◌≤◌, ℕ, Err, IfErr, IfSome, List, None, Ok, OnErr, Option, Result, Some, ap, append-nil, append_assoc, arith, codes, drop, drop-cons, false, get_or, inl, inr, length, map, refl, subst, suc, sym, take, true}
use Rattle.std.specs.Io.KnownBytes.{Appends, Keeps}
use Rattle.std.specs.List.{concat, filter}
use Rattle.std.specs.Prelude.{cond}
use Rattle.std.proofs.KnownBytes.{Appends-trans, Keeps-refl}
use Rattle.std.proofs.lemmas.List.{length-take, map-append, take-append-drop, take_all}
use Rattle.std.proofs.lemmas.List.Elements.{filter-append, filter_more}
use Rattle.std.proofs.lemmas.List.Folds.{concat-append}
use Rattle.rd_geometry.specs.Kinds.{size_of}
use Rattle.rd_geometry.specs.declared.kind.Kind.{Kind}
use Rattle.rd_volume.specs.Volumes.{AreFounds}
use Rattle.rd_volume.specs.declared.found.Found.{Found}
use Rattle.rd_commands.specs.Output.{AppendsPart}
use Rattle.rd_commands.specs.Refusals.{IsDeviceOrMemory}
use Rattle.rd_commands.proofs.WriterLemmas.{part_after, whole_part}
use Rattle.rd_commands.specs.declared.refusal.Refusal.{Refusal}
use Rattle.rd_commands.specs.declared.refusal.Refusal.TheVariants.{Device, Exists, NoMemory, WrongSize}
use Rattle.rd_program.specs.Extracting.{AreNew, Extracts, ExtractsPart, FailsOne, FindsNext, IsFilesRefusal, IsNewPlace, IsTaken, MakesAll, MakesFiles, MakesNext, OfImage, RefusesExtract, is_given, line_of, made_of, refusal_to_write}
use Rattle.rd_program.specs.World.{Made}
use Rattle.rd_program.specs.declared.machine.WriteFault.{WriteFault}
use Rattle.rd_program.specs.declared.machine.WriteFault.TheVariants as write_fault

-- ---- the bytes of the image

-- what holds of the bytes that were read holds of the image: they are its front of one byte more than an image has, or all of
-- them
pub of_image : (files : List ℕ → Option (List ℕ)) (input : Option (List ℕ)) (path bytes : List ℕ) (most : ℕ) (P : List ℕ → Type 0)
    → (path ≡ codes "-" → IfSome input (λ all. bytes ≡ take most all)) → (path ≢ codes "-" → IfSome (files path) (λ file. bytes ≡ file))
    → ((all : List ℕ) → bytes ≡ take most all → P all) → ((all : List ℕ) → bytes ≡ all → P all) → OfImage files input path P
of_image files input path bytes most P front file of_front of_whole = record {
  on_input = λ dash. each input (λ all. bytes ≡ take most all) of_front (front dash);
  in_file = λ other. each (files path) (λ all. bytes ≡ all) of_whole (file other);
}
  where
    each : (shown : Option (List ℕ)) (Q : List ℕ → Type 0) → ((all : List ℕ) → Q all → P all) → IfSome shown Q → IfSome shown P
    each (Some all) Q holds is = holds all is
    each None Q holds is = tt

-- the front of one byte more than an image has is all, if it has the size of an image
pub whole_image : (size : ℕ) (bytes all : List ℕ) → length bytes ≡ size → bytes ≡ take (size + 1) all → bytes ≡ all
whole_image size bytes all sized is =
    let long : length bytes ≡ length (take (size + 1) all) = ap length is in
    is ∙ take_all (size + 1) all (omega (arith, long, length-take (size + 1) all, sized))

-- if it has not, neither has all
pub no_image : (size : ℕ) (bytes all : List ℕ) → length bytes ≢ size → bytes ≡ take (size + 1) all → length all ≢ size
no_image size bytes all other is sized = other (ap length (is ∙ take_all (size + 1) all (omega (arith, sized))) ∙ sized)

-- what holds of bytes of the size of an image that were read holds of the image
pub of_sized : (files : List ℕ → Option (List ℕ)) (input : Option (List ℕ)) (path bytes : List ℕ) (size : ℕ) (P : List ℕ → Type 0)
    → (path ≡ codes "-" → IfSome input (λ all. bytes ≡ take (size + 1) all)) → (path ≢ codes "-" → IfSome (files path) (λ file. bytes ≡ file))
    → length bytes ≡ size → P bytes → OfImage files input path P
of_sized files input path bytes size P front file sized holds =
    of_image files input path bytes (size + 1) P front file (λ all is. subst P (whole_image size bytes all sized is) holds) (λ all is. subst P is holds)

-- bytes of another size are no image
pub size_refused : (files : List ℕ → Option (List ℕ)) (input : Option (List ℕ)) (path bytes folder : List ℕ) (kind : Kind) (made : Option (List Made)) (out : Option (List ℕ))
    → (path ≡ codes "-" → IfSome input (λ all. bytes ≡ take (size_of kind + 1) all)) → (path ≢ codes "-" → IfSome (files path) (λ file. bytes ≡ file))
    → length bytes ≢ size_of kind → OfImage files input path (λ image. RefusesExtract kind image folder made made out out WrongSize)
size_refused files input path bytes folder kind made out front file other =
    of_image files input path bytes (size_of kind + 1) (λ image. RefusesExtract kind image folder made made out out WrongSize) front file
    (λ all is. (no_image (size_of kind) bytes all other is, refl, Keeps-refl out))
    (λ all is. ((λ sized. other (ap length is ∙ sized)), refl, Keeps-refl out))

-- ---- one file after another

-- the files that are given, with one more
given_more : (files : List Found) (n : ℕ) (file : Found) → n < length files → get_or files n file ≡ file → is_given file ≡ true
    → filter is_given (take (n + 1) files) ≡ filter is_given (take n files) ++ file ∷ []
given_more files n file inside is given =
    filter_more is_given files n file inside
    ∙ ap (λ f. filter is_given (take n files) ++ cond (is_given f) (f ∷ []) []) is
    ∙ ap (λ b. filter is_given (take n files) ++ cond b (file ∷ []) []) given

-- and with one that is not
given_same : (files : List Found) (n : ℕ) (file : Found) → n < length files → get_or files n file ≡ file → is_given file ≡ false
    → filter is_given (take (n + 1) files) ≡ filter is_given (take n files)
given_same files n file inside is given =
    filter_more is_given files n file inside
    ∙ ap (λ f. filter is_given (take n files) ++ cond (is_given f) (f ∷ []) []) is
    ∙ ap (λ b. filter is_given (take n files) ++ cond b (file ∷ []) []) given
    ∙ append-nil (filter is_given (take n files))

-- a file is new after others that are
new_more : (before files : List Made) (file : Made) → AreNew before files → IsNewPlace (before ++ files) file.folder file.name → AreNew before (files ++ file ∷ [])
new_more before [] file are is = (subst (λ l. IsNewPlace l file.folder file.name) (append-nil before) is, tt)
new_more before (made ∷ more) file are is =
    (are.0, new_more (before ++ made ∷ []) more file are.1 (subst (λ l. IsNewPlace l file.folder file.name) (sym (append_assoc before (made ∷ []) more)) is))

-- a file that is made after others
made_after : (kind : Kind) (image folder : List ℕ) (done : List Found) (file : Found) (old mid new : Option (List Made))
    → MakesAll old mid (map (made_of kind image folder) done) → MakesNext mid new (made_of kind image folder file)
    → MakesAll old new (map (made_of kind image folder) (done ++ file ∷ []))
made_after kind image folder done file None mid new made next = tt
made_after kind image folder done file (Some before) mid new made next =
    let made_file = made_of kind image folder file in
    let files = map (made_of kind image folder) done in
    let both : (new ≡ Some ((before ++ files) ++ made_file ∷ [])) × IsNewPlace (before ++ files) folder made_file.name = subst (λ m. MakesNext m new made_file) made.0 next in (
      both.0 ∙ ap Some (append_assoc before files (made_file ∷ []) ∙ ap (λ l. before ++ l) (sym (map-append (made_of kind image folder) done (file ∷ [])))),
      subst (λ l. AreNew before l) (sym (map-append (made_of kind image folder) done (file ∷ []))) (new_more before files made_file made.1 both.1),
    )

-- the lines of files, with one more
lines_after : (kind : Kind) (image folder : List ℕ) (done : List Found) (file : Found)
    → concat (map (line_of kind image folder) (done ++ file ∷ [])) ≡ concat (map (line_of kind image folder) done) ++ line_of kind image folder file
lines_after kind image folder done file =
    ap concat (map-append (line_of kind image folder) done (file ∷ []))
    ∙ concat-append (map (line_of kind image folder) done) (line_of kind image folder file ∷ [])
    ∙ ap (λ l. concat (map (line_of kind image folder) done) ++ l) (append-nil (line_of kind image folder file))

-- a file is made, and its line written
pub makes_more : (kind : Kind) (image folder : List ℕ) (files : List Found) (n : ℕ) (file : Found) (old mid new : Option (List Made)) (out before after : Option (List ℕ))
    → n < length files → get_or files n file ≡ file → is_given file ≡ true → MakesFiles kind image folder (filter is_given (take n files)) old mid out before
    → MakesNext mid new (made_of kind image folder file) → Appends before after (line_of kind image folder file)
    → MakesFiles kind image folder (filter is_given (take (n + 1) files)) old new out after
makes_more kind image folder files n file old mid new out before after inside is given makes next line =
    subst (λ l. MakesFiles kind image folder l old new out after) (sym (given_more files n file inside is given)) (record {
      made = made_after kind image folder (filter is_given (take n files)) file old mid new makes.made next;
      lines = subst (Appends out after) (sym (lines_after kind image folder (filter is_given (take n files)) file)) (Appends-trans out before after _ _ makes.lines line);
    })

-- one is passed over
pub makes_same : (kind : Kind) (image folder : List ℕ) (files : List Found) (n : ℕ) (file : Found) (old new : Option (List Made)) (out after : Option (List ℕ))
    → n < length files → get_or files n file ≡ file → is_given file ≡ false → MakesFiles kind image folder (filter is_given (take n files)) old new out after
    → MakesFiles kind image folder (filter is_given (take (n + 1) files)) old new out after
makes_same kind image folder files n file old new out after inside is given makes =
    subst (λ l. MakesFiles kind image folder l old new out after) (sym (given_same files n file inside is given)) makes

-- ---- at the end

-- all were made
pub extracts_all : (kind : Kind) (image folder : List ℕ) (files : List Found) (n : ℕ) (old new : Option (List Made)) (out after : Option (List ℕ)) → AreFounds kind image files
    → length files ≤ n → MakesFiles kind image folder (filter is_given (take n files)) old new out after → Extracts kind image folder old new out after
extracts_all kind image folder files n old new out after are past makes = record {
  files = files;
  are = are;
  makes = subst (λ l. MakesFiles kind image folder (filter is_given l) old new out after) (take_all n files past) makes;
}

-- a front part of them was
abbrev part_of_all : (kind : Kind) (image folder : List ℕ) (files : List Found) (n : ℕ) (old new : Option (List Made)) (out after : Option (List ℕ)) → AreFounds kind image files
    → MakesAll old new (map (made_of kind image folder) (filter is_given (take n files)))
    → AppendsPart out after (concat (map (line_of kind image folder) (filter is_given (take n files)))) → ExtractsPart kind image folder old new out after
part_of_all kind image folder files n old new out after are made lines = record {
  files = files;
  are = are;
  done = filter is_given (take n files);
  rest = filter is_given (drop n files);
  front = ap (filter is_given) (sym (take-append-drop n files)) ∙ filter-append is_given (take n files) (drop n files);
  made = made;
  lines = lines;
}

-- the next one failed: it is not made, or its line is not written whole
pub extracts_part : (kind : Kind) (image folder : List ℕ) (files : List Found) (n : ℕ) (file : Found) (old mid new : Option (List Made)) (out before after : Option (List ℕ))
    → AreFounds kind image files → n < length files → get_or files n file ≡ file → is_given file ≡ true → MakesFiles kind image folder (filter is_given (take n files)) old mid out before
    → ((new ≡ mid) × Keeps before after) ⊎ (MakesNext mid new (made_of kind image folder file) × AppendsPart before after (line_of kind image folder file)) → ExtractsPart kind image folder old new out after
extracts_part kind image folder files n file old mid new out before after are inside is given makes (inl none) =
    part_of_all kind image folder files n old new out after are
    (subst (λ m. MakesAll old m (map (made_of kind image folder) (filter is_given (take n files)))) (sym none.0) makes.made)
    (whole_part out before after _ makes.lines none.1)
extracts_part kind image folder files n file old mid new out before after are inside is given makes (inr (next, part)) =
    part_of_all kind image folder files (n + 1) old new out after are
    (subst (λ l. MakesAll old new (map (made_of kind image folder) l)) (sym (given_more files n file inside is given))
    (made_after kind image folder (filter is_given (take n files)) file old mid new makes.made next))
    (subst (λ l. AppendsPart out after (concat (map (line_of kind image folder) l))) (sym (given_more files n file inside is given))
    (part_after out before after _ (concat (map (line_of kind image folder) (filter is_given (take n files)))) (line_of kind image folder file) []
    (lines_after kind image folder (filter is_given (take n files)) file ∙ ap (λ l. concat (map (line_of kind image folder) (filter is_given (take n files))) ++ l) (sym (append-nil (line_of kind image folder file))))
    makes.lines part))

-- what was made of a disk was made of the image that it is
pub part_of_image : (kind of_disk : Kind) (image disk folder : List ℕ) (old new : Option (List Made)) (out after : Option (List ℕ)) (refusal : Refusal) → of_disk ≡ kind → disk ≡ image
    → RefusesExtract of_disk disk folder old new out after refusal → RefusesExtract kind image folder old new out after refusal
part_of_image kind of_disk image disk folder old new out after refusal same_kind same part =
    subst (λ k. RefusesExtract k image folder old new out after refusal) same_kind (subst (λ i. RefusesExtract of_disk i folder old new out after refusal) same part)

pub all_of_image : (kind of_disk : Kind) (image disk folder : List ℕ) (old new : Option (List Made)) (out after : Option (List ℕ)) → of_disk ≡ kind → disk ≡ image
    → Extracts of_disk disk folder old new out after → Extracts kind image folder old new out after
all_of_image kind of_disk image disk folder old new out after same_kind same all =
    subst (λ k. Extracts k image folder old new out after) same_kind (subst (λ i. Extracts of_disk i folder old new out after) same all)

-- ---- refusals

-- the next of the files that are given
given_next : (files : List Found) (n : ℕ) (file : Found) → n < length files → get_or files n file ≡ file → is_given file ≡ true
    → filter is_given (drop n files) ≡ file ∷ filter is_given (drop (suc n) files)
given_next files n file inside is given =
    ap (filter is_given) (drop-cons files n file inside)
    ∙ ap (λ f. filter is_given (f ∷ drop (suc n) files)) is
    ∙ ap (λ b. cond b (file ∷ filter is_given (drop (suc n) files)) (filter is_given (drop (suc n) files))) given

-- one of a file
pub refuses_at : (kind : Kind) (image folder : List ℕ) (files : List Found) (n : ℕ) (file : Found) (old mid new : Option (List Made)) (out before after : Option (List ℕ)) (refusal : Refusal)
    → AreFounds kind image files → n < length files → get_or files n file ≡ file → is_given file ≡ true → MakesFiles kind image folder (filter is_given (take n files)) old mid out before
    → FailsOne (made_of kind image folder file) (line_of kind image folder file) mid new before after refusal → RefusesExtract kind image folder old new out after refusal
refuses_at kind image folder files n file old mid new out before after refusal are inside is given makes (inl (exists, (same, kept, there))) =
    subst (RefusesExtract kind image folder old new out after) (sym exists) (
      part_of_all kind image folder files n old new out after are
          (subst (λ m. MakesAll old m (map (made_of kind image folder) (filter is_given (take n files)))) (sym same) makes.made)
          (whole_part out before after _ makes.lines kept),
      subst (FindsNext new folder) (sym (given_next files n file inside is given)) there,
    )
refuses_at kind image folder files n file old mid new out before after refusal are inside is given makes (inr (inl device, stops)) =
    subst (RefusesExtract kind image folder old new out after) (sym device) (inr (extracts_part kind image folder files n file old mid new out before after are inside is given makes stops))
refuses_at kind image folder files n file old mid new out before after refusal are inside is given makes (inr (inr memory, stops)) =
    subst (RefusesExtract kind image folder old new out after) (sym memory) (inr (extracts_part kind image folder files n file old mid new out before after are inside is given makes stops))

-- why a file is not made
pub not_made : (fault : WriteFault) (refusal : Refusal) (made : Made) (line : List ℕ) (old new : Option (List Made)) (out : Option (List ℕ)) → refusal ≡ refusal_to_write fault → new ≡ old
    → (fault ≡ write_fault.Exists → IsTaken new made.folder made.name) → FailsOne made line old new out out refusal
not_made write_fault.Exists refusal made line old new out is same taken = inl (is, (same, Keeps-refl out, taken refl))
not_made write_fault.Failed refusal made line old new out is same taken = inr (inl is, inl (same, Keeps-refl out))
not_made write_fault.NoMemory refusal made line old new out is same taken = inr (inr is, inl (same, Keeps-refl out))

-- or its line not written whole
pub line_failed : {T : Type 0} (r : Result T Refusal) (made : Made) (line : List ℕ) (old new : Option (List Made)) (out after : Option (List ℕ)) → IfErr r (λ refusal. refusal ≡ Device)
    → MakesNext old new made → OnErr r (AppendsPart out after line) → IfErr r (FailsOne made line old new out after)
line_failed (Ok done) made line old new out after device makes cut = tt
line_failed (Err refusal) made line old new out after device makes cut = inr (inl device, inr (makes, cut))

pub fails_named : (made : Made) (line : List ℕ) (old new : Option (List Made)) (out after : Option (List ℕ)) (refusal : Refusal) → FailsOne made line old new out after refusal
    → IsFilesRefusal refusal
fails_named made line old new out after refusal (inl exists) = inr (inl exists.0)
fails_named made line old new out after refusal (inr (failed, stops)) = inr (inr failed)

-- one before the first file
pub refuses_early : (files : List ℕ → Option (List ℕ)) (input : Option (List ℕ)) (path folder : List ℕ) (kind : Kind) (made : Option (List Made)) (out : Option (List ℕ)) (refusal : Refusal)
    → IsDeviceOrMemory refusal → OfImage files input path (λ image. RefusesExtract kind image folder made made out out refusal)
refuses_early files input path folder kind made out refusal early = record { on_input = λ dash. each input; in_file = λ other. each (files path) }
  where
    one : (refusal : Refusal) → IsDeviceOrMemory refusal → (image : List ℕ) → RefusesExtract kind image folder made made out out refusal
    one Device device image = inl (refl, Keeps-refl out)
    one NoMemory memory image = inl (refl, Keeps-refl out)
    one other none image = absurd none

    each : (shown : Option (List ℕ)) → IfSome shown (λ image. RefusesExtract kind image folder made made out out refusal)
    each (Some image) = one refusal early image
    each None = tt
