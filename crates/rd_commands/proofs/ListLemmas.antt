-- The list that `list` writes, in the words of its contract.
use Rattle.std.proofs.Common.{◌≡◌, ◌∙◌, ◌++◌, ◌+◌, ◌<◌, inr, ℕ, List, [], ◌∷◌, Option, Result, Ok, Err, IfErr, OnErr, OnOk, ap, append-nil, get_or, length, subst, sym, take}
use Rattle.std.proofs.lemmas.List.{take_more}
use Rattle.std.proofs.lemmas.Grind.{flat_map-append}
use Rattle.std.specs.Io.KnownBytes.{Appends}
use Rattle.std.specs.List.{flat_map}
use Rattle.rd_cbm.specs.declared.chains.End.{End}
use Rattle.rd_geometry.specs.Kinds.{size_of}
use Rattle.rd_geometry.specs.declared.kind.Kind.{Kind}
use Rattle.rd_volume.specs.Reports.{IsDirectoryEnd}
use Rattle.rd_volume.specs.Volumes.{AreFounds}
use Rattle.rd_volume.specs.declared.found.Found.{Found}
use Rattle.rd_commands.specs.Listed.{IsList, Lists, ListsPart, RefusesList, line_text, list_text}
use Rattle.rd_commands.specs.Output.{AppendsPart}
use Rattle.rd_commands.specs.declared.refusal.Refusal.{Refusal}
use Rattle.rd_commands.specs.declared.refusal.Refusal.TheVariants.{Device}

-- one more line
pub lines_more : (kind : Kind) (files : List Found) (n : ℕ) (file : Found) → n < length files → get_or files n file ≡ file
    → flat_map (line_text kind) (take n files) ++ line_text kind file ≡ flat_map (line_text kind) (take (n + 1) files)
lines_more kind files n file inside is =
    ap (λ l. flat_map (line_text kind) (take n files) ++ l) (sym (append-nil (line_text kind file)))
    ∙ sym (flat_map-append (line_text kind) (take n files) (file ∷ []))
    ∙ ap (λ f. flat_map (line_text kind) (take n files ++ f ∷ [])) (sym is)
    ∙ ap (flat_map (line_text kind)) (sym (take_more files n file inside))

-- the text of the files of a disk, which is the image, is its list
pub is_list : (kind of_disk : Kind) (image disk text : List ℕ) (files : List Found) (ends : End) → length image ≡ size_of kind → of_disk ≡ kind → disk ≡ image
    → AreFounds of_disk disk files → IsDirectoryEnd of_disk disk ends → text ≡ list_text kind files ends → IsList kind image text
is_list kind of_disk image disk text files ends size same_kind same told is_end is = record {
  size = size;
  files = files;
  are_files = subst (λ k. AreFounds k image files) same_kind (subst (λ bytes. AreFounds of_disk bytes files) same told);
  ends = ends;
  is_end = subst (λ k. IsDirectoryEnd k image ends) same_kind (subst (λ bytes. IsDirectoryEnd of_disk bytes ends) same is_end);
  is = is;
}

pub listed : {T E : Type 0} (r : Result T E) (kind : Kind) (image text : List ℕ) (old new : Option (List ℕ)) → IsList kind image text → OnOk r (Appends old new text)
    → OnOk r (Lists kind image old new)
listed (Ok value) kind image text old new is gained = record { text = text; is_list = is; gained = gained }
listed (Err error) kind image text old new is gained = tt

pub list_cut : {T : Type 0} (r : Result T Refusal) (kind : Kind) (image text : List ℕ) (old new : Option (List ℕ)) → IsList kind image text
    → OnErr r (AppendsPart old new text) → IfErr r (λ refusal. refusal ≡ Device) → IfErr r (λ refusal. RefusesList refusal kind image old new)
list_cut (Ok value) kind image text old new is gained device = tt
list_cut (Err refusal) kind image text old new is gained device =
    let part : ListsPart kind image old new = record { text = text; is_list = is; gained = gained } in
    subst (λ e. RefusesList e kind image old new) (sym device) (inr part)
