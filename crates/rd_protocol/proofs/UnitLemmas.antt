-- The bytes of a file are as many as its units hold of it.
use Rattle.std.proofs.Common.{◌≡◌, ◌∙◌, ◌+◌, ◌*◌, ◌<◌, ◌≤◌, ◌^◌, ◌↔◌, ℕ, suc, List, [], ◌∷◌, All, IfSome, IsSome, None, Option, Some, SomeIff, ap, append-nil, arith, length, length-append, refl, subst, sym, take}
use Rattle.std.proofs.Math.Nat.{suc-mul}
use Rattle.std.proofs.lemmas.List.{length-drop, length-take}
use Rattle.std.proofs.lemmas.List.Elements.{All-head, All-tail}
use Rattle.std.specs.List.{concat}
use Rattle.rd_geometry.specs.Kinds.{size_of}
use Rattle.rd_geometry.specs.Laws.{block_inside, cpm_unit_inside}
use Rattle.rd_geometry.specs.declared.kind.Kind.{Kind}
use Rattle.rd_geometry.specs.declared.kind.Kind.TheVariants.{Cpm8}
use Rattle.rd_volume.specs.Founds.{Fits, IsSoundFile}
use Rattle.rd_volume.specs.Kinds.{room_of, unit_count_of}
use Rattle.rd_volume.specs.Volumes.{body_of, contents_of, pieces_of}
use Rattle.rd_volume.specs.declared.found.Found.{Found}
use Rattle.rd_protocol.specs.Lent.{CanBeLent}
use Rattle.rd_protocol.specs.UnitBytes.{bytes_in}

-- a unit of the disk holds as many bytes of a file as there is room for
body_length : (kind : Kind) (image : List ℕ) (unit : ℕ) → length image ≡ size_of kind → unit < unit_count_of kind → length (body_of kind image unit) ≡ room_of kind
body_length Cpm8 image unit whole low = let inside = cpm_unit_inside unit (length image) low whole in simp (length-take, length-drop) (omega arith)
body_length _ image unit whole low = let inside = block_inside unit (length image) low (omega (arith, whole)) in simp (length-take, length-drop) (omega arith)

-- and a front of these bytes is as long as it says
front_length : (kind : Kind) (image : List ℕ) (unit last : ℕ) → length image ≡ size_of kind → unit < unit_count_of kind → last ≤ room_of kind
    → length (take last (body_of kind image unit)) ≡ last
front_length kind image unit last whole low fits =
    let body : length (body_of kind image unit) ≡ room_of kind = body_length kind image unit whole low in simp length-take (omega (arith, body, fits))

-- the pieces of the units have as many bytes together
contents_length : (kind : Kind) (image units : List ℕ) (last : ℕ) → length image ≡ size_of kind → All (λ unit. unit < unit_count_of kind) units → last ≤ room_of kind
    → length (concat (pieces_of kind image units last)) ≡ bytes_in (room_of kind) units last
contents_length kind image [] last whole low fits = refl
contents_length kind image (unit ∷ []) last whole low fits =
    let body : List ℕ = body_of kind image unit in
    let none_full : last ≡ 0 * room_of kind + last = omega arith in
    ap length (append-nil (take last body)) ∙ front_length kind image unit last whole (All-head (λ unit. unit < unit_count_of kind) unit [] low) fits ∙ none_full
contents_length kind image (unit ∷ next ∷ units) last whole low fits =
    let body : List ℕ = body_of kind image unit in
    let rest : List ℕ = concat (pieces_of kind image (next ∷ units) last) in
    let first : length body ≡ room_of kind = body_length kind image unit whole (All-head (λ unit. unit < unit_count_of kind) unit (next ∷ units) low) in
    let others : length rest ≡ length units * room_of kind + last =
    contents_length kind image (next ∷ units) last whole (All-tail (λ unit. unit < unit_count_of kind) unit (next ∷ units) low) fits in
    let one_more : suc (length units) * room_of kind ≡ length units * room_of kind + room_of kind = suc-mul (length units) (room_of kind) in
    let all : length body + length rest ≡ suc (length units) * room_of kind + last = omega (arith, first, others, one_more) in
    length-append body rest ∙ all

-- the bytes of a sound file that lies in an image of the kind are counted by its units
pub counted : (kind : Kind) (image : List ℕ) (file : Found) (found : Option ℕ) → length image ≡ size_of kind → IsSoundFile file → Fits kind file
    → SomeIff found (bytes_in (room_of kind) file.units file.last_len < 2 ^ 64) (bytes_in (room_of kind) file.units file.last_len)
    → (IsSome found ↔ CanBeLent kind image file) × IfSome found (λ len. len ≡ length (contents_of kind image file))
counted kind image file None sized sound fits many =
    let same = contents_length kind image file.units file.last_len sized fits.units fits.last in
    ((λ some. absurd cc, λ lent. absurd (many (subst (λ n. n < 2 ^ 64) same lent.countable))), tt)
counted kind image file (Some len) sized sound fits (few, is) =
    let same = contents_length kind image file.units file.last_len sized fits.units fits.last in
    ((λ _. record { sized = sized; sound = sound; fits = fits; countable = subst (λ n. n < 2 ^ 64) (sym same) few }, λ _. refl), is ∙ sym same)
