use Rattle.std.proofs.Common.{◌≡◌, ◌∙◌, ℕ, ◌+◌, ◌*◌, ◌/◌, ◌%◌, ◌≤◌, List, [], ◌∷◌, ◌++◌, length, length-append, append_assoc, ap, arith, refl}
use Rattle.rd_samples.specs.Written.{written}
use Rattle.rd_samples.proofs.WrittenLemmas.{Puts, length-padded, put_on}
use Rattle.rd_samples.proofs.cbm.put_cbm_entry.Goals as goal

-- three fields that are put one behind the other are written as one, and a fourth apart
four_fields : (image image1 image2 image3 image4 : List ℕ) (place : ℕ) (a b c d : List ℕ) → place + 32 ≤ length image
    → length a ≡ 3 → length b ≡ 16 → length c ≡ 3 → length d ≡ 2 → Puts image image1 (place + 2) a → Puts image1 image2 (place + 5) b
    → Puts image2 image3 (place + 21) c → Puts image3 image4 (place + 30) d
    → image4 ≡ written (written image (place + 2) (a ++ (b ++ c))) (place + 30) d
four_fields image image1 image2 image3 image4 place a b c d fits three sixteen trine two first second third fourth =
    let ab = length-append a b in
    let size1 = first.sized in
    let size2 = second.sized in
    let size3 = third.sized in
    let to_b = put_on image image1 image2 (place + 2) (place + 5) a b (first.value (omega arith)) (omega arith) second (omega arith) (omega arith) in
    let to_c = put_on image image2 image3 (place + 2) (place + 21) (a ++ b) c to_b (omega arith) third (omega arith) (omega arith) in
    fourth.value (omega arith) ∙ ap (λ i. written i (place + 30) d) (to_c ∙ ap (written image (place + 2)) (append_assoc a b c))

pub returns-clause-value : goal.returns-clause-value
returns-clause-value c = λ fits.
    let image = c.args.image.now in
    let entry = c.args.entry.now in
    let place = 256 * c.args.block + 32 * c.args.slot in
    let first = entry.type_byte ∷ entry.first.0 ∷ entry.first.1 ∷ [] in
    let side = entry.side.0 ∷ entry.side.1 ∷ entry.record_length ∷ [] in
    let size = entry.size % 256 ∷ entry.size / 256 ∷ [] in
    let name = c.padded.ensures in
    four_fields image c.put.new.image c.put-2.new.image c.put-3.new.image c.put-4.new.image place first c.padded.result side size fits
    refl (ap length name ∙ length-padded 16 160 entry.name.now) refl refl
    (record { value = c.put.ensures.value; sized = c.put.ensures.sized })
    (record { value = c.put-2.ensures.value; sized = c.put-2.ensures.sized })
    (record { value = c.put-3.ensures.value; sized = c.put-3.ensures.sized })
    (record { value = c.put-4.ensures.value; sized = c.put-4.ensures.sized })
    ∙ (λ i. written (written image (place + 2) (first ++ (name i ++ side))) (place + 30) size)
