use Rattle.std.proofs.Common.{◌≡◌, ◌∙◌, ℕ, List, [], ◌∷◌, ◌++◌, length, length-append, append_assoc, ap, arith, refl, replicate}
use Rattle.rd_samples.proofs.WrittenLemmas.{Puts, length-padded, put_on, written_whole}
use Rattle.rd_samples.proofs.cpm.entry_bytes.Goals as goal

-- five fields that are put one behind the other, to 32 bytes, are those bytes
five_fields : (image image1 image2 image3 image4 image5 : List ℕ) (a b c d e : List ℕ) → length image ≡ 32
    → length a ≡ 1 → length b ≡ 8 → length c ≡ 3 → length d ≡ 4 → length e ≡ 16 → Puts image image1 0 a → Puts image1 image2 1 b
    → Puts image2 image3 9 c → Puts image3 image4 12 d → Puts image4 image5 16 e → image5 ≡ a ++ (b ++ (c ++ (d ++ e)))
five_fields image image1 image2 image3 image4 image5 a b c d e whole one eight three four sixteen first second third fourth fifth =
    let ab = length-append a b in
    let abc = length-append (a ++ b) c in
    let abcd = length-append ((a ++ b) ++ c) d in
    let abcde = length-append (((a ++ b) ++ c) ++ d) e in
    let size1 = first.sized in
    let size2 = second.sized in
    let size3 = third.sized in
    let size4 = fourth.sized in
    let to_b = put_on image image1 image2 0 1 a b (first.value (omega arith)) (omega arith) second (omega arith) (omega arith) in
    let to_c = put_on image image2 image3 0 9 (a ++ b) c to_b (omega arith) third (omega arith) (omega arith) in
    let to_d = put_on image image3 image4 0 12 ((a ++ b) ++ c) d to_c (omega arith) fourth (omega arith) (omega arith) in
    let to_e = put_on image image4 image5 0 16 (((a ++ b) ++ c) ++ d) e to_d (omega arith) fifth (omega arith) (omega arith) in
    to_e ∙ written_whole image ((((a ++ b) ++ c) ++ d) ++ e) (omega arith) ∙ simp append_assoc

pub returns : goal.returns
returns c =
    let entry = c.args.entry.now in
    let user = entry.user ∷ [] in
    let counts = entry.ex ∷ 0 ∷ entry.s2 ∷ entry.rc ∷ [] in
    let name = c.padded.ensures in
    let extension = c.padded-2.ensures in
    let pointers = c.padded-3.ensures in
    five_fields (replicate 32 0) c.put.new.image c.put-2.new.image c.put-3.new.image c.put-4.new.image c.put-5.new.image
    user c.padded.result c.padded-2.result counts c.padded-3.result refl refl (ap length name ∙ length-padded 8 32 entry.name.now)
    (ap length extension ∙ length-padded 3 32 entry.extension.now) refl (ap length pointers ∙ length-padded 16 0 entry.pointers.now)
    (record { value = c.put.ensures.value; sized = c.put.ensures.sized })
    (record { value = c.put-2.ensures.value; sized = c.put-2.ensures.sized })
    (record { value = c.put-3.ensures.value; sized = c.put-3.ensures.sized })
    (record { value = c.put-4.ensures.value; sized = c.put-4.ensures.sized })
    (record { value = c.put-5.ensures.value; sized = c.put-5.ensures.sized })
    ∙ (λ i. user ++ (name i ++ (extension i ++ (counts ++ pointers i))))
