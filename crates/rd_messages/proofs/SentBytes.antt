-- What of a text has gone out.
use Rattle.std.proofs.Common.{◌≡◌, ◌∙◌, ℕ, ◌+◌, ◌-◌, ◌<◌, ◌≤◌, List, [], ◌∷◌, ◌++◌, IfSome, IsErr, IsOk, OnOk, None, Option, Result, Some, Ok, Err, append-nil, append_assoc, drop, length, length-append, length-drop, refl, take, subst, sym, ap, arith}
use Rattle.std.specs.List.{concat}
use Rattle.std.specs.Io.KnownBytes.{Appends, Keeps, append_known}
use Rattle.std.proofs.KnownBytes.{Appends-kept, Appends-trans}
use Rattle.std.proofs.lemmas.List.{length-take-le, take-append-drop, take-append-le, take-take, take_all}
use Rattle.std.proofs.Math.Seq.{take-append-add}
use Rattle.std.proofs.lemmas.List.Folds.{concat-append}
use lib.Seq.{take-add}
use Rattle.rd_protocol.specs.declared.response.Reply.{Reply}
use Rattle.rd_messages.specs.ReplyText.{head_text, reply_bytes}
use Rattle.rd_messages.specs.Sent.{PutsFront, Sends, SendsPart}

-- one more write of what is left
pub sent_more : (old mid new : Option (List ℕ)) (text : List ℕ) (at n : ℕ) → at ≤ length text → Appends old mid (take at text)
    → Appends mid new (take n (take (length text - at) (drop at text))) → Appends old new (take (at + n) text)
sent_more old mid new text at n within before more =
    let left : length (drop at text) ≤ length text - at = simp length-drop (omega arith) in
    let rest : take (length text - at) (drop at text) ≡ drop at text = take_all (length text - at) (drop at text) left in
    subst (Appends old new) (ap (λ l. take at text ++ take n l) rest ∙ sym (take-add at n text)) (Appends-trans old mid new _ _ before more)

-- a write that fails before the end leaves a front part
pub sent_part : (old mid new : Option (List ℕ)) (text : List ℕ) (at : ℕ) → at < length text → Appends old mid (take at text) → Keeps mid new → SendsPart old new text
sent_part old mid new text at before_end before kept =
    (take at text, drop at text, sym (take-append-drop at text), omega (arith, length-drop at text), Appends-kept old mid new (take at text) before kept)

-- a part of the first of two texts is a part of both
pub first_part : (old new : Option (List ℕ)) (first second : List ℕ) → SendsPart old new first → SendsPart old new (first ++ second)
first_part old new first second (part, rest, whole, some, out) =
    (part, rest ++ second, ap (λ t. t ++ second) whole ∙ append_assoc part rest second, omega (arith, some, length-append rest second), out)

-- the first of two texts, and then what has gone out of the second
pub then_second : {E : Type 0} (old mid new : Option (List ℕ)) (result : Result (Unit {0}) E) (first second : List ℕ) → Appends old mid first
    → Sends mid new result second → Sends old new result (first ++ second)
then_second old mid new (Ok done) first second before sent = Appends-trans old mid new first second before sent
then_second old mid new (Err fault) first second before (part, rest, whole, some, out) =
    (first ++ part, rest, ap (λ t. first ++ t) whole ∙ sym (append_assoc first part rest), some, Appends-trans old mid new first part before out)

-- What of a body has gone out, and which pieces are left of it.
pub record SentSoFar (old new : Option (List ℕ)) (left : List (List ℕ)) (text : List ℕ) : Type 0 where
  pub done : List ℕ
  pub whole : done ++ concat left ≡ text
  pub out : Appends old new done

-- the pieces that a wire takes at first
pub begun : (old new : Option (List ℕ)) (pieces left : List (List ℕ)) (text : List ℕ) → concat pieces ≡ text → PutsFront pieces left old new
    → SentSoFar old new left text
begun old new pieces left text are put = record {
  done = concat put.front;
  whole = sym (concat-append put.front left) ∙ ap concat (sym put.left) ∙ are;
  out = put.out;
}

-- one more piece, and those that the wire takes behind it
pub piece_sent : (old mid next new : Option (List ℕ)) (pieces more left : List (List ℕ)) (piece text : List ℕ) → SentSoFar old mid pieces text
    → pieces ≡ piece ∷ more → Appends mid next piece → PutsFront more left next new → SentSoFar old new left text
piece_sent old mid next new pieces more left piece text before steps sent put = record {
  done = (before.done ++ piece) ++ concat put.front;
  whole = append_assoc (before.done ++ piece) (concat put.front) (concat left)
      ∙ ap (λ rest. (before.done ++ piece) ++ rest) (sym (concat-append put.front left) ∙ ap concat (sym put.left))
      ∙ append_assoc before.done piece (concat more) ∙ ap (λ l. before.done ++ concat l) (sym steps) ∙ before.whole;
  out = Appends-trans old next new (before.done ++ piece) (concat put.front) (Appends-trans old mid next before.done piece before.out sent) put.out;
}

-- a piece of which a part has gone out, after the pieces before it
pub piece_part : (old mid new : Option (List ℕ)) (pieces more : List (List ℕ)) (piece text : List ℕ) → SentSoFar old mid pieces text
    → pieces ≡ piece ∷ more → SendsPart mid new piece → SendsPart old new text
piece_part old mid new pieces more piece text before steps (part, rest, whole, some, out) = (
  before.done ++ part,
  rest ++ concat more,
  sym before.whole ∙ ap (λ l. before.done ++ concat l) steps ∙ ap (λ l. before.done ++ (l ++ concat more)) whole ∙ simp append_assoc,
  omega (arith, some, length-append rest (concat more)),
  Appends-trans old mid new before.done part before.out out,
)

-- no piece is left
pub all_sent : (old new : Option (List ℕ)) (left : List (List ℕ)) (text : List ℕ) → SentSoFar old new left text → left ≡ [] → Appends old new text
all_sent old new left text before none =
    subst (Appends old new) (sym (append-nil before.done) ∙ ap (λ l. before.done ++ concat l) (sym none) ∙ before.whole) before.out

-- fewer pieces are left after one more, and after those that the wire takes behind it
pub fewer_left : (old new : Option (List ℕ)) (pieces more left : List (List ℕ)) (piece : List ℕ) → pieces ≡ piece ∷ more → PutsFront more left old new
    → length left < length pieces
fewer_left old new pieces more left piece steps put =
    omega (arith, ap length steps, ap length put.left, length-append put.front left)

-- a wire that takes no piece
pub none_put : (pieces : List (List ℕ)) (out : Option (List ℕ)) → PutsFront pieces pieces out out
none_put pieces None = record { front = []; left = refl; out = tt }
none_put pieces (Some bytes) = record { front = []; left = refl; out = sym (append-nil bytes) }

-- a wire that does not tell its bytes
pub untold_put : (before after : List (List ℕ)) (old new : List ℕ) → PutsFront before after (Some old) (Some new) → PutsFront before after None None
untold_put before after old new put = record { front = put.front; left = put.left; out = tt }

-- bytes that were written behind the first ones of a room, in a list that has the room at its front, and so many of them
pub held_more : (held count len : ℕ) (items room part after tail : List ℕ) → room ≡ items → held ≤ length room → count ≤ length part → held + count ≤ len
    → take (held + count) (take len ((take held room ++ (part ++ after)) ++ tail)) ≡ take held items ++ take count part
held_more held count len items room part after tail same within low fits =
    take-take (held + count) len ((take held room ++ (part ++ after)) ++ tail) fits
    ∙ ap (take (held + count)) (append_assoc (take held room) (part ++ after) tail ∙ ap (λ l. take held room ++ l) (append_assoc part after tail))
    ∙ ap (λ n. take (n + count) (take held room ++ (part ++ (after ++ tail)))) (sym (length-take-le held room within))
    ∙ take-append-add (take held room) (part ++ (after ++ tail)) count
    ∙ ap (λ l. take held room ++ l) (take-append-le count part (after ++ tail) low)
    ∙ ap (λ l. take held l ++ take count part) same

-- the pieces that were copied behind the bytes held back
pub held_front : (before front after : List (List ℕ)) (old new bytes : List ℕ) → before ≡ front ++ after → bytes ≡ concat front → new ≡ old ++ bytes
    → PutsFront before after (Some old) (Some new)
held_front before front after old new bytes left joined are = record { front = front; left = left; out = are ∙ ap (λ l. old ++ l) joined }

-- no reply is empty
pub some_reply : (extra : List ℕ) (reply : Reply) → 0 < length (reply_bytes extra reply)
unfolding reply_bytes head_text
some_reply extra reply = omega arith

-- A text of which the wire may hold a part back, and what is held back is sent: all of the text went out; where that
-- failed, the wire does not tell its bytes.
pub then_flushed : {E : Type 0} (old mid new : Option (List ℕ)) (result : Result (Unit {0}) E) (text : List ℕ) → 0 < length text → Appends old mid text
    → new ≡ mid → IfSome mid (λ _. IsOk result) → Sends old new result text
then_flushed old mid new (Ok done) text some put kept told = subst (λ bytes. Appends old bytes text) (sym kept) put
then_flushed None mid new (Err fault) text some put kept told = ([], text, refl, some, tt)
then_flushed (Some before) None new (Err fault) text some put kept told = absurd put
then_flushed (Some before) (Some after) new (Err fault) text some put kept told = absurd cc

-- What the wire held back before a text could not be sent: so the wire does not tell its bytes, and nothing of the text
-- went out.
pub nothing_sent : {E : Type 0} (old new : Option (List ℕ)) (flushed : Result (Unit {0}) E) (text : List ℕ) → 0 < length text → new ≡ old
    → IfSome old (λ _. IsOk flushed) → IsErr flushed → SendsPart old new text
nothing_sent old new (Ok done) text some kept told failed = absurd cc
nothing_sent None new (Err fault) text some kept told failed = ([], text, refl, some, tt)
nothing_sent (Some before) new (Err fault) text some kept told failed = absurd cc

-- a front part of a text that was not sent
pub part_sent : {E : Type 0} (old new : Option (List ℕ)) (result : Result (Unit {0}) E) (text : List ℕ) → IsErr result → SendsPart old new text → Sends old new result text
part_sent old new (Ok done) text failed part = absurd cc
part_sent old new (Err fault) text failed part = part

-- What was put into a connection, where all that it held back has gone out.
pub held_sent : (old new : Option (List ℕ)) (held rest : List ℕ) → rest ≡ [] → Appends old new held
    → Keeps (append_known old held) (append_known new rest)
held_sent None new held rest none sent = tt
held_sent (Some before) None held rest none sent = absurd sent
held_sent (Some before) (Some after) held rest none sent = ap (λ l. after ++ l) none ∙ append-nil after ∙ sent

-- .. where that went well
pub held_sent_ok : {E : Type 0} (sent : Result (Unit {0}) E) (old new : Option (List ℕ)) (held rest : List ℕ) → rest ≡ []
    → OnOk sent (Appends old new held) → OnOk sent (Keeps (append_known old held) (append_known new rest))
held_sent_ok (Ok done) old new held rest none went = held_sent old new held rest none went
held_sent_ok (Err fault) old new held rest none went = tt

-- Bytes that are held back behind those that were held back before.
pub put_held : (old new : Option (List ℕ)) (held more after : List ℕ) → new ≡ old → after ≡ held ++ more
    → Appends (append_known old held) (append_known new after) more
put_held None new held more after same are = tt
put_held (Some sent) None held more after same are = absurd cc
put_held (Some sent) (Some gone) held more after same are =
    let stays : gone ≡ sent = grind (arith, same) in
    ap (λ l. gone ++ l) are ∙ sym (append_assoc gone held more) ∙ ap (λ l. (l ++ held) ++ more) stays

-- .. and that are counted
pub put_counted : (old new : Option (List ℕ)) (held more after : List ℕ) → new ≡ old → after ≡ held ++ more
    → Appends (append_known old held) (append_known new after) (take (length more) more)
put_counted old new held more after same are =
    subst (Appends (append_known old held) (append_known new after)) (sym (take_all (length more) more (omega arith))) (put_held old new held more after same are)

-- Bytes that go out at once, where nothing is held back.
pub put_out : (old new : Option (List ℕ)) (held rest more : List ℕ) → held ≡ [] → rest ≡ [] → Appends old new more
    → Appends (append_known old held) (append_known new rest) more
put_out None new held rest more none nothing sent = tt
put_out (Some before) None held rest more none nothing sent = absurd sent
put_out (Some before) (Some after) held rest more none nothing sent =
    ap (λ l. after ++ l) nothing ∙ append-nil after ∙ sent
    ∙ ap (λ l. l ++ more) (sym (ap (λ l. before ++ l) none ∙ append-nil before))

-- Pieces that are held back behind the bytes that were held back before.
pub put_pieces : (before after : List (List ℕ)) (stream : Option (List ℕ)) (old new : List ℕ) → PutsFront before after (Some old) (Some new)
    → PutsFront before after (append_known stream old) (append_known stream new)
put_pieces before after stream old new put =
    record { front = put.front; left = put.left; out = put_held stream stream old (concat put.front) new refl put.out }

-- what is known stays as it is
pub keeps_same : (known : Option (List ℕ)) → Keeps known known
keeps_same None = tt
keeps_same (Some bytes) = refl

-- bytes behind those that stayed
pub keeps_then : (old mid new : Option (List ℕ)) (more : List ℕ) → Keeps old mid → Appends mid new more → Appends old new more
keeps_then None mid new more kept put = tt
keeps_then (Some before) None new more kept put = absurd kept
keeps_then (Some before) (Some between) None more kept put = absurd put
keeps_then (Some before) (Some between) (Some after) more kept put = put ∙ ap (λ l. l ++ more) kept
