-- What was sent to a writer of JSON, as the value that it is.
use Rattle.std.proofs.Common.{◌≡◌, ℕ, suc, List, [], ◌∷◌, Option, None, Some, length, map, option_map, refl, sym, ap, subst}
use Rattle.serde.specs.Event as event
use Rattle.serde.specs.Event.{Log, Logs, WritesEach, WritesOption, WritesSeq}
use Rattle.serde_json.specs.Data.{Data, array, string}
use Rattle.serde_json.specs.Events.{SendsItems, SendsValue, items_len}
use Rattle.serde_json.specs.View.{items_of}
use Rattle.rd_protocol.specs.Texts.{text_or_null, texts}

module _ {A : Type 0} where
  sent_items : (f : A → Data) (xs : List A) (first last new : Log) → WritesEach (λ x. SendsValue (f x)) xs first last → Logs last new event.seq_ends → SendsItems (items_of (map f xs)) first new
  sent_items f [] first last new same ended = subst (λ log. Logs log new event.seq_ends) same ended
  sent_items f (x ∷ xs) first last new (mid, is, more) ended = (mid, is, sent_items f xs mid last new more ended)

  as_many : (f : A → Data) (xs : List A) → items_len (items_of (map f xs)) ≡ length xs
  as_many f [] = refl
  as_many f (x ∷ xs) = ap suc (as_many f xs)

  -- an array, each item of which is sent as a value
  pub sent_array : (f : A → Data) (xs : List A) (old new : Log) → WritesSeq (λ x. SendsValue (f x)) xs old new → SendsValue (array (items_of (map f xs))) old new
  sent_array f xs old new (first, last, begun, each, ended) =
      (first, subst (λ n. Logs old first (event.seq_begins (Some n))) (sym (as_many f xs)) begun, sent_items f xs first last new each ended)

  twice : (read : A → List ℕ) (xs : List A) → map (λ x. string (read x)) xs ≡ map (λ word. string word) (map read xs)
  twice read [] = refl
  twice read (x ∷ xs) = ap (λ more. string (read x) ∷ more) (twice read xs)

  -- an array of texts
  pub sent_texts : (read : A → List ℕ) (xs : List A) (old new : Log) → WritesSeq (λ x before after. Logs before after (event.text (read x))) xs old new → SendsValue (texts (map read xs)) old new
  sent_texts read xs old new is = subst (λ values. SendsValue (array (items_of values)) old new) (twice read xs) (sent_array (λ x. string (read x)) xs old new is)

  -- a text, or none
  pub sent_text_or_null : (read : A → List ℕ) (text : Option A) (old new : Log) → WritesOption (λ x before after. Logs before after (event.text (read x))) text old new
      → SendsValue (text_or_null (option_map read text)) old new
  sent_text_or_null read None old new is = is
  sent_text_or_null read (Some text) old new is = is
