-- What was written of JSON, token after token.
use Rattle.std.proofs.Common.{◌≡◌, ◌∙◌, ◌+◌, ◌<◌, ◌≤◌, ℕ, List, [], ◌∷◌, ◌++◌, OnOk, Result, Ok, Err, ap, append_assoc, flat_map, get_or, length, map, refl, subst, sym, take, take_all}
use Rattle.std.proofs.lemmas.List.{flat_map_more, map-append, take_more}
use Rattle.json.specs.Token as token
use Rattle.json.specs.Token.{Token, begin_array, end_array}
use Rattle.json.specs.Tree.{items_tokens}
use Rattle.json.specs.Written.{Writes, Written}
use Rattle.serde_json.specs.Data.{Data, array, string}
use Rattle.serde_json.specs.View.{items_of}
use Rattle.serde_json.specs.Written.{items_outline}
use Rattle.rd_protocol.specs.Texts.{texts}
use Rattle.rd_protocol.specs.Tokens.{Gains, tokens_of}

-- one token
pub one : {E : Type 0} (done : Unit {0}) (old new : Written) (t : Token) → Writes {E = E} (Ok done) old new t → Gains old new (t ∷ [])
one done old new t is = record { before = is.room.0; tokens = is.ok }

-- the last token, which is written or not
pub last : {E : Type 0} (result : Result (Unit {0}) E) (old new : Written) (t : Token) → Writes result old new t → OnOk result (Gains old new (t ∷ []))
last (Ok done) old new t is = one done old new t is
last (Err fault) old new t is = tt

-- tokens, and then more
pub more : (old mid new : Written) (first second : List Token) → Gains old mid first → Gains mid new second → Gains old new (first ++ second)
more old mid new first second before after = record {
  before = after.before ∙ before.before;
  tokens = after.tokens ∙ ap (λ all. all ++ second) before.tokens ∙ append_assoc old.tokens first second;
}

-- the same tokens
same : (old new : Written) (first second : List Token) → Gains old new first → first ≡ second → Gains old new second
same old new first second gains are = subst (Gains old new) are gains

-- ---- an array of texts

words_tokens : (words : List (List ℕ)) → items_tokens (items_outline (items_of (map (λ word. string word) words))) ≡ map (λ word. token.string word) words ++ (end_array ∷ [])
words_tokens [] = refl
words_tokens (word ∷ words) = ap (λ rest. token.string word ∷ rest) (words_tokens words)

-- an array of so many texts that has not ended
abbrev pub words_begun : List (List ℕ) → List Token
words_begun words = begin_array ∷ map (λ word. token.string word) words

pub words_next : {E : Type 0} (done : Unit {0}) (old mid new : Written) (before : List (List ℕ)) (word : List ℕ) → Gains old mid (words_begun before)
    → Writes {E = E} (Ok done) mid new (token.string word) → Gains old new (words_begun (before ++ word ∷ []))
words_next done old mid new before word gains next =
    same old new (words_begun before ++ (token.string word ∷ [])) (words_begun (before ++ word ∷ []))
    (more old mid new (words_begun before) (token.string word ∷ []) gains (one done mid new (token.string word) next))
    (ap (λ rest. begin_array ∷ rest) (sym (map-append (λ w. token.string w) before (word ∷ []))))

pub words_end : {E : Type 0} (result : Result (Unit {0}) E) (old mid new : Written) (words : List (List ℕ)) → Gains old mid (words_begun words)
    → Writes result mid new end_array → OnOk result (Gains old new (tokens_of (texts words)))
words_end (Ok done) old mid new words gains ended =
    same old new (words_begun words ++ (end_array ∷ [])) (tokens_of (texts words))
    (more old mid new (words_begun words) (end_array ∷ []) gains (one done mid new end_array ended))
    (ap (λ rest. begin_array ∷ rest) (sym (words_tokens words)))
words_end (Err fault) old mid new words gains ended = tt

-- ---- an array of values

values_tokens : {A : Type 0} (f : A → Data) (xs : List A) → items_tokens (items_outline (items_of (map f xs))) ≡ flat_map (λ x. tokens_of (f x)) xs ++ (end_array ∷ [])
values_tokens f [] = refl
values_tokens f (x ∷ xs) = ap (λ rest. tokens_of (f x) ++ rest) (values_tokens f xs) ∙ sym (append_assoc (tokens_of (f x)) (flat_map (λ y. tokens_of (f y)) xs) (end_array ∷ []))

-- an array of so many values that has not ended
abbrev pub values_begun : {A : Type 0} → (A → Data) → List A → List Token
values_begun f xs = begin_array ∷ flat_map (λ x. tokens_of (f x)) xs

pub values_next : {A : Type 0} (old mid new : Written) (f : A → Data) (xs : List A) (i : ℕ) (x : A) → i < length xs → x ≡ get_or xs i x
    → Gains old mid (values_begun f (take i xs)) → Gains mid new (tokens_of (f x)) → Gains old new (values_begun f (take (i + 1) xs))
values_next old mid new f xs i x inside is gains next =
    let one_more : take (i + 1) xs ≡ take i xs ++ x ∷ [] = take_more xs i x inside ∙ ap (λ y. take i xs ++ y ∷ []) (sym is) in
    same old new (values_begun f (take i xs) ++ tokens_of (f x)) (values_begun f (take (i + 1) xs))
    (more old mid new (values_begun f (take i xs)) (tokens_of (f x)) gains next)
    (ap (λ rest. begin_array ∷ rest) (flat_map_more (λ y. tokens_of (f y)) [] (take i xs) x ∙ sym (ap (flat_map (λ y. tokens_of (f y))) one_more)))

pub values_end : {E A : Type 0} (result : Result (Unit {0}) E) (old mid new : Written) (f : A → Data) (xs : List A) (i : ℕ) → length xs ≤ i
    → Gains old mid (values_begun f (take i xs)) → Writes result mid new end_array → OnOk result (Gains old new (tokens_of (array (items_of (map f xs)))))
values_end (Ok done) old mid new f xs i all gains ended =
    same old new (values_begun f (take i xs) ++ (end_array ∷ [])) (tokens_of (array (items_of (map f xs))))
    (more old mid new (values_begun f (take i xs)) (end_array ∷ []) gains (one done mid new end_array ended))
    (ap (λ l. values_begun f l ++ (end_array ∷ [])) (take_all i xs all) ∙ ap (λ rest. begin_array ∷ rest) (sym (values_tokens f xs)))
values_end (Err fault) old mid new f xs i all gains ended = tt
