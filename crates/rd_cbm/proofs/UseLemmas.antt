-- The flags of used and shared blocks: blocks added one by one, then the chains of the slots.
use Rattle.std.proofs.Common.{◌≡◌, ◌≢◌, ◌∙◌, ◌⊎◌, inl, inr, ◌↔◌, ◌+◌, ◌*◌, ◌/◌, ◌%◌, ◌<◌, ◌≤◌, ℕ, zero, suc, Bool, true, false, IsTrue, List, length, slice_index, slice_index_or, slice_set, cond, AllPairs, Contains, arith, refl, sym, ap, subst, get_or-set_same, get_or-set_other}
use Rattle.std.proofs.lemmas.Bool.{cases_eq}
use Rattle.std.proofs.lemmas.List.{get_or_default}
use Rattle.std.proofs.Math.ListN.{length-set}
use Rattle.rd_geometry.specs.Blocks.{CBM_BLOCKS}
use Rattle.rd_cbm.specs.Entries.{ChainRole, Data, Side}
use Rattle.rd_cbm.specs.Files.{Claims, IsSystem}
use Rattle.rd_cbm.specs.Marked.{AreAdded, AreUses, shared_after}

-- The block stands at a place of the list below n.
pub record IsAmong (blocks : List ℕ) (n b : ℕ) : Type 0 where
  pub place : ℕ
  pub before : place < n
  pub is : slice_index blocks place ≡ b

-- The flags after the first n blocks of a list were added to them.
pub record AreAddedTo (used shared : List Bool) (blocks : List ℕ) (n : ℕ) (used_now shared_now : List Bool) : Type 0 where
  pub used_whole : length used_now ≡ CBM_BLOCKS
  pub shared_whole : length shared_now ≡ CBM_BLOCKS
  pub once : (b : ℕ) → b < CBM_BLOCKS → IsTrue (slice_index_or used_now b false) ↔ (IsTrue (slice_index_or used b false) ⊎ IsAmong blocks n b)
  pub twice : (b : ℕ) → b < CBM_BLOCKS
      → IsTrue (slice_index_or shared_now b false) ↔ (IsTrue (slice_index_or shared b false) ⊎ (IsTrue (slice_index_or used b false) × IsAmong blocks n b))

pub among_none : (blocks : List ℕ) (b : ℕ) → IsAmong blocks 0 b → ⊥
among_none blocks b among = absurd (let low : among.place < 0 = among.before in omega arith)

pub among_later : (blocks : List ℕ) (n b : ℕ) → IsAmong blocks n b → IsAmong blocks (n + 1) b
among_later blocks n b among = record { place = among.place; before = let low : among.place < n = among.before in omega arith; is = among.is }

pub among_cases : (blocks : List ℕ) (n b : ℕ) → IsAmong blocks (n + 1) b → IsAmong blocks n b ⊎ (slice_index blocks n ≡ b)
among_cases blocks n b among = elim (cases_eq among.place n) [
  | inl last ↦ inr (ap (slice_index blocks) (sym last) ∙ among.is)
  | inr other ↦ inl (record { place = among.place; before = let low : among.place < n + 1 = among.before in omega arith; is = among.is })
]

pub added_none : (used shared : List Bool) (blocks : List ℕ) → length used ≡ CBM_BLOCKS → length shared ≡ CBM_BLOCKS → AreAddedTo used shared blocks 0 used shared
added_none used shared blocks used_whole shared_whole = record {
  used_whole = used_whole;
  shared_whole = shared_whole;
  once = λ b low. (λ t. inl t, λ either. elim either [ inl t ↦ t | inr among ↦ absurd (among_none blocks b among) ]);
  twice = λ b low. (λ t. inl t, λ either. elim either [ inl t ↦ t | inr both ↦ absurd (among_none blocks b both.1) ]);
}

set_flag : (flags : List Bool) (v : ℕ) → v < length flags → IsTrue (slice_index_or (slice_set flags v true) v false)
set_flag flags v inside = rw get_or-set_same refl

other_flag : (flags : List Bool) (b v : ℕ) → b ≢ v → slice_index_or (slice_set flags v true) b false ≡ slice_index_or flags b false
other_flag flags b v other = get_or-set_other flags v b true false other

-- what holds of both values holds of the one that a flag chooses
by_flag : (P : List Bool → Type 0) (t : Bool) (x y : List Bool) → (t ≡ true → P x) → (t ≡ false → P y) → P (cond t x y)
by_flag P true x y p q = p refl
by_flag P false x y p q = q refl

length-shared_after : (used shared : List Bool) (v : ℕ) → length (shared_after used shared v) ≡ length shared
length-shared_after used shared v =
    by_flag (λ l. length l ≡ length shared) (slice_index_or used v false) (slice_set shared v true) shared (λ _. length-set shared v true) (λ _. refl)

other_shared : (used shared : List Bool) (b v : ℕ) → b ≢ v → slice_index_or (shared_after used shared v) b false ≡ slice_index_or shared b false
other_shared used shared b v other =
    by_flag (λ l. slice_index_or l b false ≡ slice_index_or shared b false) (slice_index_or used v false) (slice_set shared v true) shared
    (λ _. other_flag shared b v other) (λ _. refl)

clash : {A : Type 0} (t : Bool) → t ≡ true → t ≡ false → A
clash t set unset = absurd (let wrong : true ≡ false = sym set ∙ unset in cc)

-- one more block of the list, not among those before it, is added
pub added_more : (used shared : List Bool) (blocks : List ℕ) (n v : ℕ) (used_now shared_now : List Bool) → AreAddedTo used shared blocks n used_now shared_now
    → slice_index blocks n ≡ v → v < CBM_BLOCKS → (IsAmong blocks n v → ⊥)
    → AreAddedTo used shared blocks (n + 1) (slice_set used_now v true) (shared_after used_now shared_now v)
added_more used shared blocks n v used_now shared_now are is v_low new = record {
  used_whole = length-set used_now v true ∙ are.used_whole;
  shared_whole = length-shared_after used_now shared_now v ∙ are.shared_whole;
  once = λ b low. elim (cases_eq b v) [
    | inl same ↦ (
      λ _. inr (record { place = n; before = omega arith; is = is ∙ sym same }),
      λ _. subst (λ x. IsTrue (slice_index_or (slice_set used_now v true) x false)) (sym same) (set_flag used_now v (omega (arith, are.used_whole))),
    )
    | inr other ↦ (
      λ t. elim ((are.once b low).0 (sym (other_flag used_now b v other) ∙ t)) [ inl old ↦ inl old | inr among ↦ inr (among_later blocks n b among) ],
      λ either. other_flag used_now b v other ∙ (are.once b low).1 (elim either [
        | inl old ↦ inl old
        | inr among ↦ elim (among_cases blocks n b among) [ inl before ↦ inr before | inr last ↦ absurd (other (sym last ∙ is)) ]
      ]),
    )
  ];
  twice = λ b low. elim (cases_eq b v) [
    | inl same ↦ subst (λ x. IsTrue (slice_index_or (shared_after used_now shared_now v) x false)
        ↔ (IsTrue (slice_index_or shared x false) ⊎ (IsTrue (slice_index_or used x false) × IsAmong blocks (n + 1) x))) (sym same) at_v
    | inr other ↦ (
      λ t. elim ((are.twice b low).0 (sym (other_shared used_now shared_now b v other) ∙ t)) [ inl old ↦ inl old | inr both ↦ inr (both.0, among_later blocks n b both.1) ],
      λ either. other_shared used_now shared_now b v other ∙ (are.twice b low).1 (elim either [
        | inl old ↦ inl old
        | inr both ↦ elim (among_cases blocks n b both.1) [ inl before ↦ inr (both.0, before) | inr last ↦ absurd (other (sym last ∙ is)) ]
      ]),
    )
  ];
}
  where
    here : IsAmong blocks (n + 1) v
    here = record { place = n; before = omega arith; is = is }

    used_before : slice_index_or used_now v false ≡ true → IsTrue (slice_index_or used v false)
    used_before t = elim ((are.once v v_low).0 t) [ inl old ↦ old | inr among ↦ absurd (new among) ]

    at_v : IsTrue (slice_index_or (shared_after used_now shared_now v) v false) ↔ (IsTrue (slice_index_or shared v false) ⊎ (IsTrue (slice_index_or used v false) × IsAmong blocks (n + 1) v))
    at_v = by_flag (λ l. IsTrue (slice_index_or l v false) ↔ (IsTrue (slice_index_or shared v false) ⊎ (IsTrue (slice_index_or used v false) × IsAmong blocks (n + 1) v)))
        (slice_index_or used_now v false) (slice_set shared_now v true) shared_now
        (λ t. (λ _. inr (used_before t, here), λ _. set_flag shared_now v (omega (arith, are.shared_whole))))
        (λ f. (
          λ t. elim ((are.twice v v_low).0 t) [ inl old ↦ inl old | inr both ↦ absurd (new both.1) ],
          λ either. elim either [
            | inl old ↦ (are.twice v v_low).1 (inl old)
            | inr both ↦ clash (slice_index_or used_now v false) ((are.once v v_low).1 (inl both.0)) f
          ],
        ))

-- a block of a list of different ones is not among those before it
pub not_among : (blocks : List ℕ) (n : ℕ) → AllPairs (λ m n. m ≢ n) blocks → n < length blocks → IsAmong blocks n (slice_index blocks n) → ⊥
not_among blocks n once inside among = once among.place n 0 among.before inside among.is

pub among_all : (blocks : List ℕ) (b : ℕ) → IsAmong blocks (length blocks) b → Contains blocks b
among_all blocks b among = (among.place, among.before, get_or_default blocks among.place b 0 among.before ∙ among.is)

pub all_among : (blocks : List ℕ) (b : ℕ) → Contains blocks b → IsAmong blocks (length blocks) b
all_among blocks b there = record { place = there.0; before = there.1; is = get_or_default blocks there.0 0 b there.1 ∙ there.2 }

-- all blocks of the list are added
all_added : (used shared : List Bool) (blocks : List ℕ) (used_now shared_now : List Bool) → AreAddedTo used shared blocks (length blocks) used_now shared_now
    → AreAdded used shared blocks used_now shared_now
all_added used shared blocks used_now shared_now are = record {
  used_whole = are.used_whole;
  shared_whole = are.shared_whole;
  once = λ b low. (
    λ t. elim ((are.once b low).0 t) [ inl old ↦ inl old | inr among ↦ inr (among_all blocks b among) ],
    λ either. (are.once b low).1 (elim either [ inl old ↦ inl old | inr there ↦ inr (all_among blocks b there) ]),
  );
  twice = λ b low. (
    λ t. elim ((are.twice b low).0 t) [ inl old ↦ inl old | inr both ↦ inr (both.0, among_all blocks b both.1) ],
    λ either. (are.twice b low).1 (elim either [ inl old ↦ inl old | inr both ↦ inr (both.0, all_among blocks b both.1) ]),
  );
}

pub added_all : (used shared : List Bool) (blocks : List ℕ) (n : ℕ) (used_now shared_now : List Bool) → n ≡ length blocks → AreAddedTo used shared blocks n used_now shared_now
    → AreAdded used shared blocks used_now shared_now
added_all used shared blocks n used_now shared_now whole are = all_added used shared blocks used_now shared_now (subst (λ k. AreAddedTo used shared blocks k used_now shared_now) whole are)

-- A holder with a number below n has the block.
pub record IsHeld (H : ℕ → ℕ → Type 0) (n b : ℕ) : Type 0 where
  pub number : ℕ
  pub before : number < n
  pub holds : H number b

-- A holder with a number below n, other than m, has the block.
pub record IsHeldBeside (H : ℕ → ℕ → Type 0) (n m b : ℕ) : Type 0 where
  pub number : ℕ
  pub before : number < n
  pub other : number ≢ m
  pub holds : H number b

-- The flags after the holders with numbers below n: the blocks Y were used before them all.
pub record AreFlags (Y : ℕ → Type 0) (H : ℕ → ℕ → Type 0) (n : ℕ) (used shared : List Bool) : Type 0 where
  pub used_whole : length used ≡ CBM_BLOCKS
  pub shared_whole : length shared ≡ CBM_BLOCKS
  pub once : (b : ℕ) → b < CBM_BLOCKS → IsTrue (slice_index_or used b false) ↔ (Y b ⊎ IsHeld H n b)
  pub twice : (m b : ℕ) → b < CBM_BLOCKS → m < n → H m b → IsTrue (slice_index_or shared b false) ↔ (Y b ⊎ IsHeldBeside H n m b)
  pub known : (b : ℕ) → b < CBM_BLOCKS → IsTrue (slice_index_or shared b false) → IsTrue (slice_index_or used b false)

held_later : (H : ℕ → ℕ → Type 0) (n b : ℕ) → IsHeld H n b → IsHeld H (n + 1) b
held_later H n b held = record { number = held.number; before = let low : held.number < n = held.before in omega arith; holds = held.holds }

beside_later : (H : ℕ → ℕ → Type 0) (n m b : ℕ) → IsHeldBeside H n m b → IsHeldBeside H (n + 1) m b
beside_later H n m b held = record { number = held.number; before = let low : held.number < n = held.before in omega arith; other = held.other; holds = held.holds }

held_cases : (H : ℕ → ℕ → Type 0) (n b : ℕ) → IsHeld H (n + 1) b → IsHeld H n b ⊎ H n b
held_cases H n b held = elim (cases_eq held.number n) [
  | inl last ↦ inr (subst (λ k. H k b) last held.holds)
  | inr other ↦ inl (record { number = held.number; before = let low : held.number < n + 1 = held.before in omega arith; holds = held.holds })
]

-- the blocks of holder n are added
pub flags_more : (Y : ℕ → Type 0) (H : ℕ → ℕ → Type 0) (n : ℕ) (used shared : List Bool) (blocks : List ℕ) (used_now shared_now : List Bool)
    → AreFlags Y H n used shared → AreAdded used shared blocks used_now shared_now → ((b : ℕ) → Contains blocks b ↔ H n b)
    → AreFlags Y H (n + 1) used_now shared_now
flags_more Y H n used shared blocks used_now shared_now are added own = record {
  used_whole = added.used_whole;
  shared_whole = added.shared_whole;
  once = λ b low. (
    λ t. elim ((added.once b low).0 t) [
      | inl old ↦ elim ((are.once b low).0 old) [ inl y ↦ inl y | inr held ↦ inr (held_later H n b held) ]
      | inr there ↦ inr (record { number = n; before = omega arith; holds = (own b).0 there })
    ],
    λ either. (added.once b low).1 (elim either [
      | inl y ↦ inl ((are.once b low).1 (inl y))
      | inr held ↦ elim (held_cases H n b held) [ inl before ↦ inl ((are.once b low).1 (inr before)) | inr last ↦ inr ((own b).1 last) ]
    ]),
  );
  twice = λ m b low m_low holds. elim (cases_eq m n) [
    | inl same ↦ (λ t. first_to m b low same ((added.twice b low).0 t), λ either. (added.twice b low).1 (inr (first_from m b low same either, (own b).1 (subst (λ k. H k b) same holds))))
    | inr other ↦ (
      λ t. elim ((added.twice b low).0 t) [
        | inl old ↦ elim ((are.twice m b low (omega arith) holds).0 old) [ inl y ↦ inl y | inr beside ↦ inr (beside_later H n m b beside) ]
        | inr both ↦ inr (record { number = n; before = omega arith; other = λ same. other (sym same); holds = (own b).0 both.1 })
      ],
      λ either. (added.twice b low).1 (elim either [
        | inl y ↦ inl ((are.twice m b low (omega arith) holds).1 (inl y))
        | inr beside ↦ elim (cases_eq beside.number n) [
          | inl last ↦ inr ((are.once b low).1 (inr (record { number = m; before = omega arith; holds = holds })), (own b).1 (subst (λ k. H k b) last beside.holds))
          | inr before ↦ inl ((are.twice m b low (omega arith) holds).1 (inr (record {
            number = beside.number;
            before = let high : beside.number < n + 1 = beside.before in omega arith;
            other = beside.other;
            holds = beside.holds;
          })))
        ]
      ]),
    )
  ];
  known = λ b low t. (added.once b low).1 (elim ((added.twice b low).0 t) [ inl old ↦ inl (are.known b low old) | inr both ↦ inl both.0 ]);
}
  where
    -- a block of holder n that was used before has another user
    used_beside : (m b : ℕ) → b < CBM_BLOCKS → m ≡ n → IsTrue (slice_index_or used b false) → Y b ⊎ IsHeldBeside H (n + 1) m b
    used_beside m b low same old = elim ((are.once b low).0 old) [
      | inl y ↦ inl y
      | inr held ↦ inr (record {
        number = held.number;
        before = let before : held.number < n = held.before in omega arith;
        other = λ equal. let before : held.number < n = held.before in omega arith;
        holds = held.holds;
      })
    ]

    first_to : (m b : ℕ) → b < CBM_BLOCKS → m ≡ n → IsTrue (slice_index_or shared b false) ⊎ (IsTrue (slice_index_or used b false) × Contains blocks b)
        → Y b ⊎ IsHeldBeside H (n + 1) m b
    first_to m b low same (inl old) = used_beside m b low same (are.known b low old)
    first_to m b low same (inr both) = used_beside m b low same both.0

    first_from : (m b : ℕ) → b < CBM_BLOCKS → m ≡ n → Y b ⊎ IsHeldBeside H (n + 1) m b → IsTrue (slice_index_or used b false)
    first_from m b low same (inl y) = (are.once b low).1 (inl y)
    first_from m b low same (inr beside) = (are.once b low).1 (inr (record {
      number = beside.number;
      before = let high : beside.number < n + 1 = beside.before in let other : beside.number ≢ m = beside.other in omega arith;
      holds = beside.holds;
    }))

-- before all holders the flags are those of the blocks Y
pub flags_first : (Y : ℕ → Type 0) (H : ℕ → ℕ → Type 0) (used shared : List Bool) → length used ≡ CBM_BLOCKS → length shared ≡ CBM_BLOCKS
    → ((b : ℕ) → b < CBM_BLOCKS → IsTrue (slice_index_or used b false) ↔ Y b) → ((b : ℕ) → b < CBM_BLOCKS → IsTrue (slice_index_or shared b false) → IsTrue (slice_index_or used b false))
    → AreFlags Y H 0 used shared
flags_first Y H used shared used_whole shared_whole own known = record {
  used_whole = used_whole;
  shared_whole = shared_whole;
  once = λ b low. (λ t. inl ((own b low).0 t), λ either. elim either [ inl y ↦ (own b low).1 y | inr held ↦ absurd (let none : held.number < 0 = held.before in omega arith) ]);
  twice = λ m b low m_low. absurd (omega arith);
  known = known;
}

-- the way of a number, and the number of a way of a slot
pub way_of : ℕ → ChainRole
way_of zero = Data
way_of (suc n) = Side

pub number_of : ChainRole → ℕ
number_of Data = 0
number_of Side = 1

-- The file at slot n / 2 claims the block, by its data where n is even, by its side sectors where it is odd.
abbrev pub IsNumbered : List ℕ → List ℕ → ℕ → ℕ → Type 0
IsNumbered image blocks n b = Claims image blocks (n / 2) (way_of (n % 2)) b

number-bound : (role : ChainRole) → number_of role ≤ 1
unfolding number_of
number-bound Data = omega arith
number-bound Side = omega arith

role-number : (role : ChainRole) → way_of (number_of role) ≡ role
unfolding way_of number_of
role-number Data = refl
role-number Side = refl

pub numbered : (image blocks : List ℕ) (slot : ℕ) (role : ChainRole) (b : ℕ) → Claims image blocks slot role b → IsNumbered image blocks (2 * slot + number_of role) b
numbered image blocks slot role b claim =
    let bound : number_of role ≤ 1 = number-bound role in
    let half : (2 * slot + number_of role) / 2 ≡ slot = omega arith in
    let rest : (2 * slot + number_of role) % 2 ≡ number_of role = omega arith in
    rw (half, rest, role-number role) claim

pub unnumbered : (image blocks : List ℕ) (slot : ℕ) (role : ChainRole) (b : ℕ) → IsNumbered image blocks (2 * slot + number_of role) b → Claims image blocks slot role b
unnumbered image blocks slot role b claim =
    let bound : number_of role ≤ 1 = number-bound role in
    let half : (2 * slot + number_of role) / 2 ≡ slot = omega arith in
    let rest : (2 * slot + number_of role) % 2 ≡ number_of role = omega arith in
    rw (half, rest, role-number role) at claim

number-data : number_of Data ≡ 0
unfolding number_of
number-data = refl

number-side : number_of Side ≡ 1
unfolding number_of
number-side = refl

-- the chains of the data and of the side sectors of a slot are added
pub flags_slot : (image blocks : List ℕ) (slot : ℕ) (used shared : List Bool) (contents : List ℕ) (used_then shared_then : List Bool) (sides : List ℕ) (used_now shared_now : List Bool)
    → AreFlags (IsSystem blocks) (IsNumbered image blocks) (2 * slot) used shared
    → AreAdded used shared contents used_then shared_then → ((b : ℕ) → Contains contents b ↔ Claims image blocks slot Data b)
    → AreAdded used_then shared_then sides used_now shared_now → ((b : ℕ) → Contains sides b ↔ Claims image blocks slot Side b)
    → AreFlags (IsSystem blocks) (IsNumbered image blocks) (2 * (slot + 1)) used_now shared_now
flags_slot image blocks slot used shared contents used_then shared_then sides used_now shared_now are added_contents own_contents added_sides own_sides =
    let zero_data : 2 * slot + number_of Data ≡ 2 * slot = omega (arith, number-data) in
    let one_side : 2 * slot + number_of Side ≡ 2 * slot + 1 = omega (arith, number-side) in
    let next : (2 * slot + 1) + 1 ≡ 2 * (slot + 1) = omega arith in
    let by_contents : (b : ℕ) → Contains contents b ↔ IsNumbered image blocks (2 * slot) b = λ b. subst (λ n. Contains contents b ↔ IsNumbered image blocks n b) zero_data
    (λ there. numbered image blocks slot Data b ((own_contents b).0 there), λ claim. (own_contents b).1 (unnumbered image blocks slot Data b claim)) in
    let by_side : (b : ℕ) → Contains sides b ↔ IsNumbered image blocks (2 * slot + 1) b = λ b. subst (λ n. Contains sides b ↔ IsNumbered image blocks n b) one_side
    (λ there. numbered image blocks slot Side b ((own_sides b).0 there), λ claim. (own_sides b).1 (unnumbered image blocks slot Side b claim)) in
    subst (λ n. AreFlags (IsSystem blocks) (IsNumbered image blocks) n used_now shared_now) next
    (flags_more (IsSystem blocks) (IsNumbered image blocks) (2 * slot + 1) used_then shared_then sides used_now shared_now
    (flags_more (IsSystem blocks) (IsNumbered image blocks) (2 * slot) used shared contents used_then shared_then are added_contents by_contents) added_sides by_side)

number_inside : (image blocks : List ℕ) (slot : ℕ) (role : ChainRole) (b : ℕ) → Claims image blocks slot role b → 2 * slot + number_of role < 2 * (8 * length blocks)
number_inside image blocks slot role b claim =
    let inside : slot < 8 * length blocks = claim.file.inside in
    let bound : number_of role ≤ 1 = number-bound role in
    omega arith

-- two ways of one slot with one number are the same
same_way : (n slot : ℕ) → n / 2 ≡ slot → (role : ChainRole) → way_of (n % 2) ≡ role → n ≡ 2 * slot + number_of role
unfolding way_of number_of
same_way n slot half role is = elim (cases_eq (n % 2) 0) [
  | inl even ↦
      let contents : Data ≡ role = subst (λ k. way_of k ≡ role) even is in
      subst (λ w. n ≡ 2 * slot + number_of w) contents (omega (arith, even))
  | inr odd ↦
      let one : n % 2 ≡ 1 = omega (arith, odd) in
      let side : Side ≡ role = subst (λ k. way_of k ≡ role) one is in
      subst (λ w. n ≡ 2 * slot + number_of w) side (omega (arith, one))
]

-- all slots are passed
pub flags_all : (image blocks : List ℕ) (n : ℕ) (used shared : List Bool) → n ≡ 8 * length blocks
    → AreFlags (IsSystem blocks) (IsNumbered image blocks) (2 * n) used shared → AreUses image blocks used shared
flags_all image blocks n used shared whole are = record {
  used_whole = are.used_whole;
  shared_whole = are.shared_whole;
  once = λ b low. (
    λ t. elim ((are.once b low).0 t) [ inl y ↦ inl y | inr held ↦ inr (record { slot = held.number / 2; role = way_of (held.number % 2); claim = held.holds }) ],
    λ either. (are.once b low).1 (elim either [
      | inl y ↦ inl y
      | inr claimed ↦ inr (record {
        number = 2 * claimed.slot + number_of claimed.role;
        before = let high = number_inside image blocks claimed.slot claimed.role b claimed.claim in omega arith;
        holds = numbered image blocks claimed.slot claimed.role b claimed.claim;
      })
    ]),
  );
  twice = λ slot role b low claim.
      let high : 2 * slot + number_of role < 2 * (8 * length blocks) = number_inside image blocks slot role b claim in
      let test = are.twice (2 * slot + number_of role) b low (omega arith) (numbered image blocks slot role b claim) in (
        λ t. elim (test.0 t) [
          | inl y ↦ inl y
          | inr beside ↦ inr (record {
            other_slot = beside.number / 2;
            other_role = way_of (beside.number % 2);
            claim = beside.holds;
            other = λ at_slot at_way. beside.other (same_way beside.number slot at_slot role at_way);
          })
        ],
        λ either. test.1 (elim either [
          | inl y ↦ inl y
          | inr other ↦ inr (record {
            number = 2 * other.other_slot + number_of other.other_role;
            before = let inside = number_inside image blocks other.other_slot other.other_role b other.claim in omega arith;
            other = λ same. other.other (slots_of slot role other.other_slot other.other_role same) (ways_of slot role other.other_slot other.other_role same);
            holds = numbered image blocks other.other_slot other.other_role b other.claim;
          })
        ]),
      );
}
  where
    slots_of : (slot : ℕ) (role : ChainRole) (other_slot : ℕ) (other_role : ChainRole) → 2 * other_slot + number_of other_role ≡ 2 * slot + number_of role → other_slot ≡ slot
    slots_of slot role other_slot other_role same = let a : number_of role ≤ 1 = number-bound role in let b : number_of other_role ≤ 1 = number-bound other_role in omega arith

    ways_of : (slot : ℕ) (role : ChainRole) (other_slot : ℕ) (other_role : ChainRole) → 2 * other_slot + number_of other_role ≡ 2 * slot + number_of role → other_role ≡ role
    ways_of slot role other_slot other_role same =
        let a : number_of role ≤ 1 = number-bound role in
        let b : number_of other_role ≤ 1 = number-bound other_role in
        let equal : number_of other_role ≡ number_of role = omega arith in
        sym (role-number other_role) ∙ ap way_of equal ∙ role-number role
