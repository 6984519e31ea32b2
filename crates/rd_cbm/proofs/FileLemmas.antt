-- What the chains of a file and the uses of all blocks tell is what the definitions say of the file.
use Rattle.std.proofs.Common.{◌≡◌, ◌≢◌, ◌∙◌, ◌⊎◌, inl, inr, ◌↔◌, ◌*◌, ◌<◌, ◌≤◌, ℕ, Bool, false, IsTrue, List, [], length, slice_index, slice_index_or, All, Contains, Option, bit_and, arith, refl, sym, ap, subst}
use Rattle.std.proofs.lemmas.Bool.{cases_eq}
use Rattle.rd_geometry.specs.Blocks.{CBM_BLOCKS, index_of, mark_of}
use Rattle.rd_cbm.specs.declared.chains.Chain.{Chain}
use Rattle.rd_cbm.specs.declared.entries.CbmEntry.{CbmEntry}
use Rattle.rd_cbm.specs.Listing.{HasFields}
use Rattle.rd_cbm.specs.declared.chains.End.{End}
use Rattle.rd_cbm.specs.declared.chains.End.TheVariants as end
use Rattle.rd_cbm.specs.Links.{link_of}
use Rattle.rd_cbm.specs.Walks.{IsChain, Ends, GoesOff, Loops, EndsBy}
use Rattle.rd_cbm.specs.Counts.{IsCount}
use Rattle.rd_cbm.specs.Entries.{ChainRole, Data, Side, entry_at, type_of, start_of, kind_of, ClaimsBy}
use Rattle.rd_cbm.specs.Files.{Claims, IsSystem, HasOtherClaim}
use Rattle.rd_cbm.specs.Faults.{IsNotClosed, IsOffDisk, IsLooped, IsCrossed, HasReadError, IsError, AreFaults, IsSound}
use Rattle.rd_cbm.specs.Marked.{IsClaimChain, AreUses, SomeError, SomeShared, AreFaultBits, AreServedBlocks}
use Rattle.rd_cbm.proofs.WalkLaws.{one_way}
use Rattle.rd_cbm.proofs.ClaimLemmas.{own_chain}
use Rattle.rd_cbm.proofs.CountLemmas.{count_as}
use Rattle.rd_cbm.proofs.BitLemmas.{TellFive, no_bit, no_bits}

-- The two chains by which the file at a slot claims blocks were read.
pub record AreRead (image blocks : List ℕ) (slot : ℕ) (contents sides : Chain) : Type 0 where
  pub inside : slot < 8 * length blocks
  pub by_data : IsClaimChain image (start_of (entry_at image blocks slot) Data) (ClaimsBy (type_of (entry_at image blocks slot)) Data) contents
  pub by_side : IsClaimChain image (start_of (entry_at image blocks slot) Side) (ClaimsBy (type_of (entry_at image blocks slot)) Side) sides

moved : (image : List ℕ) (start start_too : Option ℕ) (type type_too : ℕ) (role : ChainRole) (chain : Chain) → start ≡ start_too → type ≡ type_too
    → IsClaimChain image start (ClaimsBy type role) chain → IsClaimChain image start_too (ClaimsBy type_too role) chain
moved image start start_too type type_too role chain starts types is =
    subst (λ s. IsClaimChain image s (ClaimsBy type_too role) chain) starts (subst (λ t. IsClaimChain image start (ClaimsBy t role) chain) types is)

-- the chains of the fields of an entry are those of the entry at its slot
pub read_as : (image blocks : List ℕ) (entry : CbmEntry) (slot : ℕ) (contents sides : Chain) → HasFields image blocks entry → entry.slot ≡ slot → slot < 8 * length blocks
    → IsClaimChain image (index_of entry.start.0 entry.start.1) (ClaimsBy entry.ty_byte Data) contents
    → IsClaimChain image (index_of entry.side.0 entry.side.1) (ClaimsBy entry.ty_byte Side) sides → AreRead image blocks slot contents sides
read_as image blocks entry slot contents sides fields at inside by_data by_side =
    let own : List ℕ = entry_at image blocks entry.slot in
    subst (λ s. AreRead image blocks s contents sides) at (record {
      inside = omega arith;
      by_data = moved image (index_of entry.start.0 entry.start.1) (start_of own Data) entry.ty_byte (type_of own) Data contents
          (ap (λ t. index_of t entry.start.1) fields.start_track ∙ ap (index_of (slice_index own 3)) fields.start_sector) fields.ty_byte by_data;
      by_side = moved image (index_of entry.side.0 entry.side.1) (start_of own Side) entry.ty_byte (type_of own) Side sides
          (ap (λ t. index_of t entry.side.1) fields.side_track ∙ ap (index_of (slice_index own 21)) fields.side_sector) fields.ty_byte by_side;
    })

-- how the chain that was read ends tells how the walk ends by which the file claims
off_by : (image : List ℕ) (start : Option ℕ) (P : Type 0) (chain : Chain) → IsClaimChain image start P chain → chain.end ≡ end.Off → P × GoesOff (link_of image) start
off_by image start P chain is off = elim is.decided [
  | inl p ↦ (p, subst (EndsBy (link_of image) start) off (is.ends p))
  | inr unclaimed ↦ absurd (let none : chain.end ≡ end.Last 0 = is.none_end unclaimed in cc)
]

loop_by : (image : List ℕ) (start : Option ℕ) (P : Type 0) (chain : Chain) → IsClaimChain image start P chain → chain.end ≡ end.Loop → P × Loops (link_of image) start
loop_by image start P chain is loop = elim is.decided [
  | inl p ↦ (p, subst (EndsBy (link_of image) start) loop (is.ends p))
  | inr unclaimed ↦ absurd (let none : chain.end ≡ end.Last 0 = is.none_end unclaimed in cc)
]

off_disk_as : (image blocks : List ℕ) (slot : ℕ) (contents sides : Chain) → AreRead image blocks slot contents sides
    → ((contents.end ≡ end.Off) ⊎ (sides.end ≡ end.Off)) ↔ IsOffDisk image blocks slot
off_disk_as image blocks slot contents sides are = (
  λ either. elim either [
    | inl off ↦ (let both = off_by image _ _ contents are.by_data off in record { role = Data; claimant = both.0; off = both.1 })
    | inr off ↦ (let both = off_by image _ _ sides are.by_side off in record { role = Side; claimant = both.0; off = both.1 })
  ],
  λ is. from is.role is.claimant is.off,
)
  where
    from : (role : ChainRole) → ClaimsBy (type_of (entry_at image blocks slot)) role → GoesOff (link_of image) (start_of (entry_at image blocks slot) role)
        → (contents.end ≡ end.Off) ⊎ (sides.end ≡ end.Off)
    from Data claims off = inl (one_way (link_of image) (start_of (entry_at image blocks slot) Data) contents.end end.Off (are.by_data.ends claims) off)
    from Side claims off = inr (one_way (link_of image) (start_of (entry_at image blocks slot) Side) sides.end end.Off (are.by_side.ends claims) off)

loop_as : (image blocks : List ℕ) (slot : ℕ) (contents sides : Chain) → AreRead image blocks slot contents sides
    → ((contents.end ≡ end.Loop) ⊎ (sides.end ≡ end.Loop)) ↔ IsLooped image blocks slot
loop_as image blocks slot contents sides are = (
  λ either. elim either [
    | inl loop ↦ (let both = loop_by image _ _ contents are.by_data loop in record { role = Data; claimant = both.0; loop = both.1 })
    | inr loop ↦ (let both = loop_by image _ _ sides are.by_side loop in record { role = Side; claimant = both.0; loop = both.1 })
  ],
  λ is. from is.role is.claimant is.loop,
)
  where
    from : (role : ChainRole) → ClaimsBy (type_of (entry_at image blocks slot)) role → Loops (link_of image) (start_of (entry_at image blocks slot) role)
        → (contents.end ≡ end.Loop) ⊎ (sides.end ≡ end.Loop)
    from Data claims loop = inl (one_way (link_of image) (start_of (entry_at image blocks slot) Data) contents.end end.Loop (are.by_data.ends claims) loop)
    from Side claims loop = inr (one_way (link_of image) (start_of (entry_at image blocks slot) Side) sides.end end.Loop (are.by_side.ends claims) loop)

-- what holds of all holds of one
of_all : (P : ℕ → Type 0) (list : List ℕ) (n : ℕ) → All P list → Contains list n → P n
of_all P list n all there = subst P there.2 (all there.0 n there.1)

-- the blocks of the two chains are those that the file claims
pub own_contents : (image blocks : List ℕ) (slot : ℕ) (contents sides : Chain) → AreRead image blocks slot contents sides → (b : ℕ) → Contains contents.blocks b ↔ Claims image blocks slot Data b
own_contents image blocks slot contents sides are b =
    own_chain image blocks slot Data (start_of (entry_at image blocks slot) Data) (type_of (entry_at image blocks slot)) contents are.inside refl refl are.by_data b

pub own_sides : (image blocks : List ℕ) (slot : ℕ) (contents sides : Chain) → AreRead image blocks slot contents sides → (b : ℕ) → Contains sides.blocks b ↔ Claims image blocks slot Side b
own_sides image blocks slot contents sides are b =
    own_chain image blocks slot Side (start_of (entry_at image blocks slot) Side) (type_of (entry_at image blocks slot)) sides are.inside refl refl are.by_side b

crossed_as : (image blocks : List ℕ) (slot : ℕ) (contents sides : Chain) (used shared : List Bool) → AreRead image blocks slot contents sides → AreUses image blocks used shared
    → (SomeShared shared contents.blocks ⊎ SomeShared shared sides.blocks) ↔ IsCrossed image blocks slot
crossed_as image blocks slot contents sides used shared are uses = (
  λ either. elim either [
    | inl some ↦ to Data some.0 (of_all (λ b. b < CBM_BLOCKS) contents.blocks some.0 are.by_data.on_disk some.1) ((own_contents image blocks slot contents sides are some.0).0 some.1) some.2
    | inr some ↦ to Side some.0 (of_all (λ b. b < CBM_BLOCKS) sides.blocks some.0 are.by_side.on_disk some.1) ((own_sides image blocks slot contents sides are some.0).0 some.1) some.2
  ],
  λ is. from is.role is.block is.claim is.taken,
)
  where
    to : (role : ChainRole) (b : ℕ) → b < CBM_BLOCKS → Claims image blocks slot role b → IsTrue (slice_index_or shared b false) → IsCrossed image blocks slot
    to role b low claim t = record { role = role; block = b; claim = claim; taken = (uses.twice slot role b low claim).0 t }

    from : (role : ChainRole) (b : ℕ) → Claims image blocks slot role b → IsSystem blocks b ⊎ HasOtherClaim image blocks slot role b
        → SomeShared shared contents.blocks ⊎ SomeShared shared sides.blocks
    from Data b claim taken =
        let there = (own_contents image blocks slot contents sides are b).1 claim in
        inl (b, there, (uses.twice slot Data b (of_all (λ b. b < CBM_BLOCKS) contents.blocks b are.by_data.on_disk there) claim).1 taken)
    from Side b claim taken =
        let there = (own_sides image blocks slot contents sides are b).1 claim in
        inr (b, there, (uses.twice slot Side b (of_all (λ b. b < CBM_BLOCKS) sides.blocks b are.by_side.on_disk there) claim).1 taken)

-- the blocks of the two chains have an error byte that tells of an error where those do that the file claims
error_as : (image blocks : List ℕ) (slot : ℕ) (contents sides : Chain) → AreRead image blocks slot contents sides
    → (SomeError image contents.blocks ⊎ SomeError image sides.blocks) ↔ HasReadError image blocks slot
error_as image blocks slot contents sides are = (
  λ either. elim either [
    | inl some ↦ record { role = Data; block = some.0; claim = (own_contents image blocks slot contents sides are some.0).0 some.1; error = some.2 }
    | inr some ↦ record { role = Side; block = some.0; claim = (own_sides image blocks slot contents sides are some.0).0 some.1; error = some.2 }
  ],
  λ is. from is.role is.block is.claim is.error,
)
  where
    from : (role : ChainRole) (b : ℕ) → Claims image blocks slot role b → IsError (mark_of image b) → SomeError image contents.blocks ⊎ SomeError image sides.blocks
    from Data b claim error = inl (b, (own_contents image blocks slot contents sides are b).1 claim, error)
    from Side b claim error = inr (b, (own_sides image blocks slot contents sides are b).1 claim, error)

through : {P Q R : Type 0} → P ↔ Q → Q ↔ R → P ↔ R
through a b = (λ p. b.0 (a.0 p), λ r. a.1 (b.1 r))

-- a number whose bits tell of the five faults has the faults of the file
pub faults_by_bits : (image blocks : List ℕ) (slot faults : ℕ)
    → TellFive (IsNotClosed image blocks slot) (IsOffDisk image blocks slot) (IsLooped image blocks slot) (IsCrossed image blocks slot) (HasReadError image blocks slot) faults
    → AreFaults image blocks slot faults
faults_by_bits image blocks slot faults bits = record {
  not_closed = bits.bit_0;
  off_disk = bits.bit_1;
  loop = bits.bit_2;
  crossed = bits.bit_3;
  read_error = bits.bit_4;
  no_other = bits.no_other;
  none = (
    λ zero. record {
      closed = λ has. unset 1 zero (bits.bit_0.1 has);
      on_disk = λ has. unset 2 zero (bits.bit_1.1 has);
      ends = λ has. unset 4 zero (bits.bit_2.1 has);
      alone = λ has. unset 8 zero (bits.bit_3.1 has);
      readable = λ has. unset 16 zero (bits.bit_4.1 has);
    },
    λ clean. no_bits faults bits.no_other (λ set. clean.closed (bits.bit_0.0 set)) (λ set. clean.on_disk (bits.bit_1.0 set)) (λ set. clean.ends (bits.bit_2.0 set))
        (λ set. clean.alone (bits.bit_3.0 set)) (λ set. clean.readable (bits.bit_4.0 set)),
  );
}
  where
    unset : (m : ℕ) → faults ≡ 0 → (bit_and faults m ≢ 0) → ⊥
    unset m zero set = no_bit m (subst (λ n. bit_and n m ≢ 0) zero set)

-- the faults that the tests tell are those of the file
pub faults_as : (image blocks : List ℕ) (slot : ℕ) (contents sides : Chain) (used shared : List Bool) (faults : ℕ) → AreRead image blocks slot contents sides
    → AreUses image blocks used shared → AreFaultBits image shared (type_of (entry_at image blocks slot)) contents sides faults → AreFaults image blocks slot faults
faults_as image blocks slot contents sides used shared faults are uses are_bits = faults_by_bits image blocks slot faults (record {
  bit_0 = are_bits.not_closed;
  bit_1 = through are_bits.off_disk (off_disk_as image blocks slot contents sides are);
  bit_2 = through are_bits.loop (loop_as image blocks slot contents sides are);
  bit_3 = through are_bits.crossed (crossed_as image blocks slot contents sides used shared are uses);
  bit_4 = through are_bits.read_error (error_as image blocks slot contents sides are);
  no_other = are_bits.no_other;
})

-- The blocks and the last byte that are told of the file.
pub record AreFileBlocks (image blocks : List ℕ) (slot : ℕ) (list : List ℕ) (last : ℕ) : Type 0 where
  pub chain : IsSound image blocks slot → IsChain (link_of image) (start_of (entry_at image blocks slot) Data) list
  pub last_byte : IsSound image blocks slot → Ends (link_of image) (start_of (entry_at image blocks slot) Data) last
  pub no_blocks : ¬ IsSound image blocks slot → list ≡ []
  pub no_last : ¬ IsSound image blocks slot → last ≡ 0
  pub on_disk : All (λ b. b < CBM_BLOCKS) list

-- a served file without a fault claims by its data
pub served_claims : (image blocks : List ℕ) (slot : ℕ) → IsSound image blocks slot → ClaimsBy (type_of (entry_at image blocks slot)) Data
served_claims image blocks slot sound =
    let high : kind_of (type_of (entry_at image blocks slot)) ≤ 3 = sound.served.1 in
    (λ zero. sound.no_fault.closed (λ closed. closed zero), sound.served.0, omega arith)

-- The walk of a sound file ends at a last block.
record HasLast (image : List ℕ) (start : Option ℕ) (chain : Chain) : Type 0 where
  e : ℕ
  is : chain.end ≡ end.Last e
  ends : Ends (link_of image) start e

last_of : (image blocks : List ℕ) (slot : ℕ) (chain : Chain) → IsSound image blocks slot → ClaimsBy (type_of (entry_at image blocks slot)) Data
    → (ending : End) → chain.end ≡ ending → EndsBy (link_of image) (start_of (entry_at image blocks slot) Data) ending → HasLast image (start_of (entry_at image blocks slot) Data) chain
last_of image blocks slot chain sound claims (end.Last e) is ends = record { e = e; is = is; ends = ends }
last_of image blocks slot chain sound claims end.Off is ends = absurd (sound.no_fault.on_disk (record { role = Data; claimant = claims; off = ends }))
last_of image blocks slot chain sound claims end.Loop is ends = absurd (sound.no_fault.ends (record { role = Data; claimant = claims; loop = ends }))

pub blocks_as : (image blocks : List ℕ) (slot : ℕ) (contents sides : Chain) (faults : ℕ) (list : List ℕ) (last : ℕ) → AreRead image blocks slot contents sides
    → AreFaults image blocks slot faults → AreServedBlocks (type_of (entry_at image blocks slot)) faults contents list last → AreFileBlocks image blocks slot list last
blocks_as image blocks slot contents sides faults list last are faulty are_bits = record {
  chain = λ sound. let has = sound_last sound in
      subst (IsChain (link_of image) (start_of (entry_at image blocks slot) Data)) (sym (are_bits.sound (faulty.none.1 sound.no_fault) sound.served has.e has.is).0)
      (are.by_data.blocks (served_claims image blocks slot sound));
  last_byte = λ sound. let has = sound_last sound in
      subst (Ends (link_of image) (start_of (entry_at image blocks slot) Data)) (sym (are_bits.sound (faulty.none.1 sound.no_fault) sound.served has.e has.is).1) has.ends;
  no_blocks = λ unsound. (unsound_none unsound).0;
  no_last = λ unsound. (unsound_none unsound).1;
  on_disk = are_bits.on_disk are.by_data.on_disk;
}
  where
    sound_last : IsSound image blocks slot → HasLast image (start_of (entry_at image blocks slot) Data) contents
    sound_last sound =
        let claims = served_claims image blocks slot sound in
        last_of image blocks slot contents sound claims contents.end refl (are.by_data.ends claims)

    unsound_none : ¬ IsSound image blocks slot → (list ≡ []) × (last ≡ 0)
    unsound_none unsound = elim (cases_eq faults 0) [
      | inl zero ↦ are_bits.unserved (λ served. unsound (record { served = served; no_fault = faulty.none.0 zero }))
      | inr some ↦ are_bits.faulty some
    ]

-- the blocks on the two chains are those that the file claims by some way
pub claimed_as : (image blocks : List ℕ) (slot : ℕ) (contents sides : Chain) (count : ℕ) → AreRead image blocks slot contents sides
    → IsCount (λ b. Contains contents.blocks b ⊎ Contains sides.blocks b) count → IsCount (λ b. (role : ChainRole) × Claims image blocks slot role b) count
claimed_as image blocks slot contents sides count are counted =
    count_as (λ b. Contains contents.blocks b ⊎ Contains sides.blocks b) (λ b. (role : ChainRole) × Claims image blocks slot role b) count counted (λ b. (
      λ either. elim either [
        | inl there ↦ (Data, (own_contents image blocks slot contents sides are b).0 there)
        | inr there ↦ (Side, (own_sides image blocks slot contents sides are b).0 there)
      ],
      λ some. from b some.0 some.1,
    ))
  where
    from : (b : ℕ) (role : ChainRole) → Claims image blocks slot role b → Contains contents.blocks b ⊎ Contains sides.blocks b
    from b Data claim = inl ((own_contents image blocks slot contents sides are b).1 claim)
    from b Side claim = inr ((own_sides image blocks slot contents sides are b).1 claim)
