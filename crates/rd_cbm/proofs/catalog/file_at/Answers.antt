use Rattle.std.proofs.Common.{◌≡◌, ◌∙◌, ◌⊎◌, ◌↔◌, ℕ, List, IsTrue, Contains, ap, subst}
use Rattle.rd_geometry.specs.CbmDisks.{cbm_bytes}
use Rattle.rd_cbm.specs.declared.chains.Chain.{Chain}
use Rattle.rd_cbm.specs.Counts.{IsCount}
use Rattle.rd_cbm.specs.Entries.{ChainRole, entry_at, type_of, name_of, size_field_of, class_of, IsLocked, IsClosed}
use Rattle.rd_cbm.specs.Files.{Claims}
use Rattle.rd_cbm.specs.Faults.{AreFaults}
use Rattle.rd_cbm.specs.Marked.{AreFaultBits, AreServedBlocks}
use Rattle.rd_cbm.proofs.FileLemmas.{AreRead, AreFileBlocks, read_as, faults_as, blocks_as, claimed_as}
use Rattle.rd_cbm.proofs.catalog.file_at.Goals as goal

pub returns-clause-file : goal.returns-clause-file
returns-clause-file c =
    let image : List ℕ = cbm_bytes c.args.disk.now in
    let blocks : List ℕ = c.args.blocks.now in
    let slot : ℕ = c.args.slot in
    let contents : Chain = c.in_ok-contents.contents in
    let sides : Chain = c.in_ok-contents.sides in
    let at : c.read_entry-entry.result.slot ≡ slot = c.read_entry-entry.ensures.slot in
    let type : c.read_entry-entry.result.ty_byte ≡ type_of (entry_at image blocks slot) =
    c.read_entry-entry.ensures.fields.ty_byte ∙ ap (λ s. type_of (entry_at image blocks s)) at in
    let are : AreRead image blocks slot contents sides =
    read_as image blocks c.read_entry-entry.result slot contents sides c.read_entry-entry.ensures.fields at c.requires.file.inside
    c.in_ok-contents.ensures.contents c.in_ok-contents.ensures.sides in
    let faults : AreFaults image blocks slot c.faults_of-faults.result =
    faults_as image blocks slot contents sides c.args.uses.now.used c.args.uses.now.shared _ are c.requires.uses
    (subst (λ t. AreFaultBits image c.args.uses.now.shared t contents sides c.faults_of-faults.result) type c.faults_of-faults.ensures) in
    let served : AreFileBlocks image blocks slot c.served_blocks-blocks.result.0 c.served_blocks-blocks.result.1 =
    blocks_as image blocks slot contents sides c.faults_of-faults.result _ _ are faults
    (subst (λ t. AreServedBlocks t c.faults_of-faults.result contents c.served_blocks-blocks.result.0 c.served_blocks-blocks.result.1) type c.served_blocks-blocks.ensures) in
    let claimed : IsCount (λ b. (role : ChainRole) × Claims image blocks slot role b) c.count_claimed-claimed.result =
    claimed_as image blocks slot contents sides _ are
    (subst (λ list. IsCount (λ b. Contains list b ⊎ Contains sides.blocks b) c.count_claimed-claimed.result) c.as_slice.ensures
    (subst (λ list. IsCount (λ b. Contains c.as_slice.result.now b ⊎ Contains list b) c.count_claimed-claimed.result) c.as_slice-2.ensures c.count_claimed-claimed.ensures)) in
    record {
      slot = c.requires.file;
      class = c.class_of.ensures ∙ ap class_of type;
      locked = subst (λ t. IsTrue c.is_locked.result ↔ IsLocked t) type c.is_locked.ensures;
      closed = subst (λ t. IsTrue c.is_closed.result ↔ IsClosed t) type c.is_closed.ensures;
      name = c.read_entry-entry.ensures.fields.name ∙ ap (λ s. name_of (entry_at image blocks s)) at;
      size_field = c.read_entry-entry.ensures.fields.size_field ∙ ap (λ s. size_field_of (entry_at image blocks s)) at;
      faults = faults;
      chain = served.chain;
      last = served.last_byte;
      no_blocks = served.no_blocks;
      no_last = served.no_last;
      on_disk = served.on_disk;
      claimed = claimed;
    }
