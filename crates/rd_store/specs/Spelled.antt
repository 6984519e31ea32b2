-- How the rows of the tables spell a desk.
use Rattle.std.specs.Prelude.{◌≡◌, ◌==◌, ℕ, pos, List, [], ◌∷◌, map, cond, option_map}
use Rattle.std.specs.Ordering.{nat_cmp}
use Rattle.std.specs.FinMap.{FinMap}
use Rattle.sqlite.specs.declared.types.Value.TheVariants.{Int, Text, Blob}
use Rattle.sqlite.specs.Order.{Row, column}
use Rattle.sqlite.specs.Values.{or_null}
use Rattle.sqlite.specs.Tree.{Trees}
use Rattle.sqlite_value.specs.Order.{bytes}
use Rattle.sqlite_rules.specs.Edit.{id_in}
use Rattle.rd_policy.specs.declared.audience.Audience.{Audience}
use Rattle.rd_volume.specs.declared.found.Found.{Found}
use Rattle.rd_tables.specs.Spellings.{Spelling, Spells, SpellLawful, HaveRowids, map_of, natural}
use Rattle.rd_holdings.specs.declared.rows.DeedRow.{DeedRow}
use Rattle.rd_holdings.specs.declared.rows.ImageRow.{ImageRow}
use Rattle.rd_holdings.specs.declared.rows.Outcome.{Outcome}
use Rattle.rd_store.specs.Codes.{kind_code, kind_in, band_in, effect_code, effect_in, audiences_code, audiences_in, audience_code, audience_in, outcome_code, outcome_in, how, number, word, select_in, day_in, number_in, units_code, units_in, class_code, class_in}
use Rattle.rd_store.specs.Index.{FileAt, file_cmp}
use Rattle.rd_store.specs.Marks.{AreMarksIn, joined}
use Rattle.rd_holdings.specs.State.{Desk, Place, Terms, Checkup, place_cmp, digest_cmp, checkup_cmp, band_code}

-- deeds by number: the donor, and the day on which they were signed
abbrev pub deed_spelling : Spelling ℕ DeedRow
deed_spelling = record {
  places = 0 ∷ 2 ∷ 3 ∷ [];
  cmp = nat_cmp;
  columns = λ e. Int (pos e.0) ∷ Text e.1.donor ∷ Int e.1.signed ∷ [];
  entry = λ row. (natural (column row 0), record { donor = bytes (column row 1); signed = id_in (column row 2) });
}

-- images by accession: kind, deed, digest and bytes, without error bytes
abbrev pub image_spelling : Spelling ℕ ImageRow
image_spelling = record {
  places = 0 ∷ 2 ∷ 3 ∷ 4 ∷ 5 ∷ [];
  cmp = nat_cmp;
  columns = λ e. Int (pos e.0) ∷ Int (pos (kind_code e.1.kind)) ∷ Int (pos e.1.deed) ∷ Blob e.1.digest ∷ Blob e.1.bytes ∷ [];
  entry = λ row. (
    natural (column row 0),
    record { kind = kind_in (natural (column row 1)); deed = natural (column row 2); digest = bytes (column row 3); bytes = bytes (column row 4) },
  );
}

-- error bytes by accession
abbrev pub marks_spelling : Spelling ℕ (List ℕ)
marks_spelling = record {
  places = 0 ∷ 2 ∷ [];
  cmp = nat_cmp;
  columns = λ e. Int (pos e.0) ∷ Blob e.1 ∷ [];
  entry = λ row. (natural (column row 0), bytes (column row 1));
}

-- rules by place: audiences, days, selector and effect
abbrev pub rule_spelling : Spelling Place Terms
rule_spelling = record {
  places = 1 ∷ 2 ∷ 3 ∷ 4 ∷ 5 ∷ 6 ∷ 7 ∷ 8 ∷ 9 ∷ 10 ∷ [];
  cmp = place_cmp;
  columns = λ e. Int (pos (band_code e.0.band)) ∷ Int (pos e.0.scope) ∷ Int (pos e.0.rank) ∷ Int (pos (audiences_code e.1.audiences)) ∷ or_null Int e.1.from ∷ or_null Int e.1.until
      ∷ Int (pos (how e.1.select)) ∷ Int (pos (number e.1.select)) ∷ Text (word e.1.select) ∷ Int (pos (effect_code e.1.effect)) ∷ [];
  entry = λ row. (
    record { band = band_in (natural (column row 0)); scope = natural (column row 1); rank = natural (column row 2) },
    record {
      audiences = audiences_in (natural (column row 3));
      from = day_in (column row 4);
      until = day_in (column row 5);
      select = select_in (natural (column row 6)) (natural (column row 7)) (bytes (column row 8));
      effect = effect_in (natural (column row 9));
    },
  );
}

-- desk keys by digest: the audience
abbrev pub key_spelling : Spelling (List ℕ) Audience
key_spelling = record {
  places = 1 ∷ 2 ∷ [];
  cmp = digest_cmp;
  columns = λ e. Blob e.0 ∷ Int (pos (audience_code e.1)) ∷ [];
  entry = λ row. (bytes (column row 0), audience_in (natural (column row 1)));
}

-- checks by accession and day: the outcome
abbrev pub check_spelling : Spelling Checkup Outcome
check_spelling = record {
  places = 1 ∷ 2 ∷ 3 ∷ [];
  cmp = checkup_cmp;
  columns = λ e. Int (pos e.0.acc) ∷ Int e.0.day ∷ Int (pos (outcome_code e.1)) ∷ [];
  entry = λ row. (record { acc = natural (column row 0); day = id_in (column row 1) }, outcome_in (natural (column row 2)));
}

-- the columns of a file, its slot first
abbrev pub file_shown : Found → Row
file_shown file = Int (pos file.slot) ∷ Text file.name ∷ Text file.ty ∷ or_null Int (option_map pos file.user) ∷ Int (pos (class_code file.served_class))
    ∷ or_null Int (option_map pos file.size) ∷ Int (pos file.faults) ∷ Blob (units_code file.units) ∷ Int (pos file.last_len) ∷ []

-- the file that such columns describe
abbrev pub file_in : Row → Found
file_in row = record {
  slot = natural (column row 0);
  name = bytes (column row 1);
  ty = bytes (column row 2);
  user = number_in (column row 3);
  served_class = class_in (natural (column row 4));
  size = number_in (column row 5);
  faults = natural (column row 6);
  units = units_in (bytes (column row 7));
  last_len = natural (column row 8);
}

-- the columns without the first
abbrev pub later : Row → Row
later [] = []
later (first ∷ row) = row

-- the index: files by accession and slot
abbrev pub file_spelling : Spelling FileAt Found
file_spelling = record {
  places = 1 ∷ 2 ∷ 3 ∷ 4 ∷ 5 ∷ 6 ∷ 7 ∷ 8 ∷ 9 ∷ 10 ∷ [];
  cmp = file_cmp;
  columns = λ e. Int (pos e.0.acc) ∷ file_shown e.1;
  entry = λ row. (record { acc = natural (column row 0); slot = natural (column row 1) }, file_in (later row));
}

-- the desk has its one row, with the id 1, which says this version
abbrev pub HasVersion : ℕ → List Row → Type 0
HasVersion version rows = map (λ row. column row 0 ∷ column row 2 ∷ []) rows ≡ (Int (pos 1) ∷ Int (pos version) ∷ []) ∷ []

-- the images, each with its error bytes
abbrev pub images_of : Trees → FinMap nat_cmp ImageRow
images_of trees = joined (map_of image_spelling (trees 2)) (map_of marks_spelling (trees 11))

-- The rows spell a desk of this version, and an index.
pub record SpellDesk (number : ℕ) (trees : Trees) : Type 0 where
  pub version : HasVersion number (trees 0)
  pub deeds : Spells deed_spelling (trees 1)
  pub images : Spells image_spelling (trees 2)
  pub rules : Spells rule_spelling (trees 3)
  pub keys : Spells key_spelling (trees 5)
  pub checks : Spells check_spelling (trees 7)
  pub files : Spells file_spelling (trees 9)
  pub marks : SpellLawful marks_spelling (AreMarksIn (map_of image_spelling (trees 2))) (trees 11)

-- the desk that the rows of the tables spell
abbrev pub desk_of : Trees → Desk
desk_of trees = record {
  deeds = map_of deed_spelling (trees 1);
  images = images_of trees;
  rules = map_of rule_spelling (trees 3);
  keys = map_of key_spelling (trees 5);
  checks = map_of check_spelling (trees 7);
}

-- The tables of version 1 tell no error bytes: they spell the desk that the same rows spell in the tables of
-- version 2, where no image has error bytes.
abbrev pub unmarked : Trees → Trees
unmarked trees = λ tree. cond (tree == 11) [] (trees tree)

-- the index that the rows spell
abbrev pub index_of : Trees → FinMap file_cmp Found
index_of trees = map_of file_spelling (trees 9)

-- In the tables whose key is not the rowid, no two rows share a rowid.
pub record HaveOwnRowids (trees : Trees) : Type 0 where
  pub rules : HaveRowids (trees 3)
  pub keys : HaveRowids (trees 5)
  pub checks : HaveRowids (trees 7)
  pub files : HaveRowids (trees 9)
