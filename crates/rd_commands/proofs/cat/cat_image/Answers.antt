use Rattle.std.proofs.Common.{refl, rules, true}
use Rattle.std.proofs.KnownBytes.{Keeps-refl}
use Rattle.rd_commands.proofs.CatLemmas.{absent, cut, faulty_by, found_file, image_bytes, is_cat, listed_only, served}
use Rattle.rd_commands.proofs.cat.cat_image.Goals as goal

pub returns-in_default-clause-refused : goal.returns-in_default-clause-refused
returns-in_default-clause-refused g c = (
  Keeps-refl _,
  record {
    size = c.in_ok-image.ensures.taken.0 (refl {a = true});
    absent = absent c.args.kind _ c.args.bytes.now _ c.args.slot _ c.in_ok-image.ensures.kind c.in_ok-image.ensures.bytes c.in_default.is c.in_ok-file.ensures.file;
  },
)

pub returns-then-not-file-clause-refused : goal.returns-then-not-file-clause-refused
returns-then-not-file-clause-refused g c =
    let has = found_file c.args.kind _ c.args.bytes.now _ c.args.slot _ c.in-Some.file (c.in_ok-image.ensures.taken.0 (refl {a = true}))
    c.in_ok-image.ensures.kind c.in_ok-image.ensures.bytes c.in-Some.is c.in_ok-file.ensures.file in
    (Keeps-refl _, listed_only c.args.kind c.args.slot c.args.bytes.now c.in-Some.file has (search rules))

pub returns-then-file-ne0-clause-refused : goal.returns-then-file-ne0-clause-refused
returns-then-file-ne0-clause-refused g c =
    let has = found_file c.args.kind _ c.args.bytes.now _ c.args.slot _ c.in-Some.file (c.in_ok-image.ensures.taken.0 (refl {a = true}))
    c.in_ok-image.ensures.kind c.in_ok-image.ensures.bytes c.in-Some.is c.in_ok-file.ensures.file in
    (Keeps-refl _, faulty_by c.args.kind c.args.slot c.args.bytes.now c.in-Some.file has (search rules) (search rules))

pub returns-clause-done : goal.returns-clause-done
returns-clause-done g c =
    let has = found_file c.args.kind _ c.args.bytes.now _ c.args.slot _ c.in-Some.file (c.in_ok-image.ensures.taken.0 (refl {a = true}))
    c.in_ok-image.ensures.kind c.in_ok-image.ensures.bytes c.in-Some.is c.in_ok-file.ensures.file in
    let bytes = image_bytes c.args.kind _ c.args.bytes.now _ _ c.in-Some.file c.in_ok-image.ensures.kind c.in_ok-image.ensures.bytes has.described c.pieces.ensures.bytes in
    served c.write_pieces.result c.args.kind c.args.slot c.args.bytes.now _ _ _
    (is_cat c.args.kind c.args.slot c.args.bytes.now _ c.in-Some.file has (search rules) (search rules) bytes) c.write_pieces.ensures.done

pub returns-clause-refused : goal.returns-clause-refused
returns-clause-refused g c =
    let has = found_file c.args.kind _ c.args.bytes.now _ c.args.slot _ c.in-Some.file (c.in_ok-image.ensures.taken.0 (refl {a = true}))
    c.in_ok-image.ensures.kind c.in_ok-image.ensures.bytes c.in-Some.is c.in_ok-file.ensures.file in
    let bytes = image_bytes c.args.kind _ c.args.bytes.now _ _ c.in-Some.file c.in_ok-image.ensures.kind c.in_ok-image.ensures.bytes has.described c.pieces.ensures.bytes in
    cut c.write_pieces.result c.args.kind c.args.slot c.args.bytes.now _ _ _
    (is_cat c.args.kind c.args.slot c.args.bytes.now _ c.in-Some.file has (search rules) (search rules) bytes) c.write_pieces.ensures.cut c.write_pieces.ensures.device
