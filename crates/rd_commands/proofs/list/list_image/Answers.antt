use Rattle.std.proofs.Common.{◌≡◌, refl, subst, sym, true}
use Rattle.rd_geometry.specs.Images.{bytes_of, kind_of}
use Rattle.rd_volume.specs.Volumes.{AreFounds}
use Rattle.rd_commands.specs.Listed.{list_text}
use Rattle.rd_commands.proofs.ListLemmas.{is_list, list_cut, listed}
use Rattle.rd_commands.proofs.list.list_image.Goals as goal

pub returns-clause-done : goal.returns-clause-done
returns-clause-done g c =
    let text : c.as_bytes.result.now ≡ list_text c.args.kind c.as_slice.result.now c.in_ok-end.end = cc (c.in_ok-text.ensures, c.as_bytes.ensures.value) in
    let files : AreFounds (kind_of c.in_ok-image.image) (bytes_of c.in_ok-image.image) c.as_slice.result.now = subst (AreFounds _ _) (sym c.as_slice.ensures) c.in_ok-files.ensures.files in
    listed c.write_whole.result c.args.kind c.args.bytes.now c.as_bytes.result.now _ _
    (is_list c.args.kind _ c.args.bytes.now _ _ c.as_slice.result.now c.in_ok-end.end (c.in_ok-image.ensures.taken.0 (refl {a = true})) c.in_ok-image.ensures.kind c.in_ok-image.ensures.bytes
    files c.in_ok-end.ensures text) c.write_whole.ensures.done

pub returns-clause-refused : goal.returns-clause-refused
returns-clause-refused g c =
    let text : c.as_bytes.result.now ≡ list_text c.args.kind c.as_slice.result.now c.in_ok-end.end = cc (c.in_ok-text.ensures, c.as_bytes.ensures.value) in
    let files : AreFounds (kind_of c.in_ok-image.image) (bytes_of c.in_ok-image.image) c.as_slice.result.now = subst (AreFounds _ _) (sym c.as_slice.ensures) c.in_ok-files.ensures.files in
    list_cut c.write_whole.result c.args.kind c.args.bytes.now c.as_bytes.result.now _ _
    (is_list c.args.kind _ c.args.bytes.now _ _ c.as_slice.result.now c.in_ok-end.end (c.in_ok-image.ensures.taken.0 (refl {a = true})) c.in_ok-image.ensures.kind c.in_ok-image.ensures.bytes
    files c.in_ok-end.ensures text) c.write_whole.ensures.cut c.write_whole.ensures.device
