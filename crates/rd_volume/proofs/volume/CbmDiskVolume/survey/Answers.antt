use Rattle.rd_geometry.specs.CbmDisks.{cbm_bytes, cbm_kind}
use Rattle.rd_volume.proofs.CbmLemmas.{all_few, founds_are}
use Rattle.rd_volume.proofs.volume.CbmDiskVolume.survey.Goals as goal

pub tell_files-requires : goal.tell_files-requires
tell_files-requires c = all_few (cbm_bytes c.args.self.now) c.in_ok-files.files.items c.in_ok-files.ensures

pub returns : goal.returns
returns c = rw c.of.ensures (founds_are (cbm_kind c.args.self.now) c.args.self.now.cbm (cbm_bytes c.args.self.now) c.in_ok-files.files.items
    c.in_ok-tell_files.field-0.items c.args.self.now.long c.in_ok-files.ensures c.in_ok-tell_files.ensures)
