use Rattle.std.proofs.Common.{rules}
use Rattle.rd_geometry.proofs.Zones.{zones}
use Rattle.rd_geometry.proofs.cbm_disk.blocks_before.Goals as goal

pub returns-in-1-to-17-clause-count : goal.returns-in-1-to-17-clause-count
returns-in-1-to-17-clause-count c = search (rules, zones c.args.track)

pub returns-in-18-to-24-clause-count : goal.returns-in-18-to-24-clause-count
returns-in-18-to-24-clause-count c = search (rules, zones c.args.track)

pub returns-in-25-to-30-clause-count : goal.returns-in-25-to-30-clause-count
returns-in-25-to-30-clause-count c = search (rules, zones c.args.track)

pub returns-in_default-clause-count : goal.returns-in_default-clause-count
returns-in_default-clause-count c = search (rules, zones c.args.track)
