use Rattle.rd_store.proofs.Common.{subst, TellsVersion}
use Rattle.rd_store.proofs.DatabaseTests.{says_asked}
use Rattle.rd_store.proofs.version.known_version.Goals as goal

pub said_version-requires-clause-tells : goal.said_version-requires-clause-tells
said_version-requires-clause-tells g c = subst (TellsVersion c.in-Some.tree) c.schema.ensures.value c.in-Some.ensures

pub returns : goal.returns
returns g c = record {
  asks =
      says_asked g.S.Store c.args.conn.now c.said_version.new.conn c.said_version.result c.in-Some.tree
      (subst (TellsVersion c.in-Some.tree) c.schema.ensures.value c.in-Some.ensures) c.said_version.ensures.asks;
}
