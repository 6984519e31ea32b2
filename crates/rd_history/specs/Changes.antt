-- Which requests change what stands, and the change that each asks.
use Rattle.std.specs.Prelude.{Option, Some, None}
use Rattle.rd_protocol.specs.declared.request.What.{What}
use Rattle.rd_protocol.specs.declared.request.What.TheVariants as what
use Rattle.rd_history.specs.declared.entry.Change.{Change}
use Rattle.rd_history.specs.declared.entry.Change.TheVariants.{Deed, Image, Rule, DropRule, Key, DropKey}

-- the change that a request asks: to put or to drop something. Questions, checks, rehearsals and a command
-- that cannot be read ask none
abbrev pub change_of : What → Option Change
change_of (what.PutImage acc kind deed digest bytes) = Some (Image acc kind deed digest)
change_of (what.PutDeed num donor signed) = Some (Deed num donor signed)
change_of (what.PutRule rule) = Some (Rule rule)
change_of (what.DropRule band scope rank) = Some (DropRule band scope rank)
change_of (what.PutKey digest audience) = Some (Key digest audience)
change_of (what.DropKey digest) = Some (DropKey digest)
change_of other = None
