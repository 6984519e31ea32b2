-- A rule that stands, put again at its place, changes nothing.
use Rattle.std.specs.Prelude.{◌≡◌, ℤ, Some}
use Rattle.std.specs.FinMap.{get}
use Rattle.rd_protocol.specs.Replies.{carried_out}
use Rattle.rd_holdings.specs.State.{Desk, Place, Terms, rule_of}
use Rattle.rd_protocol.specs.declared.request.What.TheVariants.{PutRule}

-- if these terms stand at a place, the command that puts their rule leaves the desk as it is, on any day
abbrev pub PutAgain : Type 0
PutAgain = (desk : Desk) (day : ℤ) (place : Place) (terms : Terms) → get desk.rules place ≡ Some terms → carried_out day (PutRule (rule_of (place, terms))) desk ≡ desk
