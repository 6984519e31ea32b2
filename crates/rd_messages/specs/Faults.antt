-- Why the bytes of a visit are no request: the number that orders the reasons, the name that the
-- reply gives, and its status.
use Rattle.std.specs.Prelude.{ℕ, List, [], ◌++◌, codes}
use Rattle.serde_json.specs.Data.{no_members}
use Rattle.serde_json.specs.Written.{compact_text}
use Rattle.rd_protocol.specs.Lent.{held}
use Rattle.rd_protocol.specs.Texts.{error_data}
use Rattle.rd_protocol.specs.declared.response.Form.TheVariants.{Json}
use Rattle.rd_protocol.specs.declared.response.Reply.{Reply}
use Rattle.rd_messages.specs.Methods.{allow_text}
use Rattle.rd_messages.specs.declared.fault.RequestFault.{RequestFault}
use Rattle.rd_messages.specs.declared.fault.RequestFault.TheVariants.{BadHead, Framing, NoRoute, Method}

-- if several reasons hold, the reply gives the one with the lowest number; from 5 on they are
-- those of the desk
abbrev pub number_of : RequestFault → ℕ
number_of BadHead = 1
number_of Framing = 2
number_of NoRoute = 3
number_of (Method methods) = 4

-- the name that the reply gives
abbrev pub name_of : RequestFault → List ℕ
name_of BadHead = codes "bad-head"
name_of Framing = codes "framing"
name_of NoRoute = codes "no-route"
name_of (Method methods) = codes "method"

-- the HTTP status
abbrev pub status_of : RequestFault → ℕ
status_of BadHead = 400
status_of Framing = 400
status_of NoRoute = 404
status_of (Method methods) = 405

-- the body of the reply, in JSON
abbrev pub fault_body : RequestFault → List ℕ
fault_body fault = compact_text (error_data (name_of fault) no_members)

-- the reply
abbrev pub fault_reply : RequestFault → Reply
fault_reply fault = record { status = status_of fault; form = Json; body = held (fault_body fault) }

-- which methods the target has, as a line of the reply's head
abbrev pub allow_line : RequestFault → List ℕ
allow_line (Method methods) = codes "Allow: " ++ allow_text methods ++ codes "\r\n"
allow_line fault = []
