-- The bytes that go: those of a reply, and those that say why there is no request.
use Rattle.std.specs.Prelude.{ℕ, List}
use Rattle.rd_protocol.specs.declared.response.Reply.{Reply}
use Rattle.rd_messages.specs.Faults.{allow_line, fault_reply}
use Rattle.rd_messages.specs.ReplyText.{challenge_of, reply_bytes}
use Rattle.rd_messages.specs.declared.fault.RequestFault.{RequestFault}

-- the bytes of a reply of the desk
abbrev pub answer_bytes : Reply → List ℕ
answer_bytes reply = reply_bytes (challenge_of reply.status) reply

-- the bytes that say why there is no request
abbrev pub fault_bytes : RequestFault → List ℕ
fault_bytes reason = reply_bytes (allow_line reason) (fault_reply reason)
