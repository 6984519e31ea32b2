-- The bytes of a reply.
use Rattle.std.specs.Prelude.{ℕ, List, [], ◌++◌, ◌==◌, codes, length, if◌then◌else◌}
use Rattle.std.specs.Fmt.{decimal}
use Rattle.rd_protocol.specs.declared.response.Form.{Form}
use Rattle.rd_protocol.specs.declared.response.Form.TheVariants.{Json, Csv, Octets}
use Rattle.rd_protocol.specs.declared.response.Reply.{Reply}

-- the media type of a body, as a head names it
abbrev pub type_of : Form → List ℕ
type_of Json = codes "application/json"
type_of Csv = codes "text/csv"
type_of Octets = codes "application/octet-stream"

-- the phrase that goes with a status; no reply has any other than these
abbrev pub phrase_of : ℕ → List ℕ
phrase_of status =
    if status == 200 then codes "OK"
    else if status == 400 then codes "Bad Request"
    else if status == 401 then codes "Unauthorized"
    else if status == 403 then codes "Forbidden"
    else if status == 404 then codes "Not Found"
    else if status == 405 then codes "Method Not Allowed"
    else if status == 409 then codes "Conflict"
    else if status == 422 then codes "Unprocessable Content"
    else codes "Service Unavailable"

-- the line that only a reply of status 401 has: where the caller shows a key
abbrev pub challenge_of : ℕ → List ℕ
challenge_of status = if status == 401 then codes "WWW-Authenticate: Desk-Key\r\n" else []

-- the lines before a body of this length, including the line that only this reply has, and the
-- empty line
unfoldable pub head_text : ℕ → Form → ℕ → List ℕ → List ℕ
head_text status form len extra =
    codes "HTTP/1.1 " ++ decimal status ++ codes " " ++ phrase_of status
    ++ codes "\r\nContent-Type: " ++ type_of form
    ++ codes "\r\nContent-Length: " ++ decimal len
    ++ codes "\r\nConnection: close\r\n" ++ extra ++ codes "\r\n"

-- the bytes of a reply with such a line
unfoldable pub reply_bytes : List ℕ → Reply → List ℕ
reply_bytes extra reply = head_text reply.status reply.form (length reply.body.bytes) extra ++ reply.body.bytes
