-- What bytes ask, and which bytes a reply is: RFC 9112 in this project's profile for heads and framing, RFC 9110 for
-- methods, statuses and names of fields, RFC 8259 for JSON, else this project's rules. A wire is the connection of
-- one visit, which takes bytes that come in and puts bytes that go out; a door is where visits come from, one after
-- the other, each with its moment and its wire, until it shuts.
-- ---- what a reader of a public clause believes
pub mod DoorVisits
pub mod Faults
pub mod Asked
pub mod Answers
pub mod Readings
pub mod Fields
pub mod Framing
pub mod Heads
pub mod Taken
pub mod PathDays
pub mod PathValues
pub mod Methods
pub mod Table
pub mod Routes
pub mod Objects
pub mod RequestBodies
pub mod ShownRules
pub mod MemoryDoors
pub mod Streams
pub mod Waits
pub mod ReplyText
pub mod Sent
-- ---- inside: what only private functions and proofs cite
-- Only private functions and proofs cite what follows a line `inside` in a file.
pub mod Examples
