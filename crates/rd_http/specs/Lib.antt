-- What a visit and a run of visits do, over a wire or a door and over a desk: RFC 9110 and RFC 9112 for a reply, else
-- this project's rules.
-- ---- what a reader of a public clause believes
pub mod Visits
pub mod Hidden
pub mod Runs
pub mod Cut
pub use Rattle.rd_protocol.specs.Parts
pub use Rattle.rd_messages.specs.DoorVisits
pub use Rattle.rd_messages.specs.Faults
pub use Rattle.rd_messages.specs.Asked
pub use Rattle.rd_messages.specs.Answers
pub use Rattle.rd_messages.specs.Fields
pub use Rattle.rd_messages.specs.Framing
pub use Rattle.rd_messages.specs.Heads
pub use Rattle.rd_messages.specs.Taken
pub use Rattle.rd_messages.specs.PathDays
pub use Rattle.rd_messages.specs.PathValues
pub use Rattle.rd_messages.specs.Methods
pub use Rattle.rd_messages.specs.Table
pub use Rattle.rd_messages.specs.Routes
pub use Rattle.rd_messages.specs.Objects
pub use Rattle.rd_messages.specs.RequestBodies
pub use Rattle.rd_messages.specs.ShownRules
pub use Rattle.rd_messages.specs.MemoryDoors
pub use Rattle.rd_messages.specs.Streams
pub use Rattle.rd_messages.specs.Waits
pub use Rattle.rd_messages.specs.ReplyText
pub use Rattle.rd_messages.specs.Sent
-- ---- inside: what only private functions and proofs cite
-- Only private functions and proofs cite what follows a line `inside` in a file.
pub use Rattle.rd_messages.specs.Readings
pub use Rattle.rd_messages.specs.Examples
