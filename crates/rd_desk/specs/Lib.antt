-- What the definitions of `rd_protocol` mean over a store: which answer a request gets, and what a crash and the
-- calls of a request leave, by this project's rules.
-- ---- what a reader of a public clause believes
-- of `Calls` only `IsResponse`, `IsResponseAfter`, `LeavesStep`, `IsOneChange` and `MakesOneChange`
pub mod Calls
pub mod Served
pub mod Shelving
pub use Rattle.rd_protocol.specs.Requests
pub use Rattle.rd_protocol.specs.Refusals
pub use Rattle.rd_protocol.specs.Lent
pub use Rattle.rd_protocol.specs.Kept
pub use Rattle.rd_protocol.specs.Bodies
pub use Rattle.rd_protocol.specs.Slices
pub use Rattle.rd_protocol.specs.BodyPieces
pub use Rattle.rd_protocol.specs.Texts
pub use Rattle.rd_protocol.specs.Checks
pub use Rattle.rd_protocol.specs.Catalogues
pub use Rattle.rd_protocol.specs.Judged
pub use Rattle.rd_protocol.specs.Replies
pub use Rattle.rd_protocol.specs.Laws
pub use Rattle.rd_protocol.specs.Shown
pub use Rattle.rd_protocol.specs.Hidden
-- ---- inside: what only private functions and proofs cite
pub use Rattle.rd_protocol.specs.Written
pub use Rattle.rd_protocol.specs.Queries
pub mod StaffLists
pub mod Rehearsing
