-- What a command on a store writes, leaves and refuses, over the definitions of `rd_commands` and of the desk; this
-- project's rules.
-- ---- what a reader of a public clause believes
pub mod World
pub mod Does
pub mod Promises
pub mod Inits
pub mod Serving
pub mod Importing
pub mod Asking
pub mod Leaves
pub mod Showing
pub mod Doors
pub mod Visiting
pub mod Rows
pub mod ImportedRows
pub mod Completing
pub mod Extracting
pub mod Asked
pub mod Explaining
pub mod StaffKeys
pub mod Copying
pub mod OnTime
pub use Rattle.rd_commands.specs.Words
pub use Rattle.rd_commands.specs.CommandLine
pub use Rattle.rd_commands.specs.Zones
pub use Rattle.rd_commands.specs.Shown
pub use Rattle.rd_commands.specs.Asks
pub use Rattle.rd_commands.specs.Commands
pub use Rattle.rd_commands.specs.Refusals
pub use Rattle.rd_commands.specs.Output
pub use Rattle.rd_commands.specs.Input
pub use Rattle.rd_commands.specs.Cat
pub use Rattle.rd_commands.specs.Printed
pub use Rattle.rd_commands.specs.Listed
pub use Rattle.rd_commands.specs.RefusalLines
pub use Rattle.rd_commands.specs.Versions
-- ---- inside: what only private functions and proofs cite
-- Only private functions and proofs cite what follows a line `inside` in a file.
pub mod Faults
pub mod Answers
pub use Rattle.rd_commands.specs.Sheets
