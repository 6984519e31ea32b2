-- What words ask of the program, what it writes of an image, and its refusals: `clap`'s own definitions for words,
-- else this project's rules.
-- ---- what a reader of a public clause believes
pub mod Words
pub mod CommandLine
pub mod OneCommand
pub mod Zones
pub mod CommonOptions
pub mod Serving
pub mod Shown
pub mod Asks
pub mod Parsed
pub mod Commands
pub mod Refusals
pub mod Output
pub mod Input
pub mod Cat
pub mod Printed
pub mod Listed
pub mod RefusalLines
pub mod Sheets
pub mod Explaining
pub mod Versions
pub mod Helps
pub mod Mistakes
