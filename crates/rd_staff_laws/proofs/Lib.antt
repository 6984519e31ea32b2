pub mod PutAgain
pub mod RehearsedCommands
pub mod SizedFiles
pub mod LatestChecks
pub mod Descriptions
