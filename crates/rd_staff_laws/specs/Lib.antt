-- Laws of what the staff may ask, over the definitions of `rd_protocol`. No code calls them.
pub mod PutAgain
pub mod RehearsedCommands
pub mod SizedFiles
pub mod LatestChecks
pub mod Descriptions
