mod PrintedLemmas
mod WordLemmas
mod ListLemmas
pub mod FoundFile
mod CpmLemmas
mod CbmLemmas
mod PieceLemmas
mod FrontLemmas
mod CountLemmas
mod CpmReport
mod CbmReport
mod OneFaults
pub mod OneFound
pub mod OneSurvey
pub mod OneContents
pub mod Existence
