-- All kinds of image as one, by this project's rules over the manuals' fields. A found file (`Found`) is a file as
-- its image describes it: everything that the record says of it is true. What is told of a file or an image is what
-- something says or shows of it.
-- ---- what a reader of a public clause believes
pub mod Kinds
pub mod Lists
pub mod Printed
pub mod Words
pub mod Founds
pub mod CpmFounds
pub mod CbmFounds
pub mod Directories
pub mod Volumes
pub mod Reports
pub mod Disks
pub mod Parts
pub mod PiecesLeft
pub mod Fronts
pub mod Needed
-- ---- inside: what only private functions and proofs cite
pub mod Tells
pub mod Tallies
-- Proofs, for the laws that the `impl`s of `Volume` cite: a clause of src/ cites nothing of proofs/.
pub mod Ranges
pub mod CbmKinds
pub mod OneDirectory
pub mod Laws
pub mod AlikePieces
pub mod TellsAll
pub mod AlikeCpm
pub mod AlikeCbm
pub mod NeededLaw
