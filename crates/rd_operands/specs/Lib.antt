-- What people give a command beside its plain words: by this project's rules the key in the first line of a file, and
-- the first moment of a day; by RFC 9636 the zone of a file of the time zone database. And the names for the files of an
-- image: of POSIX's portable set, and none that Windows keeps for a device.
-- ---- what a reader of a public clause believes
pub mod FileNames
pub mod KeyFiles
pub mod Moments
pub mod ZoneFiles
