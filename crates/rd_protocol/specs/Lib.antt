-- What may be asked, which refusal holds, what is replied and how it reads, by this project's rules; SHA-256 by FIPS
-- 180-4, statuses by RFC 9110, JSON by RFC 8259. A badge is the SHA-256 of the desk key that a caller gives. A body
-- is lent (`Lent`) if its bytes lie in an image and are not copied: its pieces are slices of that image.
-- ---- what a reader of a public clause believes
pub use Rattle.rd_holdings.specs.State
pub use Rattle.rd_holdings.specs.Lawful
pub use Rattle.rd_holdings.specs.RulesFor
pub use Rattle.rd_holdings.specs.Findings
pub mod Requests
pub mod Refusals
pub mod Lent
pub mod Kept
pub mod Bodies
pub mod Slices
pub mod BodyPieces
pub mod DayTexts
pub mod Texts
pub mod StaffLists
pub mod Checks
pub mod Catalogues
pub mod Judged
pub mod Verdicts
pub mod Rehearsals
pub mod VerdictTables
pub mod Replies
pub mod VerdictLaws
pub mod RehearsalLaws
pub mod ReadableData
pub mod RuleTexts
pub mod StaffListLaws
pub mod Laws
pub mod Shown
pub mod Hidden
pub mod Parts
-- ---- inside: what only private functions and proofs cite
pub mod Written
pub mod Tokens
pub mod UnitBytes
pub mod Queries
