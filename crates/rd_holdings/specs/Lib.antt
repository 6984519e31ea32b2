-- What a desk holds, by this project's rules. What stands is there now: a deed, an accession, a rule or a key. A put
-- adds a deed, an image, a rule or a key, or changes one that stands, but never an image; a drop removes a rule or a
-- key. The desk keeps the SHA-256 of each key (in its field `keys`), and no keys.
pub mod State
pub mod Lawful
pub mod RulesFor
pub mod Findings
