pub mod ResponseLemmas
pub mod OneChange
pub mod ReplyLemmas
pub mod BatchLemmas
pub mod ListLemmas
pub mod RehearsalLemmas
pub mod ShelfLemmas
