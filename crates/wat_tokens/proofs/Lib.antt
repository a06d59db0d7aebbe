pub mod EscapeLemmas
pub mod CommentLemmas
pub mod StringLemmas
pub mod TokenLemmas
pub mod LengthLemmas
