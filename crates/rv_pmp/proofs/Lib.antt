pub mod AlignedSpan
pub mod Deciding
pub mod Pieces
pub mod Spans
