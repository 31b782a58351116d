pub mod PassedFrame
pub mod Branches
pub mod KindCounts
