pub mod Marks
pub mod Bounded
pub mod Accept
pub mod Judged
pub mod Moved
pub mod Ranged
pub mod JudgedConsequences
