pub mod Billed
pub mod FileCounted
pub mod HandedOver
pub mod Replayed
pub mod ReplayedAcross
pub mod Trimmed
pub mod VerdictBranches
pub mod VerdictSame
