pub mod Copies
pub mod VerdictBranches
pub mod TextBranches
pub mod ReadBack
pub mod Worked
