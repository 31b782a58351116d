pub mod BranchTests
pub mod Numbers
pub mod PassedTests
pub mod PaperLimits
