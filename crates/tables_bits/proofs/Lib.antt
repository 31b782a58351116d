pub mod BitBranches
pub mod BitFacts
pub mod BitsShow
pub mod TruthTableBranches
