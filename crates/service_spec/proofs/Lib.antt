pub mod AdmissionBranches
pub mod AccountNumbers
pub mod OpeningBranches
pub mod Isolation
pub mod Isolated
pub mod ServedByAdmission
pub mod ReplyBranches
pub mod Consequences
