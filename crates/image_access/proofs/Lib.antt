pub mod Places
pub mod PositionTrees
pub mod RuleForm
pub mod AccessAgree
