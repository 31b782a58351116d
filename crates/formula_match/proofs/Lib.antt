pub mod MatchFills
pub mod TemplateFilled
pub mod MatchBranches
pub mod MatchWholeBranches
pub mod TreesAgree
