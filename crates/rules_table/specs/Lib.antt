pub mod FitTree
pub mod RuleTable
pub mod TableTest
