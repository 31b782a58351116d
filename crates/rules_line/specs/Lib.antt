pub mod Conclusion
pub mod LineConclusion
pub mod Premises
pub mod SideTests
pub mod NewValue
pub mod SideConditions
pub mod Preset
pub mod RuleInstance
