pub mod StarredImage
pub mod StarredCases
