pub mod DecodeBranches
