pub mod SumsByKey
pub mod SumsCounted
pub mod CountBranches
pub mod AccountBranches
pub mod BillUncut
pub mod ThreadsLoop
pub mod BillBranches
pub mod Consequences
