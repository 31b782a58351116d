pub mod JoinedRun
pub mod ReplayAcross
pub mod Promise
