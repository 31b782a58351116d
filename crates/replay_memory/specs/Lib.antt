pub mod View
pub mod Write
pub mod WriteTable
pub mod Memory
pub mod Insert
pub mod MemoryStands
pub mod Access
pub mod Bytes
