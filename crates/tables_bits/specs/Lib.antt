pub mod Bits
pub mod TruthTable
