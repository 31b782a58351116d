pub mod Entailment
pub mod EveryRow
pub mod ByRows
pub mod ByTable
