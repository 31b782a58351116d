pub mod Advance
pub mod SlotColumn
pub mod ValueColumn
pub mod RowsOf
