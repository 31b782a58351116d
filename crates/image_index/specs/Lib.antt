pub mod IndexTable
