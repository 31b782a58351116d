pub mod SourceOf
