pub mod Combine
pub mod Column
pub mod Slots
pub mod Gather
pub mod Count
pub mod LeafEqual
