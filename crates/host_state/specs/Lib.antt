pub mod Store
pub mod Load
