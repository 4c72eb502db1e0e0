pub mod Bits
pub mod Look
pub mod Rows
pub mod First
