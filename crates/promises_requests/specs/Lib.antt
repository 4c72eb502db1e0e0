pub mod Standstill
pub mod UpperAddress
