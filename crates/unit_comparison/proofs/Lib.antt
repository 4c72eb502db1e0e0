pub mod Bitwise
pub mod Laws
