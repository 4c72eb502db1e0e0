pub mod Figure18
