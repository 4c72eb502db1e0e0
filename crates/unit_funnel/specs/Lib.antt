pub mod Funnel
