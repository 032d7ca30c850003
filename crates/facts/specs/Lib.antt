pub mod Facts
pub mod Tight
