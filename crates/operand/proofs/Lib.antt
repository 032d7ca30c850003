pub mod Laws
pub mod Matching
