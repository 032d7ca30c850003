pub mod TokenSet
pub mod Strength
pub mod Longest
