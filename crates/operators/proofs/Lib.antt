pub mod Strengths
pub mod Stands
pub mod Longest
