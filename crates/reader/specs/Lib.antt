pub mod Reader
pub mod Worked
