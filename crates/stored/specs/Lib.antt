pub mod Stored
pub mod Valid
pub mod Worked
