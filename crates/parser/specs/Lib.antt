pub mod Calls
pub mod Public
pub mod Prog
mod Worked
