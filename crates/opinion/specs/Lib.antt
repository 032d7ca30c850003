pub mod Step
pub mod Faults
pub mod First
pub mod Worked
