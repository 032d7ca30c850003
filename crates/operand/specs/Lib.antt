pub mod Operand
pub mod Matching
pub mod Worked
