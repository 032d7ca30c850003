pub mod Tree
pub mod Table
pub mod Grouped
pub mod Worked
pub mod Statement
