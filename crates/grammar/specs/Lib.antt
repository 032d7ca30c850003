pub mod Expressions
pub mod Views
pub mod Forms
