pub mod Atom
pub mod Views
