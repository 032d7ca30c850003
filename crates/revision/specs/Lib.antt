pub mod Revision
pub mod Exact
