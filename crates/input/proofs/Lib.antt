pub mod Laws
pub mod Table
pub mod Presence
pub mod Scan
pub mod Checks
pub mod Refusals
