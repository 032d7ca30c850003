pub mod Lists
pub mod Runs
pub mod Steps
pub mod Demand
pub mod Worked
pub mod Programs
