pub mod Process
