pub mod Text
pub mod Writer
pub mod Answers
pub mod Worked
pub mod Numbers
