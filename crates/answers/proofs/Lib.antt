pub mod Putting
pub mod Writing
pub mod Laws
pub mod Fits
pub mod Numbers
