pub mod Filling
pub mod Marks
pub mod Readings
