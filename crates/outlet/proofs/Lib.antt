pub mod Layered
pub mod Tested
pub mod Recurrence
pub mod Digits
pub mod Storings
pub mod Leveled
