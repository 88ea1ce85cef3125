pub mod Permutations
pub mod Rates
pub mod Tables
pub mod Codes
pub mod Refusals
pub mod Worked
pub mod Parameters
