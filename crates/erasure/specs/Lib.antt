pub mod Unknowns
pub mod Demands
pub mod Solutions
pub mod Marks
pub mod Fits
pub mod Places
pub mod Refusals
pub mod Fill
