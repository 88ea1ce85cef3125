pub mod Laws
pub mod Bits
pub mod Lanes
pub mod Forms
