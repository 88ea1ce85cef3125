pub mod Refusals
pub mod Marker
pub mod Message
pub mod Reading
