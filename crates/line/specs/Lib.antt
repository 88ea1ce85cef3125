pub mod Refusals
pub mod Frames
pub mod Book
pub mod Follow
pub mod Calls
pub mod Law
