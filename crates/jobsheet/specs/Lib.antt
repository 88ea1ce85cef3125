-- What a reader has to believe.
pub mod Text
pub mod Names
pub mod Values
pub mod Jobs
pub mod Parity
pub mod Refusals
pub mod Printing
pub mod Printout
pub mod Law
pub mod Sheets
-- What only the contracts of inner functions cite.
pub mod Splitting
pub mod Tokens
pub mod Recognition
pub mod JobSteps
pub mod Steps
pub mod Printers
