pub mod Cells
pub mod Calls
pub mod Held
pub mod Law
pub mod Numbers
pub mod Runs
pub mod Tally
