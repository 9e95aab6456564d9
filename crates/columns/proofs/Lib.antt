pub mod Picks
pub mod Tested
