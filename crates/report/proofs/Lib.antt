pub mod Counting
pub mod Cutting
pub mod Enough
pub mod Pairs
pub mod Wording
