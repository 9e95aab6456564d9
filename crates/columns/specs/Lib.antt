pub mod Columns
pub mod Rule
pub mod Table
pub mod Tested
