pub mod Powers
pub mod Reduction
pub mod Roots
pub mod Tables
