pub mod Admitted
pub mod Draws
pub mod Faults
pub mod Token
