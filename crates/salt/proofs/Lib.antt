pub mod Admitted
mod Draws
