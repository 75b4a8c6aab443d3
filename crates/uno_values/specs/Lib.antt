pub mod Fitting
pub mod References
pub mod Values
