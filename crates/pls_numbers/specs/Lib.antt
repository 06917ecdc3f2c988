pub mod Numbers
pub mod Shape
pub mod Fixed
pub mod Taking
pub mod laws
