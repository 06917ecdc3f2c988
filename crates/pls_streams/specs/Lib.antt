pub mod Decimal
pub mod Gathered
pub mod OverStd
pub mod Plan
pub mod Quantity
pub mod Steps
pub mod Streams
pub mod inner
