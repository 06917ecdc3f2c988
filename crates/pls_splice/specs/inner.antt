pub mod Round
pub mod Keys
pub mod Finding
