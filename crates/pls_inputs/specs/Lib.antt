pub mod Parts
pub mod Order
pub mod Read
pub mod inner
