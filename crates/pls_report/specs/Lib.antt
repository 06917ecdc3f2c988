pub mod Look
pub mod LookRows
pub mod ComponentLines
pub mod Report
pub mod inner
