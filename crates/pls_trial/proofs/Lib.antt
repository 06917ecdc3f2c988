pub mod Linking
pub mod Numbered
pub mod Alone
pub mod Refused
pub mod Pointing
pub mod Putting
pub mod Grown
pub mod Smaller
pub mod Spanning
pub mod Made
mod Worked
