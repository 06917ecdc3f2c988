mod MorePorts
mod Followed
pub mod Worked
