pub mod Accepted
pub mod Deciding
pub mod Fitting
pub mod HeldRules
pub mod LookedAt
pub mod Markings
pub mod MorePorts
pub mod Passing
pub mod SaidPorts
pub mod Storing
mod Rejecting
