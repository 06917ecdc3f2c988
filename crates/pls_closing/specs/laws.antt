-- The laws of lists that close.
pub mod ClosedLists
