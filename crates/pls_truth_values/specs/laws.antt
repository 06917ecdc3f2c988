pub mod Tested
pub mod AllLists
pub mod Joining
pub mod MarkTestLaws
pub mod PointerTestLaws
pub mod SearchTestLaws
