pub mod RootedLaws
pub mod LeaderLaws
pub mod CountNumbers
pub mod CountShow
mod CountRight
pub mod CountLaws
