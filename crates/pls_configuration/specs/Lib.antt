pub mod Status
pub mod Verdict
pub mod Configuration
pub mod Rising
pub mod WalkBy
pub mod Walk
