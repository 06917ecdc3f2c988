pub mod FrontLaws
pub mod NumberFrontLaws
pub mod LetterFrontLaws
pub mod DepthLaws
