-- What private functions of the schemes say to each other.
pub mod ShortForm
