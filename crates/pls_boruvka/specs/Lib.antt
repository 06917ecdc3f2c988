pub mod Fragments
pub mod Boruvka
pub mod inner
