pub mod SptLaws
