-- What private functions say to each other.
pub mod RowsScan
pub mod RowsRead
pub mod NetworkLines
pub mod RowsKept
