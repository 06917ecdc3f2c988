mod Worked
mod Rounding
mod Turning
mod GoingRound
mod ComingHome
pub mod OneOrder
mod NoRing
mod KeyWords
mod FirstPair
mod Passing
mod Keyed
mod Swapping
mod EdgeEnds
pub mod CrossedRows
pub mod SameViews
mod OneRing
mod TwoParts
mod Halves
pub mod Parted
pub mod NoLeader
