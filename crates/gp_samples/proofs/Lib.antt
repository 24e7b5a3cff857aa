pub mod Rounded
pub mod Frames
pub mod ReadOut
pub mod Offers
pub mod Keeping
pub mod BothEnds
