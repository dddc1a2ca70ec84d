pub mod Due
pub mod Ends
pub mod Passing
pub mod Finishing
pub mod Holding
pub mod Closing
