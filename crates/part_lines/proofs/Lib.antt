pub mod Counts
pub mod Ends
pub mod Lending
pub mod Walk
