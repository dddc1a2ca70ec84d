pub mod Side
pub mod Search
pub mod Answer
pub mod Way
