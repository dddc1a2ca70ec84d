pub mod Going
pub mod Steps
pub mod Starting
pub mod Loop
