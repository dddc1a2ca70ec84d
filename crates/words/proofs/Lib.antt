pub mod Stores
pub mod Runs
pub mod Firsts
pub mod Outcomes
pub mod Refusals
