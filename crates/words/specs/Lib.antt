pub mod Outcome
pub mod Words
pub mod First
pub mod Refusal
