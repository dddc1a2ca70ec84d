pub mod Part
pub mod Rebased
pub mod Answer
pub mod Open
