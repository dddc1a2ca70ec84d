pub mod Cut
pub mod Rebasing
pub mod Cases
pub mod NineteenExactly
pub mod Passing
pub mod Room
