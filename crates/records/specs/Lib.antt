pub mod Forest
pub mod Parse
pub mod Check
pub mod Answer
pub mod Taking
pub mod Nine
pub mod OneRecord
