pub mod Rebased
pub mod Faults
pub mod Alike
pub mod OneRecord
pub mod OpenEnds
pub mod Counts
pub mod GreatestEnd
pub mod Constants
