pub mod Fitting
pub mod Stepping
pub mod OneRun
pub mod TwoRuns
pub mod Instance
