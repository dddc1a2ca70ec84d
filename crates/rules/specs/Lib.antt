-- Cells and the rules of document 01 about them.
pub mod Cell
pub mod PartRules
pub mod Rules
-- The same place, found in one pass.
pub mod PartLowest
pub mod Lowest
-- The calls.
pub mod Calls
