-- Packed parts: the rules, the one pass and the trees they hold.
pub mod Tests
pub mod Entries
pub mod PartBounds
pub mod PartTrees
pub mod PartRead
pub mod PartWritten
pub mod PartRanges
-- The one pass names the cell that the rules name.
pub mod Keeping
pub mod Links
pub mod Opens
pub mod Sited
pub mod OneCell
pub mod Pushes
pub mod SamePlace
-- Accepted cells are those of trees that keep the rules.
pub mod Grown
pub mod Decoded
pub mod Listed
pub mod CellsKept
pub mod Runs
pub mod Encoded
pub mod Accepted
-- The calls.
pub mod CallLaws
pub mod RunCalls
pub mod ListedInTurn
-- Examples by computation.
pub mod Examples
pub mod CallExamples
pub mod Constants
