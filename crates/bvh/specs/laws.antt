-- The laws of the definitions of crate `bvh`.
pub mod BuildLaws
pub mod BuildTheorem
pub mod LeafLaws
pub mod SubtreeLaws
pub mod NodeLaws
pub mod MedianLaws
pub mod MedianTheorem
pub mod ExtentZeros
pub mod ExtentFirst
pub mod ExtentFolds
pub mod ExtentLoops
pub mod ExtentLaws
