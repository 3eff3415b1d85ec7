pub mod Bound
pub mod FaultSets
pub mod KernelFeatures
pub mod Wholeness
