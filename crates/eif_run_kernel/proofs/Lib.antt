pub mod FinalClasses
pub mod Heirs
pub mod KernelObjects
pub mod LawfulKernel
