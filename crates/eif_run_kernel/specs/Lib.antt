pub mod LawfulKernel
