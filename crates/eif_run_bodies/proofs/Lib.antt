pub mod KernelBodies
pub mod Constants
pub mod TypesOfBodies
pub mod Locals
pub mod WrittenBodies
pub mod LawfulBodies
