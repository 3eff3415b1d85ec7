pub mod LentFaults
pub mod LentTypes
