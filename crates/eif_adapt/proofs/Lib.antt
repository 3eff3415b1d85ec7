pub mod InTurn
pub mod Judged
pub mod Listed
pub mod OneOn
pub mod Places
pub mod Sets
