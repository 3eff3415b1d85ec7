pub mod LawfulBodies
