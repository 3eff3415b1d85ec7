pub mod WrittenClauses
