pub mod BelowAny
