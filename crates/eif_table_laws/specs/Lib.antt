pub mod WholeClasses
