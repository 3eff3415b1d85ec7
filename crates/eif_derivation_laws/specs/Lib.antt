pub mod GivenDerivations
