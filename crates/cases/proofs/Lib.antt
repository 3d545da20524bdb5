pub mod TableTheorem
