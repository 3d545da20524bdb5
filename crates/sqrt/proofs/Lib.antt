pub mod RootTheorem
mod DigitRoot
mod Settling
mod RootBits
