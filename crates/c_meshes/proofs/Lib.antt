-- Facts about the definitions, for the proofs.
mod Welding
