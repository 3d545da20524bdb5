mod Filling
mod Pairing
