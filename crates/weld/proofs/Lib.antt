-- The lemmas that belong to no one function.
mod Walk
