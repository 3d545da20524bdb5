-- The laws of the definitions of crate `scan`.
pub mod ScanLaws
pub mod RayLaws
pub mod BoxLaws
pub mod SlabLaws
