-- The laws of the definitions of crate `geom`.
pub mod PolygonLaws
