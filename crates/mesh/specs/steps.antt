-- What the inner functions of crate `mesh` promise to each other.
pub mod Axes
pub mod Fans
pub mod TriangleCorners
pub mod Items
