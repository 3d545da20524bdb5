-- The definitions of the program `point_list`.
pub mod Printed
