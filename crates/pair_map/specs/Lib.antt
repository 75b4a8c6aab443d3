pub mod ByOid
pub mod Faces
pub mod Layout
