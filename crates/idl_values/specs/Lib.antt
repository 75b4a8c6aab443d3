pub mod Graph
pub mod Keys
pub mod Known
pub mod Origins
pub mod Places
pub mod Told
