pub mod Bytes
pub mod Extents
pub mod Holders
pub mod Origins
pub mod Sums
pub mod Trees
