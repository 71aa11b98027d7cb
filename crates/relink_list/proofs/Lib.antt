pub mod WritableBytes
pub mod Beginning
pub mod Printing
