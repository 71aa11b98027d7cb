pub mod Agreeing
pub mod Listed
pub mod Patched
pub mod Ready
pub mod Relocated
