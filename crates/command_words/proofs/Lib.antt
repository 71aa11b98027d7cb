pub mod WordLemmas
pub mod DigitLemmas
pub mod CutLemmas
pub mod JudgedLemmas
pub mod AskedLemmas
pub mod AreaLemmas
