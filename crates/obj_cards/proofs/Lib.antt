pub mod Laying
pub mod TxtLaws
pub mod EndLaws
pub mod RldLaws
pub mod EsdLaws
