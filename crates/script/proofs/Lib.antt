pub mod Glyphs
pub mod Numerals
pub mod Parting
pub mod Prefixes
pub mod Steps
pub mod Texts
