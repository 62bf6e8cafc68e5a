mod Laws
pub mod Fits
